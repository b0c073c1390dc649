use Rattle.std.proofs.Common.{sym, subst, inl, inr, arith}
use Rattle.master_record.specs.Jobs.{IsSingle, IsReduction, IsChunk}
use Rattle.master_record.proofs.master.Master.mixed.Goals as goal
use Rattle.master_record.proofs.master.Master.mixed.Goals.{in-1, in-2+in_ok-job-in-2}
use Rattle.master_record.proofs.master.Master.mixed.Goals.{in_default+in_ok-job-in_default}

pub returns : goal.returns
returns c =
    let books = c.args.self.now in
    let earlier = c.args.earlier.now in
    let worker = c.args.worker.now in
    let later = c.args.later.now in
    elim c.match-number-rem3.branch [
      | in-1 w ↦ inl (
        omega arith,
        subst (IsSingle books earlier later) (sym w.job-is) w.single-job.ensures,
      )
      | in-2+in_ok-job-in-2 w ↦ inr (inl (
        omega arith,
        subst (IsReduction books earlier worker later) (sym w.job-is) w.in_ok-job-in-2.ensures,
      ))
      | in_default+in_ok-job-in_default w ↦ inr (inr (
        omega arith,
        subst (IsChunk books 16 earlier worker later) (sym w.job-is)
            w.in_ok-job-in_default.ensures,
      ))
    ]
