use Rattle.std.proofs.Common.{◌≡◌, false, refl, sym, true≢false, inl, inr, rules}
use Rattle.master_record.proofs.master.Master.job.Goals as goal

pub returns-then-looks_for_one : goal.returns-then-looks_for_one
returns-then-looks_for_one c =
    let alive : c.args.worker.now.dead ≡ false = search rules in
    inr (inr (
      alive,
      λ goes. true≢false (sym (c.if-goes_on.ensures.1 goes)),
      inl (c.if-looks_for_one.ensures.0 refl, refl),
    ))
