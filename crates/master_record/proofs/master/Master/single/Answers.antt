use Rattle.std.proofs.Common.{◌≡◌, ◌+◌, refl, sym, subst, ⊎_elim, inl, arith}
use Rattle.std.proofs.lemmas.Bool.{cases_lt}
use Rattle.worker_jobs.specs.declared.job.Job.TheVariants.{Single}
use Rattle.master_record.specs.Jobs.{IsUntested, IsTaken}
use Rattle.master_record.proofs.master.Master.single.Goals as goal

pub returns-then-is_free : goal.returns-then-is_free
returns-then-is_free c =
    inl (
      c.loop-place.place + 1,
      refl,
      record {
        untested = (c.if-is_free.ensures.free refl).0;
        free = (c.if-is_free.ensures.free refl).1;
        least = λ other less untested. c.loop-place.invariant other (omega (arith, less)) untested;
      },
    )

pub loop-place-preserved : goal.loop-place-preserved
loop-place-preserved c = λ other low untested.
    ⊎_elim
    (λ less. c.loop-place.invariant other (omega (arith, less)) untested)
    (λ past.
    let same : other ≡ c.loop-place.place + 1 = omega (arith, low, past) in
    subst (λ n. IsTaken c.args.self.now c.args.earlier.now c.args.later.now (Single n)) (sym same)
    (c.if-is_free.ensures.taken refl (subst (IsUntested c.args.self.now) same untested)))
    (cases_lt other (c.loop-place.place + 1))
