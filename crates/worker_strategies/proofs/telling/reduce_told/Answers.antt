use Rattle.std.proofs.Common.{subst, sym}
use Rattle.coherence_test.specs.Asked.{IsTested, IsTestedAt}
use Rattle.worker_jobs.specs.declared.job.Job.TheVariants.{Reduce}
use Rattle.worker_strategies.specs.Disjunction.{asked_for}
use Rattle.worker_strategies.specs.Outcome.{IsAnswer}
use Rattle.worker_strategies.proofs.ReduceLemmas.{reduce_found}
use Rattle.worker_strategies.proofs.telling.reduce_told.Goals as goal

pub returns-in_ok-gain-in-Found : goal.returns-in_ok-gain-in-Found
returns-in_ok-gain-in-Found c normal mode is job says stop after at = (
  subst (IsAnswer normal mode (Reduce c.args.cands.now)) (sym c.in_ok-gain-in-Found.ensures)
      (reduce_found normal mode c.args.cands.now is job c.in-Found.set
      (subst (IsTested normal (asked_for normal.names mode (Reduce c.args.cands.now)))
      c.in-Found.is says)),
  subst (IsTestedAt stop after) c.in-Found.is at,
)

pub returns-in_ok-gain-in-Core : goal.returns-in_ok-gain-in-Core
returns-in_ok-gain-in-Core c normal mode is job says stop after at = (
  c.in_ok-gain-in-Core.ensures normal mode is job
      (subst (IsTested normal (asked_for normal.names mode (Reduce c.args.cands.now)))
      c.in-Core.is says),
  subst (IsTestedAt stop after) c.in-Core.is at,
)

pub returns-in-Paused : goal.returns-in-Paused
returns-in-Paused c normal mode is job says stop after at =
    (tt, subst (IsTestedAt stop after) c.in-Paused.is at)

pub returns-in-Spent : goal.returns-in-Spent
returns-in-Spent c normal mode is job says stop after at =
    (tt, subst (IsTestedAt stop after) c.in-Spent.is at)

pub returns-in-SpentInside : goal.returns-in-SpentInside
returns-in-SpentInside c normal mode is job says stop after at =
    let spent =
    subst (IsTested normal (asked_for normal.names mode (Reduce c.args.cands.now)))
    c.in-SpentInside.is says in
    let counted = subst (IsTestedAt stop after) c.in-SpentInside.is at in (
      tt,
      record {
        within = spent.within;
        all = counted.1;
        literal = tt;
      },
      counted.0,
    )
