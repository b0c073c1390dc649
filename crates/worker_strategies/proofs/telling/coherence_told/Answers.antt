use Rattle.std.proofs.Common.{subst, sym}
use Rattle.coherence_test.specs.Asked.{IsTested, IsTestedAt}
use Rattle.worker_jobs.specs.declared.job.Job.TheVariants.{Coherence}
use Rattle.worker_strategies.specs.Disjunction.{asked_for}
use Rattle.worker_strategies.specs.Outcome.{IsAnswer}
use Rattle.worker_strategies.proofs.GainLemmas.{coherence_found}
use Rattle.worker_strategies.proofs.GainLemmas.{coherence_refuted}
use Rattle.worker_strategies.proofs.telling.coherence_told.Goals as goal

pub returns-in-Found : goal.returns-in-Found
returns-in-Found c normal mode is job says stop after at = (
  subst (IsAnswer normal mode Coherence) (sym c.in_ok-gain-in-Found.ensures)
      (coherence_found normal mode c.in-Found.set
      (subst (IsTested normal (asked_for normal.names mode Coherence)) c.in-Found.is says).answers),
  subst (IsTestedAt stop after) c.in-Found.is at,
)

pub returns-in-Core : goal.returns-in-Core
returns-in-Core c normal mode is job says stop after at = (
  subst (IsAnswer normal mode Coherence) (sym c.incoherent.ensures)
      (coherence_refuted normal mode _
      (subst (IsTested normal (asked_for normal.names mode Coherence)) c.in-Core.is says)),
  subst (IsTestedAt stop after) c.in-Core.is at,
)

pub returns-in-Paused : goal.returns-in-Paused
returns-in-Paused c normal mode is job says stop after at =
    (tt, subst (IsTestedAt stop after) c.in-Paused.is at)

pub returns-in-Spent : goal.returns-in-Spent
returns-in-Spent c normal mode is job says stop after at =
    (tt, subst (IsTestedAt stop after) c.in-Spent.is at)

pub returns-in-SpentInside : goal.returns-in-SpentInside
returns-in-SpentInside c normal mode is job says stop after at =
    let spent =
    subst (IsTested normal (asked_for normal.names mode Coherence)) c.in-SpentInside.is says in
    let counted = subst (IsTestedAt stop after) c.in-SpentInside.is at in (
      tt,
      record {
        within = spent.within;
        all = counted.1;
        literal = tt;
      },
      counted.0,
    )
