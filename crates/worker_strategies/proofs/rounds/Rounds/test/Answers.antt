use Rattle.std.proofs.Common.{subst, sym, true}
use Rattle.worker_jobs.specs.declared.job.Job.{Job}
use Rattle.worker_strategies.specs.Disjunction.{disjunction_for}
use Rattle.worker_strategies.specs.Rounds.{main_of, tester_for}
use Rattle.worker_strategies.specs.Testing.{HasTested}
use Rattle.worker_strategies.proofs.AskedLemmas.{nothing_tested}
use Rattle.worker_strategies.proofs.rounds.Rounds.test.Goals as goal

pub returns-in-Idle-clause-tested : goal.returns-in-Idle-clause-tested
returns-in-Idle-clause-tested c =
    let old = c.args.self.now in
    let counted = c.args.budget.now in
    subst
    (λ (job : Job). HasTested (disjunction_for old.normal.names old.mode job)
    (tester_for old job c.args.goes_on) (tester_for old job true) counted counted)
    (sym c.in-Idle.is) (nothing_tested (main_of old) counted c.requires.ready.is_main.alive)
