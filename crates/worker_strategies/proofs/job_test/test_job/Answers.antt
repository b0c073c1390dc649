use Rattle.std.proofs.Common.{subst, sym}
use Rattle.worker_jobs.specs.declared.job.Job.{Job}
use Rattle.worker_strategies.specs.Disjunction.{disjunction_for}
use Rattle.worker_strategies.specs.Testing.{HasTested}
use Rattle.worker_strategies.proofs.AskedLemmas.{nothing_tested}
use Rattle.worker_strategies.proofs.job_test.test_job.Goals as goal

pub returns-in-Idle-clause-tested : goal.returns-in-Idle-clause-tested
returns-in-Idle-clause-tested c =
    let tester = c.args.tester.now in
    let counted = c.args.budget.now in
    subst
    (λ (job : Job). HasTested (disjunction_for c.args.normal.now.names c.args.mode job) tester
    tester counted counted) (sym c.in-Idle.is) (nothing_tested tester counted c.requires.alive)
