use Rattle.worker_strategies.proofs.AskedLemmas.{asked_tested}
use Rattle.worker_strategies.proofs.asking.ask.Goals as goal

pub returns-in_default-clause-tested : goal.returns-in_default-clause-tested
returns-in_default-clause-tested c =
    let some = c.in_default.not-NoMemory in
    let said = c.test.ensures in
    asked_tested c.args.asked.now.any c.args.tester.now c.test.new.self c.args.budget.now
    c.test.new.budget (said.added some) said.counted (said.beside some) (said.used some)
    (said.alive some) said.normal
