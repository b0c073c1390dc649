use Rattle.worker_strategies.proofs.FactLemmas.{completed_round, facts_same}
use Rattle.worker_strategies.proofs.worker.work.Goals as goal

pub complete-requires-clause-facts : goal.complete-requires-clause-facts
complete-requires-clause-facts c =
    facts_same c.args.rounds.now c.round.new.self c.args.facts.now c.round.ensures.same
    c.requires.facts

pub returns-clause-round : goal.returns-clause-round
returns-clause-round c =
    completed_round c.args.rounds.now c.round.new.self c.args.job.now c.args.slice
    c.in_ok-gain.gain c.complete.new.gain c.round.ensures.same.normal c.round.ensures.same.mode
    c.in_ok-gain.ensures.round c.in_ok-complete.ensures.gain
