use Rattle.minimality_test.proofs.SearchLemmas.{searched}
use Rattle.minimality_test.proofs.testing.ask_for_part.Goals as goal

pub returns : goal.returns
returns c lives =
    let on = c.ask.ensures.on (c.ask.ensures.alive lives) in
    searched c.args.engine.now.theory c.args.engine.now.state c.ask.new.self.state
    c.args.engine.now.defined c.args.engine.now.dead c.requires.search c.args.budget.now
    c.ask.new.budget c.requires.unused on c.limit-limit.result c.limit-limit.ensures c.ask.result
    (c.ask.ensures.answer lives)
