use Rattle.completion.proofs.ChainLemmas.{read_supports}
use Rattle.completion.proofs.support_clauses.read_bodies.Goals as goal

pub returns : goal.returns
returns c =
    read_supports c.args.normal.now c.args.supports.now c.args.atom c.as_slice.result.now
    c.index-last.result.now c.read_back.new.lits.items c.reverse.new.self.items
    c.requires.supports c.requires.last c.as_slice.ensures.value c.index-last.ensures
    c.in_ok-read_back.ensures c.reverse.ensures.items
