use Rattle.watched_literals.proofs.LinkLemmas.{two_more}
use Rattle.watched_literals.proofs.chains.Chains.put_two.Goals as goal

pub returns : goal.returns
returns c =
    two_more c.args.one c.args.two c.args.self.now c.put.new.self c.put-2.new.self
    (record { nodes = c.put.ensures.nodes; heads = c.put.ensures.heads })
    (record { nodes = c.put-2.ensures.nodes; heads = c.put-2.ensures.heads })
    c.requires.room c.requires.one c.requires.two
