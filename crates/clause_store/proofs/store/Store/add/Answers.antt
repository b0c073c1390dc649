use Rattle.clause_store.proofs.TrailLemmas.{trails_after}
use Rattle.clause_store.proofs.store.Store.add.Goals as goal

pub returns-clause-trails : goal.returns-clause-trails
returns-clause-trails c =
    trails_after c.put.result c.args.self.now c.put.new.self c.args.lits.now c.put.ensures.ok
    c.put.ensures.err
