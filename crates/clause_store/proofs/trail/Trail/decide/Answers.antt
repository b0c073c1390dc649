use Rattle.std.proofs.Common.{◌+◌, None, subst, sym, refl}
use Rattle.clause_store.specs.Trail.{StaysTrail}
use Rattle.clause_store.proofs.ReasonLemmas.{stays_decision}
use Rattle.clause_store.proofs.trail.Trail.decide.Goals as goal

pub returns-clause-stays : goal.returns-clause-stays
returns-clause-stays c =
    subst (λ trail. StaysTrail c.args.self.now.steps trail.steps) (sym c.put.ensures)
    (stays_decision c.args.self.now.steps
    (record { lit = c.args.lit; reason = None; level = c.level-level.result + 1 }) refl)
