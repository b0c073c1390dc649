use Rattle.std.proofs.Common.{List, subst}
use Rattle.clause_store.specs.declared.step.Step.{Step}
use Rattle.weight_propagator.specs.Kept.{AreKept}
use Rattle.weight_propagator.proofs.KeptSumLemmas.{kept_within, kept_less}
use Rattle.weight_propagator.proofs.weights.Weights.forget.Goals as goal

pub turn-requires-clause-within : goal.turn-requires-clause-within
turn-requires-clause-within c =
    kept_within c.self.inside.inside.value c.self.inside.made_of.value c.self.inside.rows.items
    c.self.inside.occurrences c.self.inside.tally c.self.inside.followed.items c.self.invariant

pub invariant_of-self : goal.invariant_of-self
invariant_of-self c =
    kept_less c.self.inside.inside.value c.self.inside.made_of.value c.self.inside.rows.items
    c.self.inside.occurrences c.self.inside.tally c.pop.new.self.items c.in-Some.step
    c.turn.new.self
    (subst
    (λ (steps : List Step). AreKept c.self.inside.inside.value c.self.inside.made_of.value
    c.self.inside.rows.items c.self.inside.occurrences c.self.inside.tally steps)
    c.in-Some.ensures.items c.self.invariant) c.turn.ensures
