use Rattle.std.proofs.Common.{◌≢◌, List, sym, subst}
use Rattle.std.specs.Prelude.{All}
use Rattle.clause_store.specs.declared.step.Step.{Step}
use Rattle.clause_store.specs.Clause.{variable}
use Rattle.weight_propagator.specs.Weighed.{Weighed}
use Rattle.weight_propagator.specs.Kept.{AreKept}
use Rattle.weight_propagator.proofs.KeptSumLemmas.{kept_within, kept_more}
use Rattle.weight_propagator.proofs.weights.Weights.follow_step.Goals as goal

pub turn-requires-clause-within : goal.turn-requires-clause-within
turn-requires-clause-within c =
    kept_within c.self.inside.inside.value c.self.inside.made_of.value c.self.inside.rows.items
    c.self.inside.occurrences c.self.inside.tally c.self.inside.followed.items c.self.invariant

pub invariant_of-self-2 : goal.invariant_of-self-2
invariant_of-self-2 c =
    subst
    (λ (steps : List Step). AreKept c.self.inside.inside.value c.self.inside.made_of.value
    c.self.inside.rows.items c.self.inside.occurrences c.turn.new.self steps)
    (sym c.in_ok-push.ensures.items)
    (kept_more c.self.inside.inside.value c.self.inside.made_of.value c.self.inside.rows.items
    c.self.inside.occurrences c.self.inside.tally c.self.inside.followed.items c.args.step
    c.turn.new.self c.self.invariant
    (subst
    (λ (it : Weighed). All (λ one. variable one.lit ≢ variable c.args.step.lit) it.followed)
    (sym c.self.view_is) c.requires) c.turn.ensures)
