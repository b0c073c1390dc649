use Rattle.std.proofs.Common.{◌≡◌, ◌<◌, take}
use Rattle.std.specs.Prelude.{All}
use Rattle.clause_store.specs.declared.literal.Value.TheVariants.{Unset}
use Rattle.clause_store.specs.Trail.{value_of}
use Rattle.weight_propagator.specs.declared.row.Term.{Term}
use Rattle.weight_propagator.proofs.row.Row.unset_of.Given as goal

abbrev pub invariant-loop-term : goal.invariant-loop-term
invariant-loop-term l =
    All (λ (term : Term). value_of l.trail.steps term.lit ≡ Unset → term.weight < l.least)
    (take l.term-index l.term-items)
