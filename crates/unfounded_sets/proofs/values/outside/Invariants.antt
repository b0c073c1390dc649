use Rattle.std.proofs.Common.{◌≡◌, ◌≤◌, ◌<◌, ℕ}
use Rattle.ground_program.specs.Meaning.{IsIn}
use Rattle.clause_store.specs.Trail.{value_of}
use Rattle.normal_program.specs.Clauses.{positive}
use Rattle.unfounded_sets.proofs.values.outside.Given as goal

abbrev pub invariant-loop-atom : goal.invariant-loop-atom
invariant-loop-atom l =
    (1 ≤ l.atom)
    × ((one : ℕ) → 1 ≤ one → one < l.atom
    → value_of l.trail.steps (positive one) ≡ l.value → IsIn l.founded one)
