-- Laws of what is learned. Each is a clause of a function in src/laws.rt.
use Rattle.std.specs.Prelude.{◌≡◌, ◌<◌, ℕ, List, All}
use Rattle.clause_store.specs.declared.literal.Lit.{Lit}
use Rattle.clause_store.specs.declared.step.Step.{Step}
use Rattle.clause_store.specs.Entailment.{others}
use Rattle.clause_store.specs.Standing.{IsFalse, ForcesOn}
use Rattle.clause_store.specs.Trail.{Assigned, IsTrail, present_level, up_to}
use Rattle.conflict_learning.specs.Analysis.{IsAsserting, greatest_level}

-- above level 0 the greatest level of the literals beside an asserting one is a lower level
abbrev pub BackIsLower : Type 0
BackIsLower =
    (steps : List Step) (clause : List Lit) (lit : Lit) → 0 < present_level steps
    → IsAsserting steps clause lit → greatest_level steps (others clause lit) < present_level steps

-- a false clause with an asserting literal is a unit with that literal, once all assignments above
-- the greatest level of its other literals are gone
abbrev pub LearnedIsAUnit : Type 0
LearnedIsAUnit =
    (trail : Assigned) (clause : List Lit) (lit : Lit) (back : ℕ) → IsTrail trail
    → 0 < present_level trail.steps → All (IsFalse trail.steps) clause
    → IsAsserting trail.steps clause lit → back ≡ greatest_level trail.steps (others clause lit)
    → ForcesOn (up_to back trail.steps) clause lit
