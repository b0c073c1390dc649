-- A trail is the list of its assignments in order. What its calls answer are functions of that
-- list.
use Rattle.std.specs.Prelude.{◌≡◌, ◌≢◌, ◌≤◌, ◌+◌, ◌*◌, ◌==◌, ℕ, Bool, true, false, max, map, filter}
use Rattle.std.specs.Prelude.{nat_le, if◌then◌else◌, List, [], ◌∷◌, ◌++◌, take, find, position}
use Rattle.std.specs.Prelude.{slice_get}
use Rattle.std.specs.Prelude.{All, AllPairs, Contains, Option, None, Some, option_map}
use Rattle.std.specs.Prelude.{option_and_then, IsSome, ⊤}
use Rattle.std.specs.List.{range_with_len}
use Rattle.clause_store.specs.declared.literal.Lit.{Lit}
use Rattle.clause_store.specs.declared.literal.ClauseRef.{ClauseRef}
use Rattle.clause_store.specs.declared.literal.Value.{Value}
use Rattle.clause_store.specs.declared.literal.Value.TheVariants.{Yes, No, Unset}
use Rattle.clause_store.specs.declared.step.Step.{Step}
use Rattle.clause_store.specs.Clause.{variable, IsOver}

-- what contracts see of a trail: its assignments in order, over the variables 1 to `vars`
pub record Assigned : Type 0 where
  pub vars : ℕ
  pub steps : List Step

-- the trail with this assignment put last
abbrev pub with_last : Assigned → Lit → Option ClauseRef → ℕ → Assigned
with_last trail lit reason level =
    record trail {
      steps = trail.steps ++ record { lit = lit; reason = reason; level = level } ∷ [];
    }

-- the assignment of a variable, if it has one
abbrev pub step_of : List Step → ℕ → Option Step
step_of steps var = find (λ step. variable step.lit == var) steps

-- the place of the assignment of a variable among all, if it has one
abbrev pub place_of : List Step → ℕ → Option ℕ
place_of steps var = position (λ step. variable step.lit == var) steps

-- what the assignment of its variable makes of a literal
abbrev pub value_by : Option Step → Lit → Value
value_by None lit = Unset
value_by (Some step) lit = if step.lit.0 == lit.0 then Yes else No

-- whether a literal is true, false or unset
abbrev pub value_of : List Step → Lit → Value
value_of steps lit = value_by (step_of steps (variable lit)) lit

-- the clause that forced a variable: none for a decision or an unset variable
abbrev pub reason_of : List Step → ℕ → Option ClauseRef
reason_of steps var = option_and_then (λ step. step.reason) (step_of steps var)

-- the level at which a variable was assigned
abbrev pub level_of : List Step → ℕ → Option ℕ
level_of steps var = option_map (λ step. step.level) (step_of steps var)

-- the greatest level of the assignments, or 0
abbrev pub present_level : List Step → ℕ
present_level [] = 0
present_level (step ∷ rest) = max step.level (present_level rest)

-- the level of the next assignment: a decision opens one, a forced literal stays
abbrev pub next_level : ℕ → Option ClauseRef → ℕ
next_level level None = level + 1
next_level level (Some why) = level

-- from a level on, each decision opens the next level and each forced literal stays
abbrev pub RisesFrom : ℕ → List Step → Type 0
RisesFrom level [] = ⊤
RisesFrom level (step ∷ rest) =
    (step.level ≡ next_level level step.reason) × RisesFrom step.level rest

-- what is true of every trail: each variable is one of 1 to `vars` and is assigned once, and the
-- levels count the decisions
pub record IsTrail (trail : Assigned) : Type 0 where
  pub over : All (λ step. IsOver trail.vars step.lit) trail.steps
  pub once : AllPairs (λ one two. variable one.lit ≢ variable two.lit) trail.steps
  pub levels : RisesFrom 0 trail.steps

-- a clause forces a literal: the reason names it, it has the literal, and its other literals are
-- false by the assignments before
pub record IsReasonFor (clauses : List (List Lit)) (before : List Step) (lit : Lit)
    (why : ClauseRef) : Type 0 where
  pub clause : List Lit
  pub named : slice_get clauses why.0 ≡ Some clause
  pub here : Contains clause lit
  pub others : All (λ other. other ≢ lit → value_of before other ≡ No) clause

-- each reason on the trail is a clause of the store that forced its literal when it was assigned
abbrev pub IsTrailOf : List Step → List (List Lit) → Type 0
IsTrailOf steps clauses =
    (at : ℕ) (step : Step) (why : ClauseRef) → slice_get steps at ≡ Some step
    → step.reason ≡ Some why
    → IsReasonFor clauses (take at steps) step.lit why

-- each trail of the old clauses is one of the new clauses
abbrev pub KeepsTrails : List (List Lit) → List (List Lit) → Type 0
KeepsTrails old new = (steps : List Step) → IsTrailOf steps old → IsTrailOf steps new

-- a trail with the old steps, of any clauses, is one of them with the new steps
abbrev pub StaysTrail : List Step → List Step → Type 0
StaysTrail old new = (clauses : List (List Lit)) → IsTrailOf old clauses → IsTrailOf new clauses

-- the assignments of the levels up to one
abbrev pub up_to : ℕ → List Step → List Step
up_to level steps = filter (λ step. nat_le step.level level) steps

-- each variable is assigned
abbrev pub IsTotal : Assigned → Type 0
IsTotal trail = (var : ℕ) → 1 ≤ var → var ≤ trail.vars → IsSome (step_of trail.steps var)

-- whether it is true
abbrev pub is_yes : Value → Bool
is_yes Yes = true
is_yes No = false
is_yes Unset = false

-- the assignment that a trail stands for: a variable is true where its literal is true on the trail
abbrev pub values_of : Assigned → List Bool
values_of trail =
    map (λ var. is_yes (value_of trail.steps (record { 0 = 2 * var })))
    (range_with_len 0 (trail.vars + 1))
