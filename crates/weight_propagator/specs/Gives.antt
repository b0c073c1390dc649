-- When a weight body gives a clause on a trail. Its literals are judged by the trail; where a set
-- is given, its negative literals are judged by the set alone.
use Rattle.std.specs.Prelude.{◌≡◌, ◌≢◌, ◌≤◌, ◌<◌, ◌+◌, ℕ, Bool, if◌then◌else◌, List, Any, Option}
use Rattle.std.specs.Prelude.{None, Some, slice_get, sum_by}
use Rattle.ground_program.specs.declared.program.AtomLit.{AtomLit}
use Rattle.ground_program.specs.Meaning.{has}
use Rattle.clause_store.specs.declared.literal.Value.{Value}
use Rattle.clause_store.specs.declared.literal.Value.TheVariants.{Yes, No, Unset}
use Rattle.clause_store.specs.declared.step.Step.{Step}
use Rattle.clause_store.specs.Trail.{value_of}
use Rattle.normal_program.specs.declared.normal.Part.{Part}
use Rattle.normal_program.specs.declared.normal.BodyOf.{BodyOf}
use Rattle.normal_program.specs.declared.normal.Normal.{Normal}
use Rattle.normal_program.specs.Body.{IsWeightBody}
use Rattle.normal_program.specs.Normal.{body_var}
use Rattle.normal_program.specs.Clauses.{positive, literal_of}

-- the value of a literal of a body
abbrev pub value_in : Option (List Bool) → List Step → AtomLit → Value
value_in None steps lit = value_of steps (literal_of lit)
value_in (Some set) steps lit =
    if lit.negated then (if has set lit.atom then No else Yes) else value_of steps (literal_of lit)

-- a weight where the literal is true
abbrev pub if_true : Value → ℕ → ℕ
if_true Yes weight = weight
if_true No weight = 0
if_true Unset weight = 0

-- a weight where the literal isn't true
abbrev pub unless_true : Value → ℕ → ℕ
unless_true Yes weight = 0
unless_true No weight = weight
unless_true Unset weight = weight

-- a weight where the literal isn't false
abbrev pub unless_false : Value → ℕ → ℕ
unless_false Yes weight = weight
unless_false No weight = 0
unless_false Unset weight = weight

-- the weights of the true literals, and of those that aren't false
abbrev pub true_sum : {X : Type 0} → (X → Value) → (X → ℕ) → List X → ℕ
true_sum value weight items = sum_by (λ x. if_true (value x) (weight x)) items

abbrev pub open_sum : {X : Type 0} → (X → Value) → (X → ℕ) → List X → ℕ
open_sum value weight items = sum_by (λ x. unless_false (value x) (weight x)) items

-- the four cases in which literals with values and weights, a bound, and the value of the variable
-- give a clause: the true ones reach the bound, and the variable isn't true; those that aren't
-- false stay below it, and the variable isn't false; the variable is true, and without one that
-- isn't true they stay below it; the variable is false, and with one that isn't false the true ones
-- reach it
pub data GivesBy {X : Type 0} (value : X → Value) (weight : X → ℕ) (items : List X) (bound : ℕ)
    (var : Value) : Type 0 where
  reached : bound ≤ true_sum value weight items → var ≢ Yes → GivesBy value weight items bound var
  missed : open_sum value weight items < bound → var ≢ No → GivesBy value weight items bound var
  needs : var ≡ Yes
      → Any
      (λ x. (value x ≢ Yes)
      × (open_sum value weight items < bound + unless_false (value x) (weight x))) items
      → GivesBy value weight items bound var
  refuses : var ≡ No
      → Any
      (λ x. (value x ≢ No)
      × (bound ≤ true_sum value weight items + unless_true (value x) (weight x))) items
      → GivesBy value weight items bound var

-- a body with this variable gives a clause
abbrev pub Gives : Option (List Bool) → List Step → ℕ → BodyOf → Type 0
Gives inside steps var body =
    GivesBy (λ (part : Part). value_in inside steps part.lit) (λ (part : Part). part.weight)
    body.parts body.bound (value_of steps (positive var))

-- no weight body gives a clause
abbrev pub IsQuiet : Option (List Bool) → Normal → List Step → Type 0
IsQuiet inside normal steps =
    (number : ℕ) (body : BodyOf) → slice_get normal.bodies number ≡ Some body → IsWeightBody body
    → ¬ Gives inside steps (body_var normal number) body
