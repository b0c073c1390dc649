-- One-sided variables: those that only an assumption makes true.
use Rattle.std.specs.Prelude.{◌≡◌, ◌+◌, ◌*◌, ◌⊎◌, ℕ, List, true, All, Contains}
use Rattle.clause_store.specs.declared.literal.Lit.{Lit}
use Rattle.clause_store.specs.declared.literal.Value.TheVariants.{Yes}
use Rattle.clause_store.specs.declared.step.Step.{Step}
use Rattle.clause_store.specs.Clause.{is_negated, negation}
use Rattle.clause_store.specs.Trail.{value_of}
use Rattle.conflict_learning.specs.Analysis.{StandsIn}
use Rattle.search_state.specs.Assumed.{AreAssumedFirst}

-- the literal that says that a variable is true
abbrev pub positive : ℕ → Lit
positive var = record { 0 = 2 * var }

-- the literal that says that a variable is false
abbrev pub negative : ℕ → Lit
negative var = record { 0 = 2 * var + 1 }

-- no clause has a variable unnegated, of these and of those that may be given
pub record IsOneSided (IsKind : List Lit → Type 0) (clauses : List (List Lit)) (var : ℕ) :
    Type 0 where
  pub not_stored : ¬ StandsIn clauses (positive var)
  pub not_given : (clause : List Lit) → IsKind clause → ¬ Contains clause (positive var)

-- a variable stands in a clause only negated, and only where it is assumed
pub record IsAsAssumed (assumed clause : List Lit) (var : ℕ) : Type 0 where
  pub negated : ¬ Contains clause (positive var)
  pub assumed_so : Contains clause (negative var) → Contains assumed (positive var)

-- so does each one-sided variable
abbrev pub AreAsAssumed :
    (List Lit → Type 0) → List (List Lit) → List Lit → List Lit → Type 0
AreAsAssumed IsKind clauses assumed clause =
    (var : ℕ) → IsOneSided IsKind clauses var → IsAsAssumed assumed clause var

-- each one-sided variable that is true is assumed
abbrev pub AreTrueAsAssumed :
    (List Lit → Type 0) → List (List Lit) → List Lit → List Step → Type 0
AreTrueAsAssumed IsKind clauses assumed steps =
    (var : ℕ) → IsOneSided IsKind clauses var → value_of steps (positive var) ≡ Yes
    → Contains assumed (positive var)

-- a variable is made false, or a clause has the literal: so it may be made true unassumed
abbrev pub IsFree : List (List Lit) → Lit → Type 0
IsFree clauses lit = (is_negated lit ≡ true) ⊎ StandsIn clauses lit

-- a literal is assumed, or may be true unassumed
abbrev pub IsAssumedOrFree : List (List Lit) → List Lit → Lit → Type 0
IsAssumedOrFree clauses assumed lit = Contains assumed lit ⊎ IsFree clauses lit

-- the assumed literals were decided first, and each literal that was made true is assumed, or may
-- be true unassumed
pub record AreInOrder (clauses : List (List Lit)) (assumed : List Lit) (steps : List Step) :
    Type 0 where
  pub first : AreAssumedFirst assumed steps
  pub free : All (λ step. IsAssumedOrFree clauses assumed step.lit) steps

-- the opposite of each literal of a clause is assumed, or may be true unassumed
abbrev pub AreOpposed : List (List Lit) → List Lit → List Lit → Type 0
AreOpposed clauses assumed clause =
    All (λ lit. IsAssumedOrFree clauses assumed (negation lit)) clause
