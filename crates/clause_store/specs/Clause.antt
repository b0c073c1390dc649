-- Literals and clauses, and when an assignment makes them true. An assignment has a truth value for
-- each variable; the one at place 0 belongs to no variable, and past its end everything is false.
use Rattle.std.specs.Prelude.{◌≢◌, ◌≤◌, ◌+◌, ◌-◌, ◌/◌, ◌%◌, ◌==◌, ℕ, Bool, false, not}
use Rattle.std.specs.Prelude.{if◌then◌else◌, List, All, AllPairs, Any, Contains, slice_index_or}
use Rattle.std.specs.Prelude.{IsTrue}
use Rattle.clause_store.specs.declared.literal.Lit.{Lit}

-- the variable of a literal
abbrev pub variable : Lit → ℕ
variable lit = lit.0 / 2

-- whether a literal is the negation of its variable
abbrev pub is_negated : Lit → Bool
is_negated lit = lit.0 % 2 == 1

-- the opposite literal
abbrev pub negation : Lit → Lit
negation lit = record { 0 = if is_negated lit then lit.0 - 1 else lit.0 + 1 }

-- whether a variable is true
abbrev pub truth : List Bool → ℕ → Bool
truth values var = slice_index_or values var false

-- whether a literal is true
abbrev pub makes_true : List Bool → Lit → Bool
makes_true values lit =
    if is_negated lit then not (truth values (variable lit)) else truth values (variable lit)

-- the assignment makes a literal true
abbrev pub IsTrueIn : List Bool → Lit → Type 0
IsTrueIn values lit = IsTrue (makes_true values lit)

-- the assignment makes some literal of a clause true
abbrev pub HoldsIn : List Bool → List Lit → Type 0
HoldsIn values clause = Any (IsTrueIn values) clause

-- the assignment meets all clauses
abbrev pub Meets : List Bool → List (List Lit) → Type 0
Meets values clauses = All (HoldsIn values) clauses

-- no two literals have one variable
abbrev pub HasNoVariableTwice : List Lit → Type 0
HasNoVariableTwice clause = AllPairs (λ one two. variable one ≢ variable two) clause

-- a clause has all literals of another
abbrev pub HasAll : List Lit → List Lit → Type 0
HasAll clause part = All (Contains clause) part

-- the variable of a literal is one of 1 to `vars`
pub record IsOver (vars : ℕ) (lit : Lit) : Type 0 where
  pub first : 1 ≤ variable lit
  pub last : variable lit ≤ vars

-- the variables of all clauses are of 1 to `vars`
abbrev pub AreOver : ℕ → List (List Lit) → Type 0
AreOver vars clauses = All (All (IsOver vars)) clauses

-- a clause that a store takes: no variable twice, and none 0
pub record IsClause (clause : List Lit) : Type 0 where
  pub once : HasNoVariableTwice clause
  pub no_zero : All (λ lit. 1 ≤ variable lit) clause
