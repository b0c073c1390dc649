-- What one step of unit propagation looks for.
use Rattle.std.specs.Prelude.{◌≡◌, ◌⊎◌, List, All, Any, Contains}
use Rattle.clause_store.specs.declared.literal.Lit.{Lit}
use Rattle.clause_store.specs.Clause.{variable, negation}
use Rattle.clause_store.specs.Entailment.{IsForcedBy, InClosure, Refutes, negations, others}

-- the list has the negation of each literal of the clause
abbrev pub IsFalseBy : List Lit → List Lit → Type 0
IsFalseBy known clause = All (λ lit. Contains known (negation lit)) clause

-- the clause forces a literal by the list, which hasn't it
pub record IsNewlyForced (known clause : List Lit) (lit : Lit) : Type 0 where
  pub forced : IsForcedBy known clause lit
  pub new : ¬ Contains known lit

-- the list has each literal that the clause forces by it
abbrev pub IsClosedUnder : List Lit → List Lit → Type 0
IsClosedUnder known clause = (lit : Lit) → IsForcedBy known clause lit → Contains known lit

-- some literal has the variable of another
abbrev pub HasVariable : List Lit → Lit → Type 0
HasVariable lits lit = Any (λ other. variable other ≡ variable lit) lits

-- from the negations of all literals of the clause but one, propagation refutes or gives that one
abbrev pub IsAbsorbedAt : List (List Lit) → List Lit → Lit → Type 0
IsAbsorbedAt clauses clause lit =
    Refutes clauses (negations (others clause lit))
    ⊎ InClosure clauses (negations (others clause lit)) lit
