-- What clauses say: by all assignments, and by unit propagation alone.
use Rattle.std.specs.Prelude.{◌≢◌, ◌≤◌, ◌⊎◌, ◌==◌, Bool, not, List, [], ◌∷◌, ◌++◌, length, map}
use Rattle.std.specs.Prelude.{filter, All, Any, Contains, ⊤}
use Rattle.clause_store.specs.declared.literal.Lit.{Lit}
use Rattle.clause_store.specs.Clause.{negation, HoldsIn, Meets, HasAll, HasNoVariableTwice}

-- the clause holds in every assignment that meets the clauses
abbrev pub Follows : List (List Lit) → List Lit → Type 0
Follows clauses clause = (values : List Bool) → Meets values clauses → HoldsIn values clause

-- a literal of a clause is forced by a list: the list has the negations of all other literals
pub record IsForcedBy (known clause : List Lit) (lit : Lit) : Type 0 where
  pub here : Contains clause lit
  pub others : All (λ other. other ≢ lit → Contains known (negation other)) clause

-- the list has each literal that one of the clauses forces by it
abbrev pub IsClosed : List (List Lit) → List Lit → Type 0
IsClosed clauses known =
    All (λ clause. (lit : Lit) → IsForcedBy known clause lit → Contains known lit) clauses

-- the literal is in the least list that has `lits` and is closed under unit propagation by the
-- clauses
abbrev pub InClosure : List (List Lit) → List Lit → Lit → Type 0
InClosure clauses lits lit =
    (known : List Lit) → HasAll known lits → IsClosed clauses known → Contains known lit

-- unit propagation from `lits` makes all literals of some clause false
abbrev pub Refutes : List (List Lit) → List Lit → Type 0
Refutes clauses lits =
    Any (λ clause. All (λ lit. InClosure clauses lits (negation lit)) clause) clauses

-- the negations of the literals of a clause
abbrev pub negations : List Lit → List Lit
negations clause = map negation clause

-- the literals of a clause other than `lit`
abbrev pub others : List Lit → Lit → List Lit
others clause lit = filter (λ other. not (other.0 == lit.0)) clause

-- unit propagation already does what the clause does: from the negations of all its literals but
-- any one it refutes or gives that one
abbrev pub Absorbs : List (List Lit) → List Lit → Type 0
Absorbs clauses clause =
    All
    (λ lit. Refutes clauses (negations (others clause lit))
    ⊎ InClosure clauses (negations (others clause lit)) lit)
    clause

-- a clause that is worth counting beside others
pub record IsUnit (clauses : List (List Lit)) (unit : List Lit) : Type 0 where
  pub some : 1 ≤ length unit
  pub once : HasNoVariableTwice unit
  pub new : ¬ Absorbs clauses unit

-- a list of units over the clauses `base`: each is one beside the base and the earlier ones
abbrev pub AreUnits : List (List Lit) → List (List Lit) → Type 0
AreUnits base [] = ⊤
AreUnits base (unit ∷ rest) = IsUnit base unit × AreUnits (base ++ unit ∷ []) rest
