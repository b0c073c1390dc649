-- How a store keeps its clauses. No public clause cites this module.
use Rattle.std.specs.Prelude.{◌≡◌, ◌<◌, ◌≤◌, ◌^◌, ℕ, List, [], ◌∷◌, length, All, slice_range}
use Rattle.clause_store.specs.declared.literal.Lit.{Lit}
use Rattle.clause_store.specs.Clause.{IsClause}

-- the parts of an array from one place to the first end, from there to the next, and so on
abbrev pub cuts : List Lit → ℕ → List ℕ → List (List Lit)
cuts lits start [] = []
cuts lits start (end ∷ rest) = slice_range lits start end ∷ cuts lits end rest

-- the clauses between the bounds
abbrev pub clauses_of : List Lit → List ℕ → List (List Lit)
clauses_of lits [] = []
clauses_of lits (start ∷ ends) = cuts lits start ends

-- the ends rise from one place to the end of an array of that length
abbrev pub RiseTo : ℕ → ℕ → List ℕ → Type 0
RiseTo length start [] = start ≡ length
RiseTo length start (end ∷ rest) = (start ≤ end) × RiseTo length end rest

-- the ends cut an array into clauses, few enough that each place and each number fits 32 bits
pub record AreCut (lits : List Lit) (start : ℕ) (ends : List ℕ) : Type 0 where
  pub rise : RiseTo (length lits) start ends
  pub allowed : All IsClause (cuts lits start ends)
  pub few_lits : length lits < 2 ^ 32
  pub few_clauses : length ends < 2 ^ 32

-- there is a first bound, and the others are ends
abbrev pub IsLaidOut : List Lit → List ℕ → Type 0
IsLaidOut lits [] = ⊥
IsLaidOut lits (start ∷ ends) = AreCut lits start ends
