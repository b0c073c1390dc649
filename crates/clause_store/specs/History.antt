-- The history of a store: which clauses were added to it, which of them were counted, and what the
-- counted ones rest on.
use Rattle.std.specs.Prelude.{List, [], ◌∷◌, ◌++◌, map, All, ⊤}
use Rattle.clause_store.specs.declared.literal.Lit.{Lit}
use Rattle.clause_store.specs.Entailment.{IsUnit, Refutes, negations}

-- a clause that was added: given from outside, or counted
pub data Added : Type 0 where
  given : List Lit → Added
  counted : List Lit → Added

-- its literals
abbrev pub clause_of : Added → List Lit
clause_of (given clause) = clause
clause_of (counted clause) = clause

-- the clauses that were added, in order
abbrev pub added_clauses : List Added → List (List Lit)
added_clauses added = map clause_of added

-- those of them that were counted, in order
abbrev pub counted_clauses : List Added → List (List Lit)
counted_clauses [] = []
counted_clauses (given clause ∷ rest) = counted_clauses rest
counted_clauses (counted clause ∷ rest) = clause ∷ counted_clauses rest

-- and those that were given
abbrev pub given_clauses : List Added → List (List Lit)
given_clauses [] = []
given_clauses (given clause ∷ rest) = clause ∷ given_clauses rest
given_clauses (counted clause ∷ rest) = given_clauses rest

-- a clause that may be counted beside those before it: it is a unit, and its negations are refuted
pub record IsNewWork (before : List (List Lit)) (clause : List Lit) : Type 0 where
  pub unit : IsUnit before clause
  pub refuted : Refutes before (negations clause)

-- of what was added to the clauses `before`, each counted one was new work beside all that the
-- store had then
abbrev pub IsHistory : List (List Lit) → List Added → Type 0
IsHistory before [] = ⊤
IsHistory before (given clause ∷ rest) = IsHistory (before ++ clause ∷ []) rest
IsHistory before (counted clause ∷ rest) =
    IsNewWork before clause × IsHistory (before ++ clause ∷ []) rest

-- and each given one is of a kind that may be given
pub record IsHistoryOf (IsKind : List Lit → Type 0) (before : List (List Lit))
    (added : List Added) : Type 0 where
  pub history : IsHistory before added
  pub kind : All IsKind (given_clauses added)

-- some clauses of a kind, with the clauses that are there, refute the negations of a clause
abbrev pub RefutedWith : (List Lit → Type 0) → List (List Lit) → List Lit → Type 0
RefutedWith IsKind clauses unit =
    (more : List (List Lit)) × All IsKind more × Refutes (clauses ++ more) (negations unit)

-- each unit is refuted so, with the units before it
abbrev pub AreRefutedWith : (List Lit → Type 0) → List (List Lit) → List (List Lit) → Type 0
AreRefutedWith IsKind clauses [] = ⊤
AreRefutedWith IsKind clauses (unit ∷ rest) =
    RefutedWith IsKind clauses unit × AreRefutedWith IsKind (clauses ++ unit ∷ []) rest
