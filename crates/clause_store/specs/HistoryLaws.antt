-- Laws of histories of a store. Each is a clause of a function in src/laws.rt.
use Rattle.std.specs.Prelude.{◌≡◌, ◌++◌, ◌↔◌, Bool, List, [], ◌∷◌, Contains}
use Rattle.clause_store.specs.declared.literal.Lit.{Lit}
use Rattle.clause_store.specs.Clause.{Meets}
use Rattle.clause_store.specs.Entailment.{AreUnits}
use Rattle.clause_store.specs.History.{Added, given, counted, IsHistory, IsNewWork, added_clauses}
use Rattle.clause_store.specs.History.{counted_clauses, given_clauses, AreRefutedWith}

-- what was counted is a list of units over the clauses of the beginning
abbrev pub HistoryHasUnits : Type 0
HistoryHasUnits =
    (before : List (List Lit)) (added : List Added) → IsHistory before added
    → AreUnits before (counted_clauses added)

-- and each of them is refuted by the clauses of the beginning, given clauses and those counted
-- before it
abbrev pub HistoryIsRefuted : Type 0
HistoryIsRefuted =
    (before : List (List Lit)) (added : List Added) → IsHistory before added
    → AreRefutedWith (Contains (given_clauses added)) before (counted_clauses added)

-- where the clauses of the beginning and the given ones hold, all hold
abbrev pub HistoryHolds : Type 0
HistoryHolds =
    (values : List Bool) (before : List (List Lit)) (added : List Added) → IsHistory before added
    → Meets values before → Meets values (given_clauses added)
    → Meets values (before ++ added_clauses added)

-- one history after another is one
abbrev pub HistoriesCompose : Type 0
HistoriesCompose =
    (before : List (List Lit)) (first second : List Added)
    → IsHistory before (first ++ second)
    ↔ (IsHistory before first × IsHistory (before ++ added_clauses first) second)

-- what the lists of clauses of two histories together are
pub record AreAddedTogether (first second : List Added) : Type 0 where
  pub added_is : added_clauses (first ++ second) ≡ added_clauses first ++ added_clauses second
  pub counted_is : counted_clauses (first ++ second) ≡ counted_clauses first
      ++ counted_clauses second
  pub given_is : given_clauses (first ++ second) ≡ given_clauses first ++ given_clauses second

abbrev pub HistoriesAdd : Type 0
HistoriesAdd = (first second : List Added) → AreAddedTogether first second

-- a given clause makes a history longer
abbrev pub HistoryTakesGiven : Type 0
HistoryTakesGiven =
    (before : List (List Lit)) (added : List Added) (clause : List Lit) → IsHistory before added
    → IsHistory before (added ++ given clause ∷ [])

-- and so does a counted one that is new work beside all clauses that are there
abbrev pub HistoryTakesCounted : Type 0
HistoryTakesCounted =
    (before : List (List Lit)) (added : List Added) (clause : List Lit) → IsHistory before added
    → IsNewWork (before ++ added_clauses added) clause
    → IsHistory before (added ++ counted clause ∷ [])
