-- What the parts of the search decide. No public clause cites this module.
use Rattle.std.specs.Prelude.{Bool, List, ◌++◌}
use Rattle.clause_store.specs.declared.literal.Lit.{Lit}
use Rattle.clause_store.specs.Clause.{HoldsIn}
use Rattle.normal_program.specs.declared.normal.Normal.{Normal}
use Rattle.normal_program.specs.Normal.{extension, IsAnswerSetN}
use Rattle.normal_program.specs.Clauses.{AreChosen}

-- the clause holds by `values` with each choice, judged by `base`, of the selectors with these
-- disjunctions
abbrev pub HoldsWithChoices : List Bool → List (List Lit) → List Lit → List Bool → Type 0
HoldsWithChoices base disjunctions clause values =
    (chosen : List Bool) → AreChosen base disjunctions chosen → HoldsIn (values ++ chosen) clause

-- if the set is an answer set, the clause holds in its extension with each choice of the selectors
abbrev pub HoldsForSet : Normal → List (List Lit) → List Lit → List Bool → Type 0
HoldsForSet normal disjunctions clause set =
    IsAnswerSetN normal set →
    HoldsWithChoices (extension normal set set) disjunctions clause (extension normal set set)

-- that is so for each set that begins with these values
abbrev pub HoldsFrom : Normal → List (List Lit) → List Lit → List Bool → Type 0
HoldsFrom normal disjunctions clause start =
    (rest : List Bool) → HoldsForSet normal disjunctions clause (start ++ rest)
