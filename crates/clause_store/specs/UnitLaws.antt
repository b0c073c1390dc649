-- Laws of lists of units. Each is a clause of a function in src/laws.rt.
use Rattle.std.specs.Prelude.{◌<◌, ◌^◌, ◌++◌, ◌↔◌, ℕ, List, [], ◌∷◌, length}
use Rattle.clause_store.specs.declared.literal.Lit.{Lit}
use Rattle.clause_store.specs.Clause.{AreOver}
use Rattle.clause_store.specs.Entailment.{IsUnit, AreUnits}
use Rattle.clause_store.specs.Laws.{AreMoreClauses}

-- a unit beside more clauses is one beside fewer of them
abbrev pub UnitAmongFewer : Type 0
UnitAmongFewer =
    (fewer more : List (List Lit)) (unit : List Lit) → AreMoreClauses fewer more → IsUnit more unit
    → IsUnit fewer unit

-- and so are units
abbrev pub UnitsAmongFewer : Type 0
UnitsAmongFewer =
    (fewer more units : List (List Lit)) → AreMoreClauses fewer more → AreUnits more units
    → AreUnits fewer units

-- a unit beside a store that has the base and the units so far makes the list longer
abbrev pub UnitsGrowInStore : Type 0
UnitsGrowInStore =
    (base units store : List (List Lit)) (unit : List Lit) → AreUnits base units
    → AreMoreClauses (base ++ units) store → IsUnit store unit
    → AreUnits base (units ++ unit ∷ [])

-- units after units: the later ones are units over the base with the earlier ones
abbrev pub UnitsSplit : Type 0
UnitsSplit =
    (base first second : List (List Lit))
    → AreUnits base (first ++ second) ↔ (AreUnits base first × AreUnits (base ++ first) second)

-- units over the variables 1 to `vars` are fewer than 3 to that power
abbrev pub UnitsAreFew : Type 0
UnitsAreFew =
    (vars : ℕ) (base units : List (List Lit)) → AreOver vars units → AreUnits base units
    → length units < 3 ^ vars
