-- Laws of answer sets and total assignments. Each is a clause of a function in src/laws.rt.
use Rattle.std.specs.Prelude.{◌≡◌, Bool, List, None, Some, IfSome, length}
use Rattle.clause_store.specs.Clause.{Meets, HoldsIn, IsTrueIn}
use Rattle.clause_store.specs.Trail.{Assigned, values_of}
use Rattle.clause_store.specs.declared.literal.Lit.{Lit}
use Rattle.normal_program.specs.declared.normal.Normal.{Normal}
use Rattle.normal_program.specs.Clauses.{base_clauses}
use Rattle.normal_program.specs.Limit.{IsNormal}
use Rattle.normal_program.specs.Loop.{IsLocal}
use Rattle.weight_propagator.specs.Gives.{IsQuiet}
use Rattle.unfounded_sets.specs.Found.{AreFounded}
use Rattle.normal_program.specs.declared.spent.SpentTest.{SpentTest}
use Rattle.normal_program.specs.Models.{set_of}
use Rattle.normal_program.specs.Normal.{extension}
use Rattle.normal_program.specs.Spent.{IsSpentTest}
use Rattle.minimality_test.specs.Minimality.{IsMinimal}
use Rattle.kept_minimality.specs.Total.{IsTotalOver}
use Rattle.coherence_test.specs.AnswerSets.{ExtendsAnswerSet, HasNoDisjunction, IsSpentWithin}

-- without disjunctive rules, a total assignment that meets the base clauses, on which no weight
-- body gives a clause and all true atoms are founded, extends an answer set
abbrev pub FoundedModelsAreAnswerSets : Type 0
FoundedModelsAreAnswerSets =
    (normal : Normal) (trail : Assigned) → IsNormal normal → HasNoDisjunction normal
    → IsTotalOver normal trail → Meets (values_of trail) (base_clauses normal)
    → IsQuiet None normal trail.steps → AreFounded normal trail.steps
    → ExtendsAnswerSet normal (values_of trail)

-- with any rules, a total assignment that meets the base clauses, on which no weight body gives a
-- clause and whose atoms are minimal, extends an answer set
abbrev pub MinimalModelsAreAnswerSets : Type 0
MinimalModelsAreAnswerSets =
    (normal : Normal) (trail : Assigned) → IsNormal normal
    → IsTotalOver normal trail → Meets (values_of trail) (base_clauses normal)
    → IsQuiet None normal trail.steps → IsMinimal normal (set_of normal (values_of trail))
    → ExtendsAnswerSet normal (values_of trail)

-- the units of a spent test whether a set is minimal make a spent test, with any literal that is
-- true in the set
abbrev pub SpentWithinIsSpent : Type 0
SpentWithinIsSpent =
    (normal : Normal) (set : List Bool) (test : SpentTest) → IsSpentWithin normal set test.units
    → test.inside ≡ Some set → length test.units ≡ test.budget
    → IfSome test.literal (IsTrueIn (extension normal set set)) → IsSpentTest normal test

-- local clauses hold in each assignment that extends an answer set, whatever the variables behind
-- the bodies are
abbrev pub LocalClausesHold : Type 0
LocalClausesHold =
    (normal : Normal) (clause : List Lit) (values : List Bool) → IsNormal normal
    → IsLocal normal clause → ExtendsAnswerSet normal values → HoldsIn values clause
