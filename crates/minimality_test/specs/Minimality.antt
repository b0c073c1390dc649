-- What the answers of the test say, and what it counts.
use Rattle.std.specs.Prelude.{◌≡◌, ◌<◌, Bool, List, length, All, ⊤}
use Rattle.ground_program.specs.Meaning.{IsProperSubset, IsSetOver}
use Rattle.clause_store.specs.Clause.{IsOver}
use Rattle.clause_store.specs.Counted.{Counted}
use Rattle.clause_store.specs.Entailment.{AreUnits}
use Rattle.clause_store.specs.History.{AreRefutedWith}
use Rattle.normal_program.specs.declared.normal.Normal.{Normal}
use Rattle.normal_program.specs.Loop.{IsLocalWithin}
use Rattle.normal_program.specs.Normal.{greatest_body_var, KeepsAllN}
use Rattle.normal_program.specs.Spent.{inner_clauses}
use Rattle.minimality_test.specs.declared.answer.Minimality.{Minimality}
use Rattle.minimality_test.specs.declared.answer.Minimality.TheVariants.{Minimal, Smaller, Spent}
use Rattle.minimality_test.specs.declared.answer.Minimality.TheVariants.{NoMemory}

-- no proper subset keeps the rules of the reduct by the set
abbrev pub IsMinimal : Normal → List Bool → Type 0
IsMinimal normal set =
    (part : List Bool) → IsProperSubset part set → ¬ KeepsAllN normal set part

-- a set over the same atoms, a proper subset, keeps them
pub record IsSmallerThan (normal : Normal) (set part : List Bool) : Type 0 where
  pub over : IsSetOver normal.atoms part
  pub proper : IsProperSubset part set
  pub keeps : KeepsAllN normal set part

-- the budget isn't used up
abbrev pub IsLeft : Counted → Type 0
IsLeft budget = length budget.units < budget.limit

-- what each answer says: Spent comes just where the budget is used up
abbrev pub HasAnswered : Normal → List Bool → Counted → Minimality → Type 0
HasAnswered normal set budget Minimal = IsMinimal normal set × IsLeft budget
HasAnswered normal set budget (Smaller part) = IsSmallerThan normal set part × IsLeft budget
HasAnswered normal set budget Spent = length budget.units ≡ budget.limit
HasAnswered normal set budget NoMemory = ⊤

-- what was counted: units over atoms and bodies beside the clauses for the parts of the set, each
-- of them refuted by these clauses, some clauses local within the set, and the units before it
pub record HasCountedWithin (normal : Normal) (set : List Bool) (before after : Counted) :
    Type 0 where
  pub limit : after.limit ≡ before.limit
  pub over : All (All (IsOver (greatest_body_var normal))) after.units
  pub units : AreUnits (inner_clauses normal set) after.units
  pub refuted :
      AreRefutedWith (IsLocalWithin normal set) (inner_clauses normal set) after.units
