-- What the clauses for the parts of a set say. A set judges the negative literals of bodies, its
-- parts the positive ones.
use Rattle.std.specs.Prelude.{◌≡◌, Bool, List}
use Rattle.ground_program.specs.Meaning.{IsProperSubset}
use Rattle.clause_store.specs.Clause.{Meets}
use Rattle.normal_program.specs.declared.normal.Normal.{Normal}
use Rattle.normal_program.specs.Normal.{extension, KeepsAllN}
use Rattle.normal_program.specs.Models.{IsAssignmentOf, set_of, front_of, MeansWeightBodiesWithin}
use Rattle.normal_program.specs.Spent.{inner_clauses}

-- a proper part of a set that keeps the rules of the reduct by the set
pub record IsSmaller (normal : Normal) (set part : List Bool) : Type 0 where
  pub proper : IsProperSubset part set
  pub keeps : KeepsAllN normal set part

-- an assignment meets the clauses for the parts of a set and the meaning of the weight bodies there
pub record IsMetWithin (normal : Normal) (set values : List Bool) : Type 0 where
  pub clauses : Meets values (inner_clauses normal set)
  pub weights : MeansWeightBodiesWithin normal set values

-- each smaller part has an extension that meets them
abbrev pub HoldWithin : Normal → List Bool → Type 0
HoldWithin normal set =
    (part : List Bool) → IsSmaller normal set part
    → IsMetWithin normal set (extension normal set part)

-- the atoms of an assignment are a smaller part, whose extension the assignment begins with
pub record IsSmallerOf (normal : Normal) (set values : List Bool) : Type 0 where
  pub smaller : IsSmaller normal set (set_of normal values)
  pub extends : front_of normal values ≡ extension normal set (set_of normal values)

-- each assignment that meets them comes from a smaller part
abbrev pub MakeSmaller : Normal → List Bool → Type 0
MakeSmaller normal set =
    (values : List Bool) → IsAssignmentOf normal values → IsMetWithin normal set values
    → IsSmallerOf normal set values
