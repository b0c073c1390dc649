-- Assignments of the variables of atoms and bodies: what weight bodies mean in them, and which are
-- extensions of models.
use Rattle.std.specs.Prelude.{◌≡◌, ◌≤◌, ◌+◌, ℕ, Bool, false, List, length, take, Some, slice_get}
use Rattle.ground_program.specs.Meaning.{IsSetOver}
use Rattle.clause_store.specs.Clause.{truth, Meets}
use Rattle.normal_program.specs.declared.normal.BodyOf.{BodyOf}
use Rattle.normal_program.specs.declared.normal.Normal.{Normal}
use Rattle.normal_program.specs.Body.{IsWeightBody, body_holds}
use Rattle.normal_program.specs.Normal.{body_var, extension, KeepsAllN, MeetsComputeN}
use Rattle.normal_program.specs.Clauses.{base_clauses}

-- a truth value for each variable of an atom or a body, and maybe for more variables behind them;
-- the one at place 0 belongs to no variable and is false
pub record IsAssignmentOf (normal : Normal) (values : List Bool) : Type 0 where
  pub variables : normal.atoms + 1 + length normal.bodies ≤ length values
  pub no_variable : slice_get values 0 ≡ Some false

-- the atoms of an assignment
abbrev pub set_of : Normal → List Bool → List Bool
set_of normal values = take (normal.atoms + 1) values

-- the atoms and the bodies of an assignment, without the variables behind them
abbrev pub front_of : Normal → List Bool → List Bool
front_of normal values = take (normal.atoms + 1 + length normal.bodies) values

-- where the body of this number is a weight body, its variable is true exactly where the body
-- holds; a set judges its negative literals, the assignment its positive ones
abbrev pub MeansWeightBody : Normal → List Bool → List Bool → ℕ → Type 0
MeansWeightBody normal by values number =
    (body : BodyOf) → slice_get normal.bodies number ≡ Some body → IsWeightBody body →
    truth values (body_var normal number) ≡ body_holds by (set_of normal values) body

-- all weight bodies mean so inside a set, which judges their negative literals
abbrev pub MeansWeightBodiesWithin : Normal → List Bool → List Bool → Type 0
MeansWeightBodiesWithin normal by values = (number : ℕ) → MeansWeightBody normal by values number

-- the variable of each weight body is true exactly where the body holds
abbrev pub MeansWeightBodies : Normal → List Bool → Type 0
MeansWeightBodies normal values = MeansWeightBodiesWithin normal (set_of normal values) values

-- the front of an assignment is the extension of a set that keeps all rules of its reduct and meets
-- the compute statement
pub record IsModelOf (normal : Normal) (values : List Bool) : Type 0 where
  pub over : IsSetOver normal.atoms (set_of normal values)
  pub extends :
      front_of normal values ≡ extension normal (set_of normal values) (set_of normal values)
  pub keeps : KeepsAllN normal (set_of normal values) (set_of normal values)
  pub compute : MeetsComputeN normal (set_of normal values)

-- the base clauses and the meaning of the weight bodies make a model
abbrev pub MakeModels : Normal → Type 0
MakeModels normal =
    (values : List Bool) → IsAssignmentOf normal values → Meets values (base_clauses normal) →
    MeansWeightBodies normal values → IsModelOf normal values
