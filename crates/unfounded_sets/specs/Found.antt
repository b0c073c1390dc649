-- What is answered.
use Rattle.std.specs.Prelude.{◌⊎◌, ℕ, List, All}
use Rattle.clause_store.specs.declared.literal.Lit.{Lit}
use Rattle.clause_store.specs.declared.step.Step.{Step}
use Rattle.clause_store.specs.Clause.{HasNoVariableTwice, IsOver}
use Rattle.clause_store.specs.Trail.{Assigned}
use Rattle.clause_store.specs.Standing.{IsFalse, IsFalseOn, ForcesOn}
use Rattle.normal_program.specs.declared.normal.Normal.{Normal}
use Rattle.normal_program.specs.Normal.{greatest_body_var}
use Rattle.normal_program.specs.Clauses.{positive}
use Rattle.normal_program.specs.Loop.{IsAtomOf, IsLoopClause}
use Rattle.unfounded_sets.specs.declared.unfounded.Found.{Found}
use Rattle.unfounded_sets.specs.declared.unfounded.Found.TheVariants.{Nothing, Loop}
use Rattle.unfounded_sets.specs.Founding.{IsFounded}

-- each atom that isn't false is founded
abbrev pub AreFounded : Normal → List Step → Type 0
AreFounded normal steps =
    (atom : ℕ) → IsAtomOf normal atom → ¬ IsFalse steps (positive atom)
    → IsFounded normal steps atom

-- an atom that isn't false isn't founded
pub record IsUnfounded (normal : Normal) (steps : List Step) (atom : ℕ) : Type 0 where
  pub is_atom : IsAtomOf normal atom
  pub possible : ¬ IsFalse steps (positive atom)
  pub unfounded : ¬ IsFounded normal steps atom

-- all literals of a clause are false, or all but one, which is unset
abbrev pub IsFalseButOne : List Step → List Lit → Type 0
IsFalseButOne steps clause = IsFalseOn steps clause ⊎ ((lit : Lit) × ForcesOn steps clause lit)

-- a loop clause over atoms and bodies that can force something
pub record IsLoopWritten (normal : Normal) (trail : Assigned) (clause : List Lit) : Type 0 where
  pub is_loop : IsLoopClause normal clause
  pub standing : IsFalseButOne trail.steps clause
  pub once : HasNoVariableTwice clause
  pub over : All (IsOver (greatest_body_var normal)) clause

-- such a clause, where some atom is unfounded
pub record IsGiven (normal : Normal) (trail : Assigned) (clause : List Lit) : Type 0 where
  pub some : (atom : ℕ) × IsUnfounded normal trail.steps atom
  pub written : IsLoopWritten normal trail clause

-- what each answer says, with the clause that is written
abbrev pub IsAnswer : Normal → Assigned → List Lit → Found → Type 0
IsAnswer normal trail clause Nothing = AreFounded normal trail.steps
IsAnswer normal trail clause Loop = IsGiven normal trail clause
