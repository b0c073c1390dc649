-- What weight bodies and founding say of a trail. No public clause cites this module.
use Rattle.std.specs.Prelude.{Bool, List, None, ⊤}
use Rattle.clause_store.specs.declared.literal.Lit.{Lit}
use Rattle.clause_store.specs.declared.theory_says.Says.{Says}
use Rattle.clause_store.specs.declared.theory_says.Says.TheVariants.{Quiet, Clause as Given}
use Rattle.clause_store.specs.Clause.{Meets}
use Rattle.clause_store.specs.Trail.{Assigned, values_of}
use Rattle.normal_program.specs.declared.normal.Normal.{Normal}
use Rattle.normal_program.specs.Clauses.{base_clauses}
use Rattle.weight_propagator.specs.Gives.{IsQuiet}
use Rattle.unfounded_sets.specs.declared.unfounded.Found.{Found}
use Rattle.unfounded_sets.specs.declared.unfounded.Found.TheVariants.{Nothing, Loop}
use Rattle.unfounded_sets.specs.Found.{AreFounded, IsLoopWritten}
use Rattle.assumption_engine.specs.Theory.{IsGiven}
use Rattle.minimality_test.specs.declared.answer.Minimality.{Minimality}
use Rattle.minimality_test.specs.declared.answer.Minimality.TheVariants.{Minimal, Smaller, Spent}
use Rattle.minimality_test.specs.declared.answer.Minimality.TheVariants.{NoMemory}
use Rattle.minimality_test.specs.Minimality.{IsMinimal, IsSmallerThan}
use Rattle.kept_minimality.specs.Total.{IsTotalOver}
use Rattle.coherence_test.specs.AnswerSets.{answer_sets}

-- no weight body gives a clause, and each atom that isn't false is founded
pub record HasNothing (normal : Normal) (trail : Assigned) : Type 0 where
  pub quiet : IsQuiet None normal trail.steps
  pub founded : AreFounded normal trail.steps

-- what is found, with the loop clause that is written
abbrev pub IsFoundOn : Normal → Assigned → List Lit → Found → Type 0
IsFoundOn normal trail clause Nothing = AreFounded normal trail.steps
IsFoundOn normal trail clause Loop = IsLoopWritten normal trail clause

-- the loop clause that is written, where one is
abbrev pub MayBeLoop : Normal → Assigned → List Lit → Found → Type 0
MayBeLoop normal trail clause Nothing = ⊤
MayBeLoop normal trail clause Loop = IsLoopWritten normal trail clause

-- what is said, with the clause that is given
abbrev pub IsLookedAt : Normal → Assigned → List Lit → Says → Type 0
IsLookedAt normal trail clause Quiet = HasNothing normal trail
IsLookedAt normal trail clause Given = IsGiven (answer_sets normal) trail clause

-- a total assignment that meets the base clauses, of which they say nothing
pub record IsCandidate (normal : Normal) (trail : Assigned) : Type 0 where
  pub total : IsTotalOver normal trail
  pub meets : Meets (values_of trail) (base_clauses normal)
  pub nothing : HasNothing normal trail

-- what the kept search says of a set; where it is spent it says nothing
abbrev pub IsSaidOf : Normal → List Bool → Minimality → Type 0
IsSaidOf normal set Minimal = IsMinimal normal set
IsSaidOf normal set (Smaller part) = IsSmallerThan normal set part
IsSaidOf normal set Spent = ⊤
IsSaidOf normal set NoMemory = ⊤
