-- Which atoms some rule supports by itself, whatever is founded.
use Rattle.std.specs.Prelude.{◌≡◌, ◌≢◌, ◌⊎◌, ℕ, Bool, List, length, All, Any, Contains}
use Rattle.ground_program.specs.declared.program.Kind.TheVariants.{Disjunctive}
use Rattle.ground_program.specs.Meaning.{IsIn, IsPart}
use Rattle.clause_store.specs.declared.literal.Lit.{Lit}
use Rattle.clause_store.specs.declared.step.Step.{Step}
use Rattle.clause_store.specs.Standing.{IsFalse}
use Rattle.clause_store.specs.Trail.{Assigned}
use Rattle.normal_program.specs.declared.normal.NormalRule.{NormalRule}
use Rattle.normal_program.specs.declared.normal.Normal.{Normal}
use Rattle.normal_program.specs.Normal.{body_var}
use Rattle.normal_program.specs.Clauses.{positive, negative}
use Rattle.normal_program.specs.Loop.{IsAtomOf}
use Rattle.unfounded_sets.specs.declared.unfounded.Found.{Found}
use Rattle.unfounded_sets.specs.declared.unfounded.Found.TheVariants.{Nothing, Loop}
use Rattle.unfounded_sets.specs.Found.{IsLoopWritten}

-- another atom that is true
pub record IsOtherTrue (steps : List Step) (than atom : ℕ) : Type 0 where
  pub denied : IsFalse steps (negative atom)
  pub other : atom ≢ than

-- a rule leaves out an atom: the variable of its body is false, or it is disjunctive and has
-- another head that is true
abbrev pub LeavesOut : Normal → List Step → NormalRule → ℕ → Type 0
LeavesOut normal steps rule atom =
    IsFalse steps (positive (body_var normal rule.body))
    ⊎ ((rule.kind ≡ Disjunctive) × Any (IsOtherTrue steps atom) rule.heads)

-- it supports a head that it doesn't leave out
pub record Supports (normal : Normal) (steps : List Step) (rule : NormalRule) (atom : ℕ) : Type 0
  where
    pub head : Contains rule.heads atom
    pub possible : ¬ LeavesOut normal steps rule atom

abbrev pub IsSupported : Normal → List Step → ℕ → Type 0
IsSupported normal steps atom = Any (λ rule. Supports normal steps rule atom) normal.rules

-- an atom that isn't false isn't supported
pub record IsUnsupported (normal : Normal) (steps : List Step) (atom : ℕ) : Type 0 where
  pub is_atom : IsAtomOf normal atom
  pub possible : ¬ IsFalse steps (positive atom)
  pub unsupported : ¬ IsSupported normal steps atom

-- a loop clause, where some atom is unsupported
pub record IsSingleGiven (normal : Normal) (trail : Assigned) (clause : List Lit) : Type 0 where
  pub some : (atom : ℕ) × IsUnsupported normal trail.steps atom
  pub written : IsLoopWritten normal trail clause

-- what each answer says, with the clause that is written
abbrev pub IsSingleAnswer : Normal → Assigned → List Lit → Found → Type 0
IsSingleAnswer normal trail clause Nothing =
    (atom : ℕ) → IsAtomOf normal atom → ¬ IsFalse trail.steps (positive atom)
    → IsSupported normal trail.steps atom
IsSingleAnswer normal trail clause Loop = IsSingleGiven normal trail clause

-- atoms were added to a set
pub record AddsAll (atoms : List ℕ) (before after : List Bool) : Type 0 where
  pub places : length after ≡ length before
  pub more : IsPart before after
  pub added : (atom : ℕ) → IsIn after atom → IsIn before atom ⊎ Contains atoms atom
  pub has : All (IsIn after) atoms

-- the heads that a rule supports were marked
pub record MarksOne (normal : Normal) (steps : List Step) (rule : NormalRule)
    (before after : List Bool) : Type 0 where
  pub places : length after ≡ length before
  pub more : IsPart before after
  pub marked : (atom : ℕ) → IsIn after atom → IsIn before atom ⊎ Supports normal steps rule atom
  pub complete : All (λ head. ¬ IsIn after head → LeavesOut normal steps rule head) rule.heads

-- and those of several rules
pub record Marks (normal : Normal) (steps : List Step) (rules : List NormalRule)
    (before after : List Bool) : Type 0 where
  pub places : length after ≡ length before
  pub more : IsPart before after
  pub marked :
      (atom : ℕ) → IsIn after atom
      → IsIn before atom ⊎ Any (λ rule. Supports normal steps rule atom) rules
  pub complete :
      All
      (λ rule. All (λ head. ¬ IsIn after head → LeavesOut normal steps rule head) rule.heads) rules
