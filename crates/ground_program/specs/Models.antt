-- What `is_model` tells: which sets are models, and what a set that is none breaks first.
use Rattle.std.specs.Prelude.{◌≡◌, ◌<◌, ◌⊎◌, ℕ, Bool, not, List, length, All, Some}
use Rattle.std.specs.List.{AllWithin, HoldsAt, find}
use Rattle.ground_program.specs.declared.program.Rule.{Rule}
use Rattle.ground_program.specs.declared.program.Program.{Program}
use Rattle.ground_program.specs.declared.program.Broken.{Broken}
use Rattle.ground_program.specs.declared.program.Broken.TheVariants.{Rule as BrokenRule, Compute}
use Rattle.ground_program.specs.Meaning.{has, IsIn, Keeps, KeepsAll, MeetsCompute}

-- a model of the compute statement and of the rules of its own reduct
pub record IsModel (program : Program) (set : List Bool) : Type 0 where
  pub keeps : KeepsAll set set program.rules
  pub compute : MeetsCompute program set

-- rule `at` fails by the set in the set, and each rule before it holds
pub record IsFirstFailing (set : List Bool) (rules : List Rule) (at : ℕ) : Type 0 where
  pub exists : at < length rules
  pub before : AllWithin (Keeps set set) rules 0 at
  pub fails : HoldsAt (λ rule. ¬ Keeps set set rule) rules at

-- the first atom of `must` that is missing, else the first of `must_not` that is present
abbrev pub IsFirstUnmet : Program → List Bool → ℕ → Type 0
IsFirstUnmet program set atom =
    (find (λ each. not (has set each)) program.must ≡ Some atom)
    ⊎ (All (IsIn set) program.must × (find (has set) program.must_not ≡ Some atom))

-- what a set breaks first: a rule, or with no rule broken the compute statement
abbrev pub BreaksFirst : Program → List Bool → Broken → Type 0
BreaksFirst program set (BrokenRule at) = IsFirstFailing set program.rules at
BreaksFirst program set (Compute atom) =
    KeepsAll set set program.rules × IsFirstUnmet program set atom
