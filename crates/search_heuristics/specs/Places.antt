-- How far the assumed literals are known to be true, by levels.
use Rattle.std.specs.Prelude.{◌≡◌, ◌≢◌, ◌<◌, ◌≤◌, ◌+◌, ℕ, List, length, take, slice_get}
use Rattle.std.specs.Prelude.{slice_index, ◌++◌, ◌∷◌, [], All, Some}
use Rattle.clause_store.specs.declared.literal.Lit.{Lit}
use Rattle.clause_store.specs.declared.literal.Value.TheVariants.{Yes}
use Rattle.clause_store.specs.declared.step.Step.{Step}
use Rattle.clause_store.specs.Trail.{present_level, up_to, value_of}

-- all literals are true
abbrev pub AreTrueOn : List Step → List Lit → Type 0
AreTrueOn steps lits = All (λ lit. value_of steps lit ≡ Yes) lits

-- the literal at a place isn't true, and those before it are
pub record IsFirstNotTrue (steps : List Step) (lits : List Lit) (at : ℕ) : Type 0 where
  pub within : at < length lits
  pub lit : Lit
  pub there : slice_get lits at ≡ Some lit
  pub not_true : value_of steps lit ≢ Yes
  pub before : AreTrueOn steps (take at lits)

-- there is a place for each level, 0 past the last one: the assumed literals before it are true
-- among the assignments up to that level
pub record AreTrueBefore (assumed : List Lit) (steps : List Step) (places : List ℕ) : Type 0 where
  pub known :
      (level : ℕ) → level ≤ present_level steps
      → AreTrueOn (up_to level steps) (take (slice_index places level) assumed)

-- places that are right at each trail of level 0, whatever is assumed
abbrev pub BeginsAtZero : List ℕ → Type 0
BeginsAtZero places =
    (assumed : List Lit) (steps : List Step) → present_level steps ≡ 0
    → AreTrueBefore assumed steps places

-- where the old places are right, the new ones are once a decision has opened a level
abbrev pub OpensLevel : List Step → List ℕ → List ℕ → Type 0
OpensLevel steps old new =
    (assumed : List Lit) (decided : Step) → decided.level ≡ present_level steps + 1
    → AreTrueBefore assumed steps old → AreTrueBefore assumed (steps ++ decided ∷ []) new
