-- What a search knows of the literals that it assumes.
use Rattle.std.specs.Prelude.{◌≡◌, ◌≢◌, ◌<◌, ◌⊎◌, ℕ, List, length, take, slice_get}
use Rattle.std.specs.Prelude.{All, Contains, None, Some}
use Rattle.clause_store.specs.declared.literal.Lit.{Lit}
use Rattle.clause_store.specs.declared.literal.Value.TheVariants.{Yes}
use Rattle.clause_store.specs.declared.step.Step.{Step}
use Rattle.clause_store.specs.Trail.{value_of}

-- all literals are true
abbrev pub AreTrue : List Step → List Lit → Type 0
AreTrue steps lits = All (λ lit. value_of steps lit ≡ Yes) lits

-- the literal at a place isn't true
pub record IsNotTrueAt (steps : List Step) (lits : List Lit) (at : ℕ) : Type 0 where
  pub within : at < length lits
  pub lit : Lit
  pub there : slice_get lits at ≡ Some lit
  pub not_true : value_of steps lit ≢ Yes

-- each decision is an assumed literal, or all of these were true before it
abbrev pub AreAssumedFirst : List Lit → List Step → Type 0
AreAssumedFirst assumed steps =
    (at : ℕ) (step : Step) → slice_get steps at ≡ Some step → step.reason ≡ None
    → Contains assumed step.lit ⊎ AreTrue (take at steps) assumed
