-- Where atoms and bodies stand in the rules. No public clause cites this module.
use Rattle.std.specs.Prelude.{◌≡◌, ◌⊎◌, ◌↔◌, ℕ, List, [], length, get_or, slice_get}
use Rattle.std.specs.Prelude.{Any, Contains, IsSomeAnd}
use Rattle.normal_program.specs.declared.normal.Part.{Part}
use Rattle.normal_program.specs.declared.normal.BodyOf.{BodyOf}
use Rattle.normal_program.specs.declared.normal.NormalRule.{NormalRule}
use Rattle.normal_program.specs.declared.normal.Normal.{Normal}
use Rattle.normal_program.specs.Clauses.{literal_of}
use Rattle.unfounded_sets.specs.declared.places.Places.{Places}

-- the list at a place has the number
abbrev pub Has : List (List ℕ) → ℕ → ℕ → Type 0
Has lists place number = Contains (get_or lists place []) number

-- a body stands at the codes of its literals
abbrev pub StandsAt : List Part → ℕ → Type 0
StandsAt parts code = Any (λ part. (literal_of part.lit).0 ≡ code) parts

-- the body of this number does
abbrev pub IsOccurrence : List BodyOf → ℕ → ℕ → Type 0
IsOccurrence bodies code number =
    IsSomeAnd (slice_get bodies number) (λ body. StandsAt body.parts code)

-- a rule with the body of this number has the atom as a head
abbrev pub IsHeadIn : List NormalRule → ℕ → ℕ → Type 0
IsHeadIn rules number atom = Any (λ rule. (rule.body ≡ number) × Contains rule.heads atom) rules

abbrev pub IsHead : Normal → ℕ → ℕ → Type 0
IsHead normal number atom = IsHeadIn normal.rules number atom

-- numbers were put into lists, each at a place
pub record ArePut (put : ℕ → ℕ → Type 0) (old new : List (List ℕ)) : Type 0 where
  pub same : length new ≡ length old
  pub each : (place number : ℕ) → Has new place number ↔ (Has old place number ⊎ put place number)

-- so many lists have just these numbers
pub record AreJust (put : ℕ → ℕ → Type 0) (count : ℕ) (lists : List (List ℕ)) : Type 0 where
  pub size : length lists ≡ count
  pub each : (place number : ℕ) → Has lists place number ↔ put place number

-- where the atoms and bodies of a normal form stand
pub record ArePlaces (normal : Normal) (places : Places) : Type 0 where
  pub occurrences : (code number : ℕ) → Has places.occurrences code number
      ↔ IsOccurrence normal.bodies code number
  pub heads : (number atom : ℕ) → Has places.heads number atom ↔ IsHead normal number atom
  pub supports : (atom number : ℕ) → Has places.supports atom number ↔ IsHead normal number atom
