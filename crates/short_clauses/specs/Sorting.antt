-- How three codes are put in order. No public clause cites this module.
use Rattle.std.specs.Prelude.{◌≡◌, ◌≢◌, ◌<◌, ◌⊎◌, ◌↔◌, ℕ, List, Contains}

-- two codes aren't the same, unless they are 0
abbrev pub AreApart : ℕ → ℕ → Type 0
AreApart one two = (one ≢ two) ⊎ (one ≡ 0)

-- a code may stand before another: it is less, or the other is 0
abbrev pub MayPrecede : ℕ → ℕ → Type 0
MayPrecede earlier later = ((earlier ≢ 0) × (earlier < later)) ⊎ (later ≡ 0)

-- the same two codes, in order
pub record AreInOrder (one two earlier later : ℕ) : Type 0 where
  pub same : ((earlier ≡ one) × (later ≡ two)) ⊎ ((earlier ≡ two) × (later ≡ one))
  pub order : MayPrecede earlier later

-- two lists have the same codes
abbrev pub HasSame : List ℕ → List ℕ → Type 0
HasSame one two = (code : ℕ) → Contains one code ↔ Contains two code
