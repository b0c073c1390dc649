-- When what is reported is true of a normal form.
use Rattle.std.specs.Prelude.{◌≡◌, ◌⊎◌, ℕ, Bool, List, length, slice_index}
use Rattle.ground_program.specs.declared.program.Mode.{Mode}
use Rattle.ground_program.specs.declared.program.Mode.TheVariants.{Cautious, Brave}
use Rattle.ground_program.specs.declared.pair.Pair.{Pair}
use Rattle.ground_program.specs.Meaning.{IsIn}
use Rattle.ground_program.specs.Bounds.{IsCandidate, IsPairOver, HasCandidate, atom_of}
use Rattle.normal_program.specs.declared.normal.Normal.{Normal}
use Rattle.normal_program.specs.Normal.{IsAnswerSetN}
use Rattle.anytime_core.specs.Bits.{HasBit, in_place, out_place, bit_of}

-- a candidate of a normal form is a consequence: true in every answer set, or in some answer set
abbrev pub IsConsequenceN : Normal → Mode → ℕ → Type 0
IsConsequenceN normal Cautious cand =
    (set : List Bool) → IsAnswerSetN normal set → IsIn set (atom_of normal.names cand)
IsConsequenceN normal Brave cand =
    (set : List Bool) × IsAnswerSetN normal set × IsIn set (atom_of normal.names cand)

-- there is an answer set
abbrev pub IsCoherent : Normal → Type 0
IsCoherent normal = (set : List Bool) × IsAnswerSetN normal set

-- the consequences of a normal form lie between the two bounds
pub record EnclosesN (normal : Normal) (mode : Mode) (pair : Pair) : Type 0 where
  pub over : IsPairOver (length normal.names) pair
  pub lower : (cand : ℕ) → IsCandidate normal.names cand → HasCandidate pair.lower cand
      → IsConsequenceN normal mode cand
  pub upper : (cand : ℕ) → IsCandidate normal.names cand → IsConsequenceN normal mode cand
      → HasCandidate pair.upper cand

-- the bit of this place and number is the in-bit of a candidate, and that is a consequence
pub record IsTrueIn (normal : Normal) (mode : Mode) (place bit : ℕ) : Type 0 where
  pub cand : ℕ
  pub candidate : IsCandidate normal.names cand
  pub word : place ≡ in_place cand
  pub number : bit ≡ bit_of cand
  pub holds : IsConsequenceN normal mode cand

-- it is the out-bit of a candidate, and that is no consequence
pub record IsTrueOut (normal : Normal) (mode : Mode) (place bit : ℕ) : Type 0 where
  pub cand : ℕ
  pub candidate : IsCandidate normal.names cand
  pub word : place ≡ out_place (length normal.names) cand
  pub number : bit ≡ bit_of cand
  pub holds : ¬ IsConsequenceN normal mode cand

-- flag 0 says that there is an answer set, and flag 1 that there is none
abbrev pub IsTrueFlag : Normal → ℕ → Type 0
IsTrueFlag normal bit = ((bit ≡ 0) × IsCoherent normal) ⊎ ((bit ≡ 1) × (¬ IsCoherent normal))

-- what the bit says where it is set
abbrev pub IsTrueBit : Normal → Mode → ℕ → ℕ → Type 0
IsTrueBit normal mode place bit =
    ((place ≡ 0) × IsTrueFlag normal bit)
    ⊎ (IsTrueIn normal mode place bit ⊎ IsTrueOut normal mode place bit)

-- all bits of a word are true, for the word of this place
abbrev pub IsTrueWord : Normal → Mode → ℕ → ℕ → Type 0
IsTrueWord normal mode place word =
    (bit : ℕ) → HasBit word bit → IsTrueBit normal mode place bit

-- all bits of a row of words are true
abbrev pub AreTrue : Normal → Mode → List ℕ → Type 0
AreTrue normal mode words = (place : ℕ) → IsTrueWord normal mode place (slice_index words place)
