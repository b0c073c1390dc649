-- What a seat holds after a report.
use Rattle.std.specs.Prelude.{◌<◌, ◌+◌, ◌↔◌, ℕ, Bool, true, not, if◌then◌else◌, List, length}
use Rattle.std.specs.Prelude.{slice_index}
use Rattle.ground_program.specs.declared.program.Mode.{Mode}
use Rattle.ground_program.specs.declared.program.Mode.TheVariants.{Cautious, Brave}
use Rattle.ground_program.specs.Meaning.{has}
use Rattle.ground_program.specs.Bounds.{IsCandidate, Shows}
use Rattle.normal_program.specs.declared.normal.Normal.{Normal}
use Rattle.anytime_core.specs.Bits.{HasBit, in_place, out_place, bit_of}

-- the seen words have the in-bit of a candidate
abbrev pub HoldsIn : List ℕ → ℕ → Type 0
HoldsIn seen cand = HasBit (slice_index seen (in_place cand)) (bit_of cand)

-- they have its out-bit
abbrev pub HoldsOut : Normal → List ℕ → ℕ → Type 0
HoldsOut normal seen cand =
    HasBit (slice_index seen (out_place (length normal.names) cand)) (bit_of cand)

-- they have the flag of whether there is an answer set
abbrev pub HoldsState : List ℕ → Bool → Type 0
HoldsState seen coherent = HasBit (slice_index seen 0) (if coherent then 0 else 1)

-- they have the bit of a candidate that a set shows: out in cautious mode, in in brave mode
abbrev pub HoldsShown : Normal → Mode → List ℕ → ℕ → Type 0
HoldsShown normal Cautious seen cand = HoldsOut normal seen cand
HoldsShown normal Brave seen cand = HoldsIn seen cand

-- they have all that an answer set shows
pub record HoldsSet (normal : Normal) (mode : Mode) (set : List Bool) (seen : List ℕ) : Type 0
  where
    pub flag : HoldsState seen true
    pub shown : (cand : ℕ) → IsCandidate normal.names cand → Shows normal.names mode set cand
        → HoldsShown normal mode seen cand

-- whether a set shows the candidate of an atom
abbrev pub shows_atom : Mode → List Bool → ℕ → Bool
shows_atom Cautious set atom = not (has set atom)
shows_atom Brave set atom = has set atom

-- a bit of the word whose first candidate is `first` + 1 is that of a candidate that the set shows
pub record IsShownBit (normal : Normal) (mode : Mode) (set : List Bool) (first bit : ℕ) : Type 0
  where
    pub few : bit < 64
    pub candidate : first + bit < length normal.names
    pub shown : Shows normal.names mode set (first + bit + 1)

-- the mask has just these bits
abbrev pub IsMaskOf : Normal → Mode → List Bool → ℕ → ℕ → Type 0
IsMaskOf normal mode set first mask =
    (bit : ℕ) → HasBit mask bit ↔ IsShownBit normal mode set first bit
