-- Masks of the candidates that a set shows.
use Rattle.std.proofs.Common.{◌≡◌, ◌<◌, ◌≤◌, ◌⊎◌, ◌+◌, ◌-◌, ◌^◌, ℕ, Bool}
use Rattle.std.proofs.Common.{true, false, not, List, length, map, refl, sym, ap, subst}
use Rattle.std.proofs.Common.{◌∙◌}
use Rattle.std.proofs.Common.{⊎_elim, arith, true≢false, [], ◌∷◌, zero, suc}
use Rattle.std.specs.Prelude.{slice_get}
use Rattle.std.specs.Option.{option_map_or}
use Rattle.std.specs.Prelude.{bit_or, slice_index}
use Rattle.std.specs.Int.{bit_at}
use Rattle.std.proofs.lemmas.Bool.{cases_eq, cases_lt}
use Rattle.std.proofs.lemmas.Nat.Bits.{bit_at-pow_same, bit_at-pow_other}
use Rattle.ground_program.specs.declared.program.Mode.{Mode}
use Rattle.ground_program.specs.declared.program.Mode.TheVariants.{Cautious, Brave}
use Rattle.ground_program.specs.declared.program.Named.{Named}
use Rattle.ground_program.specs.Meaning.{has}
use Rattle.ground_program.specs.Bounds.{Shows, atom_of}
use Rattle.normal_program.specs.declared.normal.Normal.{Normal}
use Rattle.anytime_core.specs.Bits.{HasBit}
use Rattle.anytime_core.proofs.BitLemmas.{bit_from_or, bit_or_left, bit_or_right, no_bit_of_zero}
use Rattle.anytime_core.proofs.BitLemmas.{not_both}
use Rattle.bounds_board.specs.Reports.{shows_atom, IsMaskOf}

-- the mask has the bits of the shown candidates before a place
pub record HasMask (mode : Mode) (set : List Bool) (atoms : List ℕ) (first place mask : ℕ) : Type 0
  where
    pub sound : (bit : ℕ) → HasBit mask bit
        → (first + bit < place) × (shows_atom mode set (slice_index atoms (first + bit)) ≡ true)
    pub complete : (bit : ℕ) → first + bit < place
        → shows_atom mode set (slice_index atoms (first + bit)) ≡ true → HasBit mask bit

module _ (mode : Mode) (members : List Bool) (atoms : List ℕ) (first : ℕ) where
  pub mask_start : HasMask mode members atoms first first 0
  mask_start =
      record {
        sound = λ bit has. absurd (no_bit_of_zero bit has);
        complete = λ bit none shown. absurd (omega arith);
      }

  -- a candidate that isn't shown
  pub mask_same : (place mask : ℕ) → HasMask mode members atoms first place mask
      → shows_atom mode members (slice_index atoms place) ≡ false
      → HasMask mode members atoms first (place + 1) mask
  mask_same place mask before hidden =
      record {
        sound = λ bit has. let b = before.sound bit has in (omega (arith, b.0), b.1);
        complete = λ bit less shown.
            ⊎_elim (λ early. before.complete bit early shown)
            (λ late. let here : first + bit ≡ place = omega arith in
            absurd (true≢false (sym shown
            ∙ ap (λ n. shows_atom mode members (slice_index atoms n)) here ∙ hidden)))
            (cases_lt (first + bit) place);
      }

  -- a candidate that is shown
  pub mask_more : (place mask : ℕ) → first ≤ place → HasMask mode members atoms first place mask
      → shows_atom mode members (slice_index atoms place) ≡ true
      → HasMask mode members atoms first (place + 1) (bit_or mask (2 ^ (place - first)))
  mask_more place mask from before shown =
      record {
        sound = λ bit has.
            ⊎_elim
            (λ old. let b = before.sound bit old in (omega (arith, b.0), b.1))
            (λ new. here bit (power_bit (place - first) bit new))
            (bit_from_or mask (2 ^ (place - first)) bit has);
        complete = λ bit less shows.
            ⊎_elim (λ early. bit_or_left mask (2 ^ (place - first)) bit
            (before.complete bit early shows))
            (λ late. let same : bit ≡ place - first = omega arith in
            bit_or_right mask (2 ^ (place - first)) bit
            (subst (λ n. HasBit (2 ^ (place - first)) n) (sym same)
            (bit_at-pow_same (place - first))))
            (cases_lt (first + bit) place);
      }
    where
      power_bit : (k bit : ℕ) → HasBit (2 ^ k) bit → bit ≡ k
      power_bit k bit has' = ⊎_elim (λ same. same)
          (λ other. absurd (not_both (bit_at (2 ^ k) bit) (bit_at-pow_other k bit other) has'))
          (cases_eq bit k)

      here : (bit : ℕ) → bit ≡ place - first
          → (first + bit < place + 1)
          × (shows_atom mode members (slice_index atoms (first + bit)) ≡ true)
      here bit same =
          let is : first + bit ≡ place = omega arith in
          (omega arith, ap (λ n. shows_atom mode members (slice_index atoms n)) is ∙ shown)

-- whether an atom is shown decides whether a candidate of it is
pub shows_is : (names : List Named) (mode : Mode) (members : List Bool) (cand : ℕ)
    → shows_atom mode members (atom_of names cand) ≡ true → Shows names mode members cand
shows_is names Cautious members cand is = λ inside.
    true≢false (sym is ∙ ap not inside)
shows_is names Brave members cand is = is

pub shown_is : (names : List Named) (mode : Mode) (members : List Bool) (cand : ℕ)
    → Shows names mode members cand → shows_atom mode members (atom_of names cand) ≡ true
shown_is names Cautious members cand shows =
    either (has members (atom_of names cand)) refl
  where
    either : (b : Bool) → has members (atom_of names cand) ≡ b
        → not (has members (atom_of names cand)) ≡ true
    either true is = absurd (shows is)
    either false is = ap not is
shown_is names Brave members cand shows = shows

-- the atom of a candidate
pub atom_at : (names : List Named) (at : ℕ) → at < length names
    → slice_index (map (λ named. named.atom) names) at ≡ atom_of names (at + 1)
atom_at names at within =
    let less : at + 1 - 1 ≡ at = omega arith in
    subst (λ n. slice_index (map (λ named. named.atom) names) at
    ≡ option_map_or (λ named. named.atom) (slice_get names n) 0) (sym less) (read names at within)
  where
    read : (xs : List Named) (k : ℕ) → k < length xs
        → slice_index (map (λ named. named.atom) xs) k
        ≡ option_map_or (λ named. named.atom) (slice_get xs k) 0
    read [] k none = absurd (omega arith)
    read (x ∷ xs) zero here = refl
    read (x ∷ xs) (suc k) here = read xs k (omega arith)

-- the mask of a word of candidates
pub mask_end : (normal : Normal) (mode : Mode) (members : List Bool) (first end mask : ℕ)
    → end ≤ first + 64 → end ≤ length normal.names
    → (first + 64 ≤ end) ⊎ (length normal.names ≤ end)
    → HasMask mode members (map (λ named. named.atom) normal.names) first end mask
    → IsMaskOf normal mode members first mask
mask_end normal mode members first end mask few within all is bit = (
  λ has'.
      let s = is.sound bit has' in
      let less : first + bit < end = s.0 in
      let inside : first + bit < length normal.names = omega arith in
      record {
        few = omega arith;
        candidate = inside;
        shown = shows_is normal.names mode members (first + bit + 1)
            (ap (λ n. shows_atom mode members n)
            (sym (atom_at normal.names (first + bit) inside)) ∙ s.1);
      },
  λ shown.
      let inside : first + bit < length normal.names = shown.candidate in
      let low : bit < 64 = shown.few in
      is.complete bit (⊎_elim (λ a. omega arith) (λ b. omega arith) all)
      (ap (λ n. shows_atom mode members n) (atom_at normal.names (first + bit) inside)
      ∙ shown_is normal.names mode members (first + bit + 1) shown.shown),
)
