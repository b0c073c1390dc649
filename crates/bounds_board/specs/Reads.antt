-- What a read of the board gives.
use Rattle.std.specs.Prelude.{◌≡◌, ◌<◌, ◌+◌, ◌↔◌, ℕ, List, length, slice_index}
use Rattle.ground_program.specs.declared.pair.Pair.{Pair}
use Rattle.ground_program.specs.Bounds.{IsWithin}
use Rattle.normal_program.specs.declared.normal.Normal.{Normal}
use Rattle.anytime_core.specs.Bits.{HasBit, IsPairOf, all_words, in_place, out_place, bit_of}
use Rattle.bounds_board.specs.declared.view.View.{View}
use Rattle.bounds_board.specs.declared.settled.Settled.{Settled}
use Rattle.bounds_board.specs.declared.settled.Settled.TheVariants.{Inside, Outside, Not}

-- the word at a place was met by a step after the old view
abbrev pub IsMetSince : View → View → ℕ → Type 0
IsMetSince old new place = old.actor.steps < slice_index new.actor.met place

-- every word was met since, in one step each
pub record HasMetAll (normal : Normal) (old new : View) : Type 0 where
  pub each : (place : ℕ) → place < all_words (length normal.names) → IsMetSince old new place
  pub once : new.actor.steps ≡ old.actor.steps + all_words (length normal.names)

-- a pair lies within that of these words
abbrev pub LiesWithin : Normal → List ℕ → Pair → Type 0
LiesWithin normal seen pair =
    (before : Pair) → IsPairOf (length normal.names) seen before → IsWithin pair before

-- the in-word of a candidate was met since, and had its bit
pub record IsSeenInside (old new : View) (cand : ℕ) : Type 0 where
  pub met : IsMetSince old new (in_place cand)
  pub bit : HasBit (slice_index new.actor.seen (in_place cand)) (bit_of cand)

-- its out-word was met since, and had its bit
pub record IsSeenOutside (normal : Normal) (old new : View) (cand : ℕ) : Type 0 where
  pub met : IsMetSince old new (out_place (length normal.names) cand)
  pub bit : HasBit (slice_index new.actor.seen (out_place (length normal.names) cand)) (bit_of cand)

-- both were met since, and neither had its bit
pub record IsSeenNot (normal : Normal) (old new : View) (cand : ℕ) : Type 0 where
  pub met_in : IsMetSince old new (in_place cand)
  pub met_out : IsMetSince old new (out_place (length normal.names) cand)
  pub no_in : ¬ HasBit (slice_index new.actor.seen (in_place cand)) (bit_of cand)
  pub no_out : ¬ HasBit (slice_index new.actor.seen (out_place (length normal.names) cand))
      (bit_of cand)

-- each answer comes exactly where this was seen
pub record IsSettledBy (normal : Normal) (old new : View) (cand : ℕ) (settled : Settled) : Type 0
  where
    pub inside : (settled ≡ Inside) ↔ IsSeenInside old new cand
    pub outside : (settled ≡ Outside) ↔ IsSeenOutside normal old new cand
    pub neither : (settled ≡ Not) ↔ IsSeenNot normal old new cand
