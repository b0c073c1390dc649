-- What comes from a set by taking away atoms, place by place.
use Rattle.std.specs.Prelude.{◌↔◌, IsTrue, slice_get, Some}
use Rattle.std.proofs.lemmas.Option.{get_or_from_slice_get, slice_get_within}
use Rattle.std.proofs.Common.{◌≡◌, ◌≢◌, ◌<◌, ◌+◌, ◌⊎◌, inl, inr, ℕ, suc, zero, Bool, true, false}
use Rattle.std.proofs.Common.{List, [], ◌∷◌, length, set, arith, refl, sym, ap, ◌∙◌, subst}
use Rattle.std.proofs.Common.{true≢false, below_more}
use Rattle.std.proofs.lemmas.Bool.{cases_eq}
use Rattle.std.proofs.lemmas.List.{ext_get_or, length-set, get_or-set_same, get_or-set_other}
use Rattle.std.proofs.lemmas.List.{set-set, set-get_or}
use Rattle.ground_program.specs.declared.program.Rule.{Rule}
use Rattle.ground_program.specs.Meaning.{has, KeepsAll}
use Rattle.plain_answer_sets.specs.Candidates.{IsCutFrom, IsSmallerKeeper, SomeSmallerKeeps}

-- a set comes from itself with nothing taken away
cut_self : (trial : List Bool) (at : ℕ) → IsCutFrom trial at trial
cut_self trial at =
    record { positions = refl; before = λ place below. refl; inside = λ atom here. here }

-- with no place left nothing can be taken away
cut_end : (trial part : List Bool) (at : ℕ) → at ≡ length trial → IsCutFrom trial at part
    → part ≡ trial
cut_end trial part at end cut =
    ext_get_or false part trial cut.positions
    (λ place below. cut.before place
    (let positions = cut.positions in omega (arith, end, positions, below)))

-- what leaves a place as it is may still lose later ones
cut_later : (trial part : List Bool) (at : ℕ) → IsCutFrom trial (at + 1) part
    → IsCutFrom trial at part
cut_later trial part at cut = record {
  positions = cut.positions;
  before = λ place below. cut.before place (omega (arith, below));
  inside = cut.inside;
}

cut_kept : (trial part : List Bool) (at : ℕ) → has part at ≡ has trial at → IsCutFrom trial at part
    → IsCutFrom trial (at + 1) part
cut_kept trial part at same cut = record {
  positions = cut.positions;
  before = below_more _ _ cut.before same;
  inside = cut.inside;
}

-- a set with one place made false has no more atoms
still_in : (trial : List Bool) (at atom : ℕ) → has (set trial at false) atom ≡ true
    → has trial atom ≡ true
still_in [] at atom here = here
still_in (x ∷ xs) zero zero here = absurd (true≢false (sym here))
still_in (x ∷ xs) zero (suc atom) here = here
still_in (x ∷ xs) (suc at) zero here = here
still_in (x ∷ xs) (suc at) (suc atom) here = still_in xs at atom here

-- what comes from the set without the atom at a place comes from the set itself
cut_taken : (trial part : List Bool) (at : ℕ) → IsCutFrom (set trial at false) (at + 1) part
    → IsCutFrom trial at part
cut_taken trial part at cut = record {
  positions = cut.positions ∙ length-set trial at false;
  before = λ place below.
      let apart : place ≢ at = omega (arith, below) in
      cut.before place (omega (arith, below)) ∙ get_or-set_other trial at place false false apart;
  inside = λ atom here. still_in trial at atom (cut.inside atom here);
}

-- what lacks the atom at a place comes from the set without it
cut_without : (trial part : List Bool) (at : ℕ) → at < length trial → has part at ≡ false
    → IsCutFrom trial at part → IsCutFrom (set trial at false) (at + 1) part
cut_without trial part at within out cut = record {
  positions = cut.positions ∙ sym (length-set trial at false);
  before = below_more _ _
      (λ place below.
      let apart : place ≢ at = omega (arith, below) in
      cut.before place below ∙ sym (get_or-set_other trial at place false false apart))
      (out ∙ sym (get_or-set_same trial at false false within));
  inside = λ atom here.
      elim (cases_eq atom at) [
        | inl same ↦ absurd (true≢false (sym here ∙ ap (λ place. has part place) same ∙ out))
        | inr apart ↦ get_or-set_other trial at atom false false apart ∙ cut.inside atom here
      ];
}

-- what a read of a place tells
pub place_read : (was trial : List Bool) (at : ℕ) (bit want : Bool) → was ≡ trial
    → slice_get was at ≡ Some bit → bit ≡ want
    → (at < length trial) × (has trial at ≡ want)
place_read was trial at bit want same read is = (
  subst (λ xs. at < length xs) same (slice_get_within was at bit read),
  ap (λ xs. has xs at) (sym same) ∙ get_or_from_slice_get was at bit false read ∙ is,
)

-- writing a place that was true back gives the set again
pub put_back : (trial : List Bool) (at : ℕ) → has trial at ≡ true
    → set (set trial at false) at true ≡ trial
put_back trial at here =
    set-set trial at false true ∙ ap (λ bit. set trial at bit) (sym here)
    ∙ set-get_or trial at false

module _ (by : List Bool) (rules : List Rule) where
  -- at the end the set itself is the only one
  found_at_end : (trial : List Bool) (at : ℕ) → trial ≢ by → KeepsAll by trial rules
      → SomeSmallerKeeps by rules trial at
  found_at_end trial at other keeps =
      (trial, record { cut = cut_self trial at; other = other; keeps = keeps })

  only_at_end : (trial : List Bool) (at : ℕ) → at ≡ length trial
      → SomeSmallerKeeps by rules trial at
      → (trial ≢ by) × KeepsAll by trial rules
  only_at_end trial at end (part, keeper) =
      let P : List Bool → Type 0 = λ some. (some ≢ by) × KeepsAll by some rules in
      subst P (cut_end trial part at end keeper.cut) (keeper.other, keeper.keeps)

  pub found_later : (trial : List Bool) (at : ℕ) → SomeSmallerKeeps by rules trial (at + 1)
      → SomeSmallerKeeps by rules trial at
  found_later trial at (part, keeper) = (
    part,
    record {
      cut = cut_later trial part at keeper.cut;
      other = keeper.other;
      keeps =
          keeper.keeps;
    },
  )

  found_without : (trial : List Bool) (at : ℕ)
      → SomeSmallerKeeps by rules (set trial at false) (at + 1)
      → SomeSmallerKeeps by rules trial at
  found_without trial at (part, keeper) = (
    part,
    record {
      cut = cut_taken trial part at keeper.cut;
      other = keeper.other;
      keeps =
          keeper.keeps;
    },
  )

  kept_in : (trial part : List Bool) (at : ℕ) → IsSmallerKeeper by rules trial at part
      → has part at ≡ has trial at
      → SomeSmallerKeeps by rules trial (at + 1)
  kept_in trial part at keeper same = (
    part,
    record {
      cut = cut_kept trial part at same keeper.cut;
      other = keeper.other;
      keeps =
          keeper.keeps;
    },
  )

  both_false : (a b : Bool) → a ≡ false → (b ≡ true → a ≡ true) → b ≡ a
  both_false a true out inside = sym (inside refl)
  both_false a false out inside = sym out

  -- a place with no atom stays as it is
  absent_stays : (trial : List Bool) (at : ℕ) → has trial at ≡ false
      → SomeSmallerKeeps by rules trial at
      → SomeSmallerKeeps by rules trial (at + 1)
  absent_stays trial at out (part, keeper) =
      kept_in trial part at keeper
      (both_false (has trial at) (has part at) out (keeper.cut.inside at))

  present_either : (trial part : List Bool) (at : ℕ) (bit : Bool) → has part at ≡ bit
      → at < length trial → has trial at ≡ true
      → IsSmallerKeeper by rules trial at part
      → SomeSmallerKeeps by rules trial (at + 1)
      ⊎ SomeSmallerKeeps by rules (set trial at false) (at + 1)
  present_either trial part at true is within here keeper =
      inl (kept_in trial part at keeper (is ∙ sym here))
  present_either trial part at false is within here keeper =
      inr (
        part,
        record {
          cut = cut_without trial part at within is keeper.cut;
          other =
              keeper.other;
          keeps = keeper.keeps;
        },
      )

  -- an atom stays or goes
  stays_or_goes : (trial : List Bool) (at : ℕ) → at < length trial → has trial at ≡ true
      → SomeSmallerKeeps by rules trial at
      → SomeSmallerKeeps by rules trial (at + 1)
      ⊎ SomeSmallerKeeps by rules (set trial at false) (at + 1)
  stays_or_goes trial at within here (part, keeper) =
      present_either trial part at (has part at) refl within here keeper

  -- what the search answers at the end, at a place with no atom and at a place with one
  pub end_exactly : (trial : List Bool) (at : ℕ) (found : Bool) → at ≡ length trial
      → (IsTrue found ↔ ((trial ≢ by) × KeepsAll by trial rules))
      → (IsTrue found ↔ SomeSmallerKeeps by rules trial at)
  end_exactly trial at found end is = (
    λ told. let both = is.0 told in
        found_at_end trial at both.0 both.1,
    λ some. is.1 (only_at_end trial at end some),
  )

  pub absent_exactly : (trial : List Bool) (at : ℕ) (found : Bool) → has trial at ≡ false
      → (IsTrue found ↔ SomeSmallerKeeps by rules trial (at + 1))
      → (IsTrue found ↔ SomeSmallerKeeps by rules trial at)
  absent_exactly trial at found out is =
      (λ told. found_later trial at (is.0 told), λ some. is.1 (absent_stays trial at out some))

  pub present_exactly : (trial without : List Bool) (at : ℕ) (found : Bool) → at < length trial
      → has trial at ≡ true
      → without ≡ set trial at false → ¬ SomeSmallerKeeps by rules trial (at + 1)
      → (IsTrue found ↔ SomeSmallerKeeps by rules without (at + 1))
      → (IsTrue found ↔ SomeSmallerKeeps by rules trial at)
  present_exactly trial without at found within here written none is =
      let P : List Bool → Type 0 = λ some. SomeSmallerKeeps by rules some (at + 1) in (
        λ told. found_without trial at (subst P written (is.0 told)),
        λ some. elim (stays_or_goes trial at within here some)
            [ inl stays ↦ absurd (none stays) | inr goes ↦ is.1 (subst P (sym written) goes) ],
      )
