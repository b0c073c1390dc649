-- What is left is unsettled without a test.
use Rattle.std.proofs.Common.{◌≡◌, ◌≢◌, ◌≤◌, ◌<◌, ◌+◌, ◌-◌, ℕ, zero, suc, Bool, true, false, List}
use Rattle.std.proofs.Common.{[]}
use Rattle.std.proofs.Common.{◌∷◌, length, get_or, refl, sym, ap, subst, ◌∙◌, ⊎_elim, arith}
use Rattle.std.proofs.Common.{true≢false}
use Rattle.std.proofs.Common.{inl, inr, ◌⊎◌, nat_eq, eq-eqb, eqb-true, cond}
use Rattle.std.specs.Prelude.{Any, IsTrue, ◌↔◌, filter}
use Rattle.std.proofs.lemmas.Bool.{cases_lt, cases_eq}
use Rattle.master_record.specs.declared.own.OwnTest.{OwnTest}
use Rattle.master_record.specs.Course.{IsOpenIn, IsLeast, is_open, is_open_at, is_left_at}
use Rattle.master_record.specs.Books.{Books, open_own}
use Rattle.master_record.specs.Verdicts.{IsSpentOut, IsTested}
use Rattle.master_record.specs.Sound.{IsLeftAt}
use Rattle.master_record.proofs.FoundLemmas.{open_at_place, is_open_of, any_unfiltered}

-- a candidate has a test or it has none
pub tested_or_not : (own : List OwnTest) (cand : ℕ)
    → Any (λ (one : OwnTest). one.cand ≡ cand) own
    ⊎ (¬ Any (λ (one : OwnTest). one.cand ≡ cand) own)
tested_or_not [] cand = inr (λ (k, one, within, is, holds). omega (arith, within))
tested_or_not (one ∷ own) cand =
    ⊎_elim
    (λ here. inl (0, one, omega arith, refl, here))
    (λ other.
    ⊎_elim
    (λ (k, found, within, is, holds). inl (suc k, found, omega arith, is, holds))
    (λ none. inr (λ (k, found, within, is, holds). none_of k found within is holds other none))
    (tested_or_not own cand))
    (cases_eq one.cand cand)
  where
    none_of : (k : ℕ) (found : OwnTest) → k < length (one ∷ own)
        → get_or (one ∷ own) k found ≡ found → found.cand ≡ cand → one.cand ≢ cand
        → (¬ Any (λ (item : OwnTest). item.cand ≡ cand) own) → ⊥
    none_of zero found within is holds other none =
        other (ap (λ (item : OwnTest). item.cand) is ∙ holds)
    none_of (suc k) found within is holds other none =
        none (k, found, omega arith, is, holds)

-- some item is among those that pass, where it passes
pub any_filtered : {X : Type 0} (P : X → Type 0) (p : X → Bool) → ((x : X) → P x → p x ≡ true)
    → (xs : List X) → Any P xs → Any P (filter p xs)
any_filtered P p passes [] found = found
any_filtered P p passes (x ∷ xs) found =
    by_test (p x) refl (λ fewer. any_filtered P p passes xs fewer) found
  where
    by_test : (b : Bool) → p x ≡ b → (Any P xs → Any P (filter p xs)) → Any P (x ∷ xs)
        → Any P (filter p (x ∷ xs))
    by_test true keeps rest (zero, y, within, is, holds) =
        subst (λ (b : Bool). Any P (cond b (x ∷ filter p xs) (filter p xs))) (sym keeps)
        (0, y, omega arith, is, holds)
    by_test false drops rest (zero, y, within, is, holds) =
        absurd (true≢false (sym (passes x (subst P (sym is) holds)) ∙ drops))
    by_test true keeps rest (suc k, y, within, is, holds) =
        let (j, z, less, here, of_z) = rest (k, y, omega arith, is, holds) in
        subst (λ (b : Bool). Any P (cond b (x ∷ filter p xs) (filter p xs))) (sym keeps)
        (suc j, z, omega arith, here, of_z)
    by_test false drops rest (suc k, y, within, is, holds) =
        subst (λ (b : Bool). Any P (cond b (x ∷ filter p xs) (filter p xs))) (sym drops)
        (rest (k, y, omega arith, is, holds))

module _ (books : Books) (left : List Bool) (raw : List OwnTest) (count place : ℕ)
    (all : count ≡ length books.normal.names)
    (view : books.own ≡ open_own books.pair raw)
    (left_is : (at : ℕ) → IsLeftAt books.pair raw left at)
    (least : IsLeast (is_left_at left) count place) (answered : 1 ≤ books.answers) where
  -- the own test of an unsettled candidate that isn't left
  tested_of : (cand : ℕ) → IsOpenIn books.normal.names books.pair cand
      → is_left_at left (cand - 1) ≡ false → IsTested books cand
  tested_of cand unsettled none_left =
      let first : 1 ≤ cand = unsettled.candidate.first in
      let same : cand - 1 + 1 ≡ cand = omega arith in
      ⊎_elim
      (λ found. subst (Any (λ (one : OwnTest). one.cand ≡ cand)) (sym view)
      (any_filtered (λ (one : OwnTest). one.cand ≡ cand)
      (λ (one : OwnTest). is_open books.pair one.cand)
      (λ one is. subst (λ n. is_open books.pair n ≡ true) (sym is)
      (is_open_of books.normal.names books.pair cand unsettled)) raw found))
      (λ none. absurd (true≢false (sym ((left_is (cand - 1)).1 (
        is_open_of books.normal.names books.pair cand unsettled,
        subst (λ n. ¬ Any (λ (one : OwnTest). one.cand ≡ n) raw) (sym same) none,
      )) ∙ none_left)))
      (tested_or_not raw cand)

  -- each unsettled candidate has a test just where no place is left
  pub spent_iff : IsTrue (nat_eq place count) ↔ IsSpentOut books
  spent_iff = (
    λ end.
        let same : place ≡ count = eqb-true place count end in
        inr (
          answered,
          λ cand unsettled.
              let first : 1 ≤ cand = unsettled.candidate.first in
              let last : cand ≤ length books.normal.names = unsettled.candidate.last in
              tested_of cand unsettled (least.before (cand - 1) (omega arith)),
        ),
    λ spent.
        ⊎_elim
        (λ less. absurd (⊎_elim
        (λ unanswered. omega (arith, unanswered.0, answered))
        (λ each.
        let found = (left_is place).0 (least.here less) in
        let unsettled : IsOpenIn books.normal.names books.pair (place + 1) =
        open_at_place books.normal.names books.pair place (subst (λ n. place < n) all less)
        found.0 in
        found.1 (any_unfiltered (λ (one : OwnTest). one.cand ≡ place + 1)
        (λ (one : OwnTest). is_open books.pair one.cand) raw
        (subst (Any (λ (one : OwnTest). one.cand ≡ place + 1)) view (each.1 (place + 1) unsettled))))
        spent))
        (λ past. let within : place ≤ count = least.within in
        eq-eqb place count (omega arith))
        (cases_lt place count),
  )
