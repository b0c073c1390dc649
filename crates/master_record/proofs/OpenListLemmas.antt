-- The list of open candidates.
use Rattle.std.proofs.Common.{◌≡◌, ◌≤◌, ◌<◌, ◌+◌, ◌-◌, ℕ, zero, suc, Bool, true, false, List, []}
use Rattle.std.proofs.Common.{◌∷◌, ◌++◌, length, take, get_or, refl, sym, ap, subst, ◌∙◌, ⊎_elim}
use Rattle.std.proofs.Common.{arith, true≢false, cond, zero-add, add-zero, nat_lt}
use Rattle.std.specs.Prelude.{IsTrue, ◌↔◌, filter}
use Rattle.std.specs.List.{range_with_len}
use Rattle.std.proofs.lemmas.List.{take_all}
use Rattle.std.proofs.lemmas.List.Elements.{filter-append, All-filter, filter_passes}
use Rattle.std.proofs.lemmas.List.FromFn.{get_or-range_with_len, length-range_with_len}
use Rattle.std.proofs.lemmas.List.Sums.{length-filter, count_by-le-length}
use Rattle.std.proofs.Math.Seq.{take-append_seam}
use Rattle.std.proofs.lemmas.Bool.{cases_lt, ltb-true, lt-ltb}
use Rattle.ground_program.specs.declared.pair.Pair.{Pair}
use Rattle.master_record.specs.Course.{IsLeast, is_open, is_open_at}
use Rattle.master_record.specs.Books.{Books, open_list}
use Rattle.master_record.proofs.LeftLemmas.{any_filtered}

-- numbers in two parts
range_split : (a n m : ℕ)
    → range_with_len a (n + m) ≡ range_with_len a n ++ range_with_len (a + n) m
range_split a zero m =
    ap (range_with_len a) (zero-add m) ∙ ap (λ b. range_with_len b m) (sym (add-zero a))
range_split a (suc n) m =
    let more : suc n + m ≡ suc (n + m) = omega arith in
    let at : a + 1 + n ≡ a + suc n = omega arith in
    ap (range_with_len a) more
    ∙ ap (λ (xs : List ℕ). a ∷ xs)
    (range_split (a + 1) n m ∙ ap (λ b. range_with_len (a + 1) n ++ range_with_len b m) at)

module _ (pair : Pair) where
  -- the unsettled ones among the first
  abbrev among : ℕ → List ℕ
  among n = filter (is_open pair) (range_with_len 1 n)

  among_split : (n m : ℕ)
      → among (n + m) ≡ among n ++ filter (is_open pair) (range_with_len (1 + n) m)
  among_split n m =
      ap (filter (is_open pair)) (range_split 1 n m)
      ∙ filter-append (is_open pair) (range_with_len 1 n) (range_with_len (1 + n) m)

  -- one more that is unsettled
  pub among_open : (n : ℕ) → is_open pair (n + 1) ≡ true
      → among (n + 1) ≡ among n ++ (n + 1) ∷ []
  among_open n is =
      let same : 1 + n ≡ n + 1 = omega arith in
      let here : is_open pair (1 + n) ≡ true =
      subst (λ k. is_open pair k ≡ true) (sym same) is in
      among_split n 1
      ∙ ap (λ (b : Bool). among n ++ cond b ((1 + n) ∷ []) []) here
      ∙ ap (λ (k : ℕ). among n ++ k ∷ []) same

  -- or settled
  pub among_shut : (n : ℕ) → is_open pair (n + 1) ≡ false → among (n + 1) ≡ among n
  among_shut n is =
      let same : 1 + n ≡ n + 1 = omega arith in
      let here : is_open pair (1 + n) ≡ false =
      subst (λ k. is_open pair k ≡ false) (sym same) is in
      among_split n 1
      ∙ ap (λ (b : Bool). among n ++ cond b ((1 + n) ∷ []) []) here
      ∙ append_nil (among n)
    where
      append_nil : (xs : List ℕ) → xs ++ [] ≡ xs
      append_nil [] = refl
      append_nil (x ∷ xs) = ap (λ (ys : List ℕ). x ∷ ys) (append_nil xs)

  -- there is none before the first
  pub none_among : (n : ℕ) → ((k : ℕ) → k < n → is_open_at pair k ≡ false) → among n ≡ []
  none_among zero none = refl
  none_among (suc n) none =
      let more : suc n ≡ n + 1 = omega arith in
      let place : n ≡ n + 1 - 1 = omega arith in
      let shut : is_open pair (n + 1) ≡ false =
      subst (λ k. is_open_at pair k ≡ false) place (none n (omega arith)) in
      ap among more ∙ among_shut n shut
      ∙ none_among n (λ k less. none k (omega arith))

  -- so many at most are all of them, or those so far if these are so many
  pub take_among : (n count size : ℕ) → n ≤ count → length (among n) ≡ size
      → take size (among count) ≡ among n
  take_among n count size within full =
      let rest : n + (count - n) ≡ count = omega arith in
      let more : List ℕ = filter (is_open pair) (range_with_len (1 + n) (count - n)) in
      ap (take size) (sym (ap among rest) ∙ among_split n (count - n))
      ∙ subst (λ k. take k (among n ++ more) ≡ among n) full (take-append_seam (among n) more)

  -- there are no more of them than candidates
  pub take_count : (count : ℕ) → take count (among count) ≡ among count
  take_count count =
      let few : length (among count) ≤ length (range_with_len 1 count) =
      subst (λ k. k ≤ length (range_with_len 1 count))
      (sym (length-filter (is_open pair) (range_with_len 1 count)))
      (count_by-le-length (is_open pair) (range_with_len 1 count)) in
      take_all count (among count)
      (subst (λ k. length (among count) ≤ k) (length-range_with_len 1 count) few)

  -- the first of them has a place
  first_place : (count : ℕ) (d : ℕ) → 0 < length (among count)
      → (is_open_at pair (get_or (among count) 0 d - 1) ≡ true)
      × (get_or (among count) 0 d - 1 < count)
  first_place count d some = (
    filter_passes (is_open pair) (range_with_len 1 count) 0 d some,
    All-filter (is_open pair) (λ k. k - 1 < count) (range_with_len 1 count)
        (λ k other within.
        let less : k < count = subst (λ n. k < n) (length-range_with_len 1 count) within in
        subst (λ n. n - 1 < count) (sym (get_or-range_with_len 1 count k other less))
        (omega arith))
        0 d some,
  )

  -- there is one just where the least place is one of the places
  pub some_iff : (count least : ℕ) → IsLeast (is_open_at pair) count least
      → (least < count ↔ 1 ≤ length (among count))
  some_iff count least is = (
    λ less.
        let place : least ≡ least + 1 - 1 = omega arith in
        let here : is_open pair (least + 1) ≡ true =
        subst (λ k. is_open_at pair k ≡ true) place (is.here less) in
        let in_range : least < length (range_with_len 1 count) =
        subst (λ n. least < n) (sym (length-range_with_len 1 count)) less in
        let number : get_or (range_with_len 1 count) least (least + 1) ≡ least + 1 =
        get_or-range_with_len 1 count least (least + 1) less ∙ omega arith in
        let (k, x, within, at, same) =
        any_filtered (λ (x : ℕ). x ≡ least + 1) (is_open pair)
        (λ x e. subst (λ n. is_open pair n ≡ true) (sym e) here) (range_with_len 1 count)
        (least, least + 1, in_range, number, refl) in
        omega (arith, within),
    λ some.
        let found = first_place count 0 (omega arith) in
        ⊎_elim (λ less. less)
        (λ past. absurd (true≢false (sym found.0
        ∙ is.before (get_or (among count) 0 0 - 1) (omega (arith, found.1, past)))))
        (cases_lt least count),
  )

-- a record has an open candidate just where the least place is one of the places
pub some_open : (books : Books) (count least : ℕ) → count ≡ length books.normal.names
    → IsLeast (is_open_at books.pair) count least
    → (IsTrue (nat_lt least count) ↔ (1 ≤ length (open_list books)))
some_open books count least all is = (
  λ so. subst (λ n. 1 ≤ length (filter (is_open books.pair) (range_with_len 1 n))) all
      ((some_iff books.pair count least is).0 (ltb-true least count so)),
  λ some. lt-ltb least count ((some_iff books.pair count least is).1
      (subst (λ n. 1 ≤ length (filter (is_open books.pair) (range_with_len 1 n))) (sym all) some)),
)
