-- The stack of the clauses that are pending.
use Rattle.std.proofs.Common.{◌≡◌, ◌≢◌, ◌≤◌, ◌<◌, ◌+◌, ℕ, Bool, true, false, List, []}
use Rattle.std.proofs.Common.{◌∷◌, ◌++◌, length, get_or, set, refl, sym, ap, ◌∙◌}
use Rattle.std.proofs.Common.{subst, inl, inr, arith, length-append}
use Rattle.std.specs.Prelude.{All, Any, sum_by}
use Rattle.std.proofs.lemmas.Bool.{cases_eq, cases_lt, false≢true}
use Rattle.std.proofs.lemmas.List.{get_or-set_same, get_or-set_other, length-set}
use Rattle.std.proofs.lemmas.List.{get_or_append_left, get_or_push, get_or_past}
use Rattle.std.proofs.lemmas.List.{get_or_default}
use Rattle.std.proofs.Math.Seq.{get_or-append_seam}
use Rattle.std.proofs.lemmas.List.Sums.{sum_by-set, sum_by-le, sum_by_push}
use Rattle.std.proofs.lemmas.List.Elements.{All-push}
use Rattle.item_list.proofs.ListLemmas.{Any-append_left}
use Rattle.clause_store.proofs.LiteralLemmas.{any_from}
use Rattle.watched_literals.specs.Pends.{IsStack, IsLeftOut, one_if}

at_most_one : (waits : Bool) → one_if waits ≤ 1
at_most_one true = omega arith
at_most_one false = omega arith

one_is : (waits : Bool) → waits ≡ false → one_if waits ≡ 0
one_is true is = absurd (false≢true (sym is))
one_is false is = refl

-- no more wait than there are
waiting_few : (waits : List Bool) → sum_by one_if waits ≤ length waits
waiting_few waits =
    omega (arith, sum_by-le one_if 1 waits (λ k d low. at_most_one (get_or waits k d)))

module _ (waits : List Bool) (stack : List ℕ) (places : ℕ)
    (is_stack : IsStack waits stack places) where
  -- there are no more places than clauses
  pub stack_fits : length stack ≤ length waits
  stack_fits = omega (arith, is_stack.few, waiting_few waits)

  -- one that doesn't wait finds room
  pub stack_room : (row : ℕ) (d : Bool) → row < length waits → get_or waits row d ≡ false
      → length stack < places
  stack_room row d within off =
      let more : sum_by one_if (set waits row true) + one_if (get_or waits row d)
      ≡ sum_by one_if waits + one_if true =
      sum_by-set one_if waits row true d within in
      omega (
        arith,
        more,
        one_is (get_or waits row d) off,
        is_stack.few,
        is_stack.room,
        waiting_few (set waits row true),
        length-set waits row true,
      )

  -- it comes on the stack
  pub stack_with : (row : ℕ) (d : Bool) → row < length waits → get_or waits row d ≡ false
      → IsStack (set waits row true) (stack ++ row ∷ []) places
  stack_with row d within off = record {
    has = λ one waiting. elim (cases_eq one row) [
      | inl same ↦
          any_from (λ it. it ≡ one) (stack ++ row ∷ []) row (
            length stack,
            omega (arith, length-append stack (row ∷ [])),
            get_or-append_seam stack row [] row,
          )
          (sym same)
      | inr other ↦
          Any-append_left (λ it. it ≡ one) stack (row ∷ [])
          (is_stack.has one (sym (get_or-set_other waits row one true false other) ∙ waiting))
    ];
    within =
        subst (λ n. All (λ one. one < n) (stack ++ row ∷ [])) (sym (length-set waits row true))
        (All-push (λ one. one < length waits) stack row is_stack.within within);
    few =
        omega (
          arith,
          sum_by-set one_if waits row true d within,
          one_is (get_or waits row d) off,
          is_stack.few,
          length-append stack (row ∷ []),
        );
    room = omega (arith, is_stack.room, length-set waits row true);
  }

  -- and one goes: the last one takes its place
  pub stack_without : (at : ℕ) (left : List ℕ) → at < length stack → IsLeftOut at stack left
      → IsStack (set waits (get_or stack at 0) false) left places
  stack_without at left inside is = record {
    has = λ one waiting. elim (cases_eq one row) [
      | inl same ↦
          absurd
          (false≢true
          (sym (get_or-set_same waits row false false row_within)
          ∙ ap (λ at. get_or (set waits row false) at false) (sym same)
          ∙ waiting))
      | inr other ↦
          still one other
          (is_stack.has one (sym (get_or-set_other waits row one false false other) ∙ waiting))
    ];
    within =
        subst (λ n. All (λ one. one < n) left) (sym (length-set waits row false)) all_within;
    few = omega (
      arith,
      sum_by-set one_if waits row false false row_within,
      at_most_one (get_or waits row false),
      is_stack.few,
      is.count,
    );
    room = omega (arith, is_stack.room, length-set waits row false);
  }
    where
      row : ℕ
      row = get_or stack at 0

      row_within : row < length waits
      row_within = is_stack.within at 0 inside

      moved : (k d : ℕ) → k < length left → (from : ℕ) × (from < length stack)
          × (get_or left k d ≡ get_or stack from d)
      moved k d low =
          elim (cases_eq k at) [
            | inl same ↦ (
              length left,
              omega (arith, is.count),
              ap (λ place. get_or left place d) same
                  ∙ is.here d (omega (arith, sym same, low)),
            )
            | inr other ↦ (k, omega (arith, low, is.count), is.others k d other low)
          ]

      all_within : All (λ one. one < length waits) left
      all_within k d low =
          let it = moved k d low in
          subst (λ one. one < length waits) (sym it.2) (is_stack.within it.0 d it.1)

      still : (one : ℕ) → one ≢ row → Any (λ it. it ≡ one) stack → Any (λ it. it ≡ one) left
      still one other (k, it, within, here, same) =
          elim (cases_eq k at) [
            | inl gone ↦
                absurd
                (other
                (sym same ∙ sym here ∙ ap (λ place. get_or stack place it) gone
                ∙ get_or_default stack at it 0 inside))
            | inr kept ↦
                elim (cases_eq k (length left)) [
                  | inl last ↦
                      let low : at < length left =
                      omega (arith, inside, is.count, kept, last) in (
                        at,
                        it,
                        low,
                        is.here it low ∙ ap (λ place. get_or stack place it) (sym last) ∙ here,
                        same,
                      )
                  | inr before ↦
                      let low : k < length left = omega (arith, within, is.count, before) in
                      (k, it, low, is.others k it kept low ∙ here, same)
                ]
          ]

-- a row more, which doesn't wait
pub stack_more : (waits : List Bool) (stack : List ℕ) (places more : ℕ)
    → IsStack waits stack places → length waits + 1 ≤ more
    → IsStack (waits ++ false ∷ []) stack more
stack_more waits stack places more is room = record {
  has = λ row waiting. is.has row (sym (still row) ∙ waiting);
  within =
      λ k d low. omega (arith, is.within k d low, length-append waits (false ∷ []));
  few = omega (arith, is.few, sum_by_push one_if waits false);
  room = omega (arith, room, length-append waits (false ∷ []));
}
  where
    still : (row : ℕ) → get_or (waits ++ false ∷ []) row false ≡ get_or waits row false
    still row =
        elim (cases_lt row (length waits)) [
          | inl before ↦ get_or_append_left waits (false ∷ []) false row before
          | inr after ↦
              elim (cases_eq row (length waits)) [
                | inl same ↦
                    get_or_push waits false false row (sym same)
                    ∙ sym (get_or_past waits row false (omega (arith, same)))
                | inr past ↦
                    get_or_past (waits ++ false ∷ []) row false
                    (omega (arith, past, after, length-append waits (false ∷ [])))
                    ∙ sym (get_or_past waits row false (omega (arith, after)))
              ]
        ]
