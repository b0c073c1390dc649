-- The stack of the bodies that wait.
use Rattle.std.proofs.Common.{◌≡◌, ◌≢◌, ◌≤◌, ◌<◌, ◌+◌, ◌-◌, ℕ, Bool, true, false, List, []}
use Rattle.std.proofs.Common.{◌∷◌, ◌++◌, length, get_or, take, set, refl, sym, ap, ◌∙◌}
use Rattle.std.proofs.Common.{subst, inl, inr, arith, length-append, Option, Some, None}
use Rattle.std.specs.Prelude.{All, Any, IfNone, sum_by, slice_get}
use Rattle.std.proofs.lemmas.Bool.{cases_Bool, cases_eq, false≢true}
use Rattle.std.proofs.lemmas.List.{get_or-set_same, get_or-set_other, length-set, get_or-take}
use Rattle.std.proofs.lemmas.List.{length-take, get_or_default}
use Rattle.std.proofs.Math.Seq.{get_or-append_seam}
use Rattle.std.proofs.lemmas.List.Sums.{sum_by-set, sum_by-le}
use Rattle.std.proofs.lemmas.List.Elements.{All-push, All-take}
use Rattle.std.proofs.lemmas.Option.{get_or_from_slice_get, slice_get_within, slice_get-get_or}
use Rattle.item_list.proofs.ListLemmas.{Any-append_left}
use Rattle.clause_store.proofs.LiteralLemmas.{any_from}
use Rattle.unfounded_sets.specs.Waits.{IsStack, one_if}

at_most_one : (waits : Bool) → one_if waits ≤ 1
at_most_one true = omega arith
at_most_one false = omega arith

one_is : (waits : Bool) → waits ≡ false → one_if waits ≡ 0
one_is true is = absurd (false≢true (sym is))
one_is false is = refl

-- no more wait than there are
waiting_few : (waits : List Bool) → sum_by one_if waits ≤ length waits
waiting_few waits =
    omega (arith, sum_by-le one_if 1 waits (λ k d low. at_most_one (get_or waits k d)))

module _ (waits : List Bool) (stack : List ℕ) (places : ℕ) (is : IsStack waits stack places) where
  -- one that doesn't wait finds room
  pub stack_room : (row : ℕ) (d : Bool) → row < length waits → get_or waits row d ≡ false
      → length stack < places
  stack_room row d within off =
      let more : sum_by one_if (set waits row true) + one_if (get_or waits row d)
      ≡ sum_by one_if waits + one_if true =
      sum_by-set one_if waits row true d within in
      omega (
        arith,
        more,
        one_is (get_or waits row d) off,
        is.few,
        is.room,
        waiting_few (set waits row true),
        length-set waits row true,
      )

  -- it comes on the stack
  pub stack_with : (row : ℕ) (d : Bool) → row < length waits → get_or waits row d ≡ false
      → IsStack (set waits row true) (stack ++ row ∷ []) places
  stack_with row d within off = record {
    has = λ one waiting. elim (cases_eq one row) [
      | inl same ↦
          any_from (λ it. it ≡ one) (stack ++ row ∷ []) row (
            length stack,
            omega (arith, length-append stack (row ∷ [])),
            get_or-append_seam stack row [] row,
          )
          (sym same)
      | inr other ↦
          Any-append_left (λ it. it ≡ one) stack (row ∷ [])
          (is.has one (sym (get_or-set_other waits row one true false other) ∙ waiting))
    ];
    within =
        subst (λ n. All (λ one. one < n) (stack ++ row ∷ [])) (sym (length-set waits row true))
        (All-push (λ one. one < length waits) stack row is.within within);
    few =
        omega (
          arith,
          sum_by-set one_if waits row true d within,
          one_is (get_or waits row d) off,
          is.few,
          length-append stack (row ∷ []),
        );
    room = omega (arith, is.room, length-set waits row true);
  }

  -- and the last one goes
  pub stack_without : (row : ℕ) → slice_get stack (length stack - 1) ≡ Some row
      → IsStack (set waits row false) (take (length stack - 1) stack) places
  stack_without row last = record {
    has = λ one waiting. elim (cases_eq one row) [
      | inl same ↦
          absurd
          (false≢true
          (sym (get_or-set_same waits row false false row_within)
          ∙ ap (λ at. get_or (set waits row false) at false) (sym same)
          ∙ waiting))
      | inr other ↦
          earlier one other
          (is.has one (sym (get_or-set_other waits row one false false other) ∙ waiting))
    ];
    within =
        subst (λ n. All (λ one. one < n) (take (length stack - 1) stack))
        (sym (length-set waits row false))
        (All-take (λ one. one < length waits) (length stack - 1) stack is.within);
    few = omega (
      arith,
      sum_by-set one_if waits row false false row_within,
      at_most_one (get_or waits row false),
      is.few,
      length-take (length stack - 1) stack,
    );
    room = omega (arith, is.room, length-set waits row false);
  }
    where
      last_within : length stack - 1 < length stack
      last_within = slice_get_within stack (length stack - 1) row last

      row_within : row < length waits
      row_within =
          subst (λ one. one < length waits)
          (get_or_from_slice_get stack (length stack - 1) row row last)
          (is.within (length stack - 1) row last_within)

      earlier : (one : ℕ) → one ≢ row → Any (λ it. it ≡ one) stack
          → Any (λ it. it ≡ one) (take (length stack - 1) stack)
      earlier one other (k, it, within, at, same) =
          elim (cases_eq k (length stack - 1)) [
            | inl end ↦
                absurd
                (other
                (sym same ∙ sym at ∙ ap (λ place. get_or stack place it) end
                ∙ get_or_from_slice_get stack (length stack - 1) row it last))
            | inr before ↦ (
              k,
              it,
              omega (arith, within, before, length-take (length stack - 1) stack),
              get_or-take (length stack - 1) stack k it (omega (arith, within, before)) ∙ at,
              same,
            )
          ]

  -- where nothing stands on the stack, none waits
  pub none_waits : length stack ≡ 0 → All (λ one. one ≡ false) waits
  none_waits empty k d within =
      elim (cases_Bool (get_or waits k d)) [
        | inl yes_one ↦
            let some = is.has k (get_or_default waits k false d within ∙ yes_one) in
            absurd (omega (arith, some.2, empty))
        | inr no_one ↦ no_one
      ]

  pub none_at_end : (next : Option ℕ) → next ≡ slice_get stack (length stack - 1)
      → IfNone next (All (λ one. one ≡ false) waits)
  none_at_end (Some row) is = tt
  none_at_end None is =
      elim (cases_eq (length stack) 0) [
        | inl empty ↦ none_waits empty
        | inr some ↦
            absurd
            (let e : None ≡ Some (get_or stack (length stack - 1) 0) =
            is ∙ slice_get-get_or stack (length stack - 1) 0 (omega (arith, some)) in cc)
      ]

-- no more stand on the stack than there are numbers
pub stack_few : (waits : List Bool) (stack : List ℕ) (places : ℕ) → IsStack waits stack places
    → length stack ≤ length waits
stack_few waits stack places is = omega (arith, is.few, waiting_few waits)
