-- Cells of a core: blanks, places and marks.
use Rattle.std.proofs.Common.{◌≡◌, ◌≢◌, ◌⊎◌, ℕ, ◌+◌, ◌-◌, ◌<◌, ◌≤◌, true, not, List, [], ◌∷◌, ◌++◌}
use Rattle.std.proofs.Common.{length, set, take, drop, get_or, Option, Some, None, refl, sym, ap}
use Rattle.std.proofs.Common.{◌∙◌, subst, inl, inr, arith, get_or-set_same, get_or-set_other}
use Rattle.std.specs.Prelude.{All, Any, slice_get}
use Rattle.std.proofs.lemmas.Bool.{cases_eq, cases_lt, eq-eqb, ne_eqb, false≢true}
use Rattle.std.proofs.lemmas.List.{length-set, set_past, length-take-le, take-append-drop}
use Rattle.std.proofs.Math.Seq.{take-length}
use Rattle.std.proofs.lemmas.List.Elements.{All-nil, All-contains, All-push, All-contains_itself}
use Rattle.std.proofs.lemmas.List.Elements.{Contains-push, Contains-append_left}
use Rattle.std.proofs.lemmas.Option.{same_Some, slice_get_within, slice_get-get_or}
use Rattle.clause_store.specs.declared.literal.Lit.{Lit}
use Rattle.clause_store.specs.declared.literal.ClauseRef.{ClauseRef}
use Rattle.clause_store.specs.declared.step.Step.{Step}
use Rattle.clause_store.specs.Clause.{variable, negation, IsOver}
use Rattle.clause_store.specs.Trail.{Assigned, IsTrail, IsReasonFor, place_of}
use Rattle.clause_store.proofs.LiteralLemmas.{any_from, any_through, cases_lit, lit_of_code}
use Rattle.clause_store.proofs.TrailLemmas.{slice_get-append}
use Rattle.clause_store.proofs.PlaceLemmas.{place_holds, place_of_at}
use Rattle.clause_store.specs.Standing.{IsFalse}
use Rattle.conflict_learning.specs.Cells.{blank, is_blank, cell, AreCells, IsMarkable, MarksCell}
use Rattle.conflict_learning.specs.Cells.{IsMarkOf, IsMarkedIn, MarksAll}
use Rattle.conflict_learning.proofs.AssignedLemmas.{blank as none, refuter, step_at, false_later}
use Rattle.conflict_learning.proofs.AssignedLemmas.{false_over}

-- ---- blanks

-- a literal of a trail isn't blank
pub over_filled : (vars : ℕ) (lit : Lit) → IsOver vars lit → lit ≢ blank
over_filled vars lit over same =
    let zero_code : lit.0 ≡ 0 = ap (λ l. l.0) same in
    omega (arith, over.first, zero_code)

pub step_filled : (trail : Assigned) (place : ℕ) (step : Step) → IsTrail trail
    → slice_get trail.steps place ≡ Some step → step.lit ≢ blank
step_filled trail place step is there =
    over_filled trail.vars step.lit (step_at trail place step is there).over

pub filled_passes : (lit : Lit) → lit ≢ blank → not (is_blank lit) ≡ true
filled_passes lit filled =
    ap not (ne_eqb lit.0 0 (λ zero_code. filled (lit_of_code lit blank zero_code)))

pub passes_filled : (lit : Lit) → not (is_blank lit) ≡ true → lit ≢ blank
passes_filled lit passes same =
    false≢true (sym (ap not (eq-eqb lit.0 0 (ap (λ l. l.0) same))) ∙ passes)

-- ---- places

-- the assignment that makes a literal false, and its place
pub record IsFalseAt (trail : Assigned) (n : ℕ) (lit : Lit) : Type 0 where
  pub place : ℕ
  pub step : Step
  pub before : place < n
  pub there : slice_get trail.steps place ≡ Some step
  pub found : place_of trail.steps (variable lit) ≡ Some place
  pub negates : step.lit ≡ negation lit

pub false_at : (trail : Assigned) (n : ℕ) (lit : Lit) → IsTrail trail → n ≤ length trail.steps
    → IsFalse (take n trail.steps) lit → IsFalseAt trail n lit
false_at trail n lit is within wrong =
    let by = refuter (take n trail.steps) lit wrong in
    let there : slice_get trail.steps by.here.0 ≡ Some by.step =
    subst (λ steps. slice_get steps by.here.0 ≡ Some by.step) (take-append-drop n trail.steps)
    (slice_get-append (take n trail.steps) (drop n trail.steps) by.here.0 by.step
    (slice_get-get_or (take n trail.steps) by.here.0 by.step by.here.1 ∙ ap Some by.here.2)) in
    record {
      place = by.here.0;
      step = by.step;
      before = omega (arith, by.here.1, length-take-le n trail.steps within);
      there = there;
      found =
          ap (place_of trail.steps) (sym by.same) ∙ place_of_at trail by.here.0 by.step is there;
      negates = by.negates;
    }

pub false_anywhere : (trail : Assigned) (lit : Lit) → IsTrail trail → IsFalse trail.steps lit
    → IsFalseAt trail (length trail.steps) lit
false_anywhere trail lit is wrong =
    false_at trail (length trail.steps) lit is (omega arith)
    (subst (λ steps. IsFalse steps lit) (sym (take-length trail.steps)) wrong)

-- the literals of a reason have variables of the trail that were assigned up to the forced one
pub reason_markable : (clauses : List (List Lit)) (trail : Assigned) (last at : ℕ) (step : Step)
    (why : ClauseRef) (reason : IsReasonFor clauses (take at trail.steps) step.lit why)
    → IsTrail trail → slice_get trail.steps at ≡ Some step → at ≤ last
    → All (IsMarkable trail last) reason.clause
reason_markable clauses trail last at step why reason is there low k d inside =
    elim (cases_lit (get_or reason.clause k d) step.lit) [
      | inl same ↦ record {
        over =
            subst (λ lit. variable lit ≤ trail.vars) (sym same)
            (step_at trail at step is there).over.last;
        before = λ place found.
            let e : at ≡ place =
            same_Some at place
            (sym (place_of_at trail at step is there)
            ∙ ap (λ lit. place_of trail.steps (variable lit)) (sym same) ∙ found) in
            omega arith;
      }
      | inr other ↦
          let within : at < length trail.steps = slice_get_within trail.steps at step there in
          let by =
          false_at trail at (get_or reason.clause k d) is (omega arith)
          (reason.others k d inside other) in
          record {
            over =
                (false_over trail (get_or reason.clause k d) is
                (false_later at trail.steps (get_or reason.clause k d)
                (reason.others k d inside other))).last;
            before = λ place found.
                let e : by.place ≡ place = same_Some by.place place (sym by.found ∙ found) in
                let less : by.place < at = by.before in
                omega arith;
          }
    ]

-- ---- marking

-- the literal of an assignment was put into its cell
pub marks_set : (steps : List Step) (last place : ℕ) (lit : Lit) (step : Step) (old new : List Lit)
    → place_of steps (variable lit) ≡ Some place → slice_get steps place ≡ Some step
    → new ≡ set old (last + 1 - place) step.lit → MarksCell steps last lit old new
marks_set steps last place lit step old new found there is =
    record {
      unset = λ none. absurd (cc);
      assigned = λ place' step' found' there'.
          let same_place : place ≡ place' = same_Some place place' (sym found ∙ found') in
          let same_step : step ≡ step' =
          same_Some step step' (sym there ∙ ap (slice_get steps) same_place ∙ there') in
          is ∙ ap (λ n. set old (last + 1 - n) step.lit) same_place
          ∙ ap (λ s. set old (last + 1 - place') s.lit) same_step;
    }

pub marks_none : (steps : List Step) (last : ℕ) (core : List Lit) → MarksAll steps last [] core core
marks_none steps last core =
    record {
      sized = refl;
      stays = λ at. inl refl;
      marked = All-nil (IsMarkedIn steps last (length core) core);
    }

-- a cell that stays as it was
stays_with : (steps : List Step) (last at : ℕ) (lits : List Lit) (lit : Lit)
    (start old new : List Lit) → cell new at ≡ cell old at
    → (cell old at ≡ cell start at) ⊎ Any (IsMarkOf steps last old at) lits
    → (cell new at ≡ cell start at) ⊎ Any (IsMarkOf steps last new at) (lits ++ lit ∷ [])
stays_with steps last at lits lit start old new same either =
    elim either [
      | inl before ↦ inl (same ∙ before)
      | inr some ↦ inr
          (any_through (IsMarkOf steps last old at) (IsMarkOf steps last new at) lits
          (lits ++ lit ∷ [])
          (λ k d inside. Contains-append_left lits (lit ∷ []) (get_or lits k d)
          (All-contains_itself lits k d inside))
          (λ l is.
          record {
            place = is.place;
            step = is.step;
            found = is.found;
            there = is.there;
            at_is =
                is.at_is;
            holds = same ∙ is.holds;
          }) some)
    ]

-- one that was marked stays so
marked_with : (steps : List Step) (last place : ℕ) (step : Step) (sized : ℕ) (old : List Lit)
    (lit : Lit) → place ≤ last → slice_get steps place ≡ Some step → sized ≡ length old
    → IsMarkedIn steps last sized old lit
    → IsMarkedIn steps last sized (set old (last + 1 - place) step.lit) lit
marked_with steps last place step sized old lit low there is_size marked place' step' found' there'
    within =
    elim (cases_eq (last + 1 - place') (last + 1 - place)) [
      | inl same ↦
          let same_place : place' ≡ place = omega (arith, same, low) in
          let same_step : step ≡ step' =
          same_Some step step' (sym there ∙ ap (slice_get steps) (sym same_place) ∙ there') in
          let inside : last + 1 - place < length old =
          omega (arith, same_place, within, is_size, low) in
          ap (cell (set old (last + 1 - place) step.lit)) same
          ∙ get_or-set_same old (last + 1 - place) step.lit blank inside
          ∙ ap (λ s. s.lit) same_step
      | inr other ↦ get_or-set_other old (last + 1 - place) (last + 1 - place') step.lit blank other
          ∙ marked place' step' found' there' within
    ]

marks_at : (trail : Assigned) (last place : ℕ) (step : Step) (lits : List Lit) (lit : Lit)
    (start old : List Lit) → place ≤ last → place_of trail.steps (variable lit) ≡ Some place
    → slice_get trail.steps place ≡ Some step → MarksAll trail.steps last lits start old
    → MarksAll trail.steps last (lits ++ lit ∷ []) start (set old (last + 1 - place) step.lit)
marks_at trail last place step lits lit start old low found there all =
    record {
      sized = length-set old (last + 1 - place) step.lit ∙ all.sized;
      stays = λ at.
          elim (cases_eq at (last + 1 - place)) [
            | inl same ↦ elim (cases_lt (last + 1 - place) (length old)) [
              | inl inside ↦
                  inr (any_from (IsMarkOf trail.steps last (set old (last + 1 - place) step.lit) at)
                  (lits ++ lit ∷ []) lit (Contains-push lits lit)
                  (record {
                    place = place;
                    step = step;
                    found = found;
                    there = there;
                    at_is = same;
                    holds =
                        ap (cell (set old (last + 1 - place) step.lit)) same
                        ∙ get_or-set_same old (last + 1 - place) step.lit blank inside;
                  }))
              | inr outside ↦
                  stays_with trail.steps last at lits lit start old
                  (set old (last + 1 - place) step.lit)
                  (ap (λ xs. cell xs at) (set_past old (last + 1 - place) step.lit outside))
                  (all.stays at)
            ]
            | inr other ↦
                stays_with trail.steps last at lits lit start old
                (set old (last + 1 - place) step.lit)
                (get_or-set_other old (last + 1 - place) at step.lit blank other) (all.stays at)
          ];
      marked =
          All-push
          (IsMarkedIn trail.steps last (length start) (set old (last + 1 - place) step.lit))
          lits lit
          (λ k d inside. marked_with trail.steps last place step (length start) old
          (get_or lits k d) low there (sym all.sized) (all.marked k d inside))
          (λ place' step' found' there' within.
          let same_place : place ≡ place' = same_Some place place' (sym found ∙ found') in
          let same_step : step ≡ step' =
          same_Some step step' (sym there ∙ ap (slice_get trail.steps) same_place ∙ there') in
          let inside : last + 1 - place < length old =
          omega (arith, same_place, within, all.sized, low) in
          ap (λ n. cell (set old (last + 1 - place) step.lit) (last + 1 - n)) (sym same_place)
          ∙ get_or-set_same old (last + 1 - place) step.lit blank inside
          ∙ ap (λ s. s.lit) same_step);
    }

-- one literal more
pub marks_more : (trail : Assigned) (last : ℕ) (lits : List Lit) (lit : Lit)
    (start old new : List Lit) → IsMarkable trail last lit
    → MarksAll trail.steps last lits start old
    → MarksCell trail.steps last lit old new
    → MarksAll trail.steps last (lits ++ lit ∷ []) start new
marks_more trail last lits lit start old new markable all marks =
    go (place_of trail.steps (variable lit)) refl
  where
    go : (found : Option ℕ) → place_of trail.steps (variable lit) ≡ found
        → MarksAll trail.steps last (lits ++ lit ∷ []) start new
    go None none =
        subst (MarksAll trail.steps last (lits ++ lit ∷ []) start) (sym (marks.unset none))
        (record {
          sized = all.sized;
          stays = λ at. stays_with trail.steps last at lits lit start old old refl (all.stays at);
          marked =
              All-push (IsMarkedIn trail.steps last (length start) old) lits lit all.marked
              (λ place step found there within. absurd (cc));
        })
    go (Some place) found =
        let at = place_holds trail.steps (variable lit) place found in
        subst (MarksAll trail.steps last (lits ++ lit ∷ []) start)
        (sym (marks.assigned place at.0 found at.1))
        (marks_at trail last place at.0 lits lit start old (markable.before place found) found at.1
        all)

-- a mark is not that of a later assignment
pub mark_early : (trail : Assigned) (last low at : ℕ) (lits core : List Lit)
    → All (IsMarkable trail low) lits → (some : Any (IsMarkOf trail.steps last core at) lits)
    → some.4.place ≤ low
mark_early trail last low at lits core markable some =
    (All-contains (IsMarkable trail low) lits some.1 markable (some.0, some.2, some.3)).before
    some.4.place some.4.found

-- so its cell tells its place
pub mark_back : (trail : Assigned) (last at : ℕ) (lits core : List Lit)
    → All (IsMarkable trail last) lits → (some : Any (IsMarkOf trail.steps last core at) lits)
    → last + 1 - at ≡ some.4.place
mark_back trail last at lits core markable some =
    omega (arith, some.4.at_is, mark_early trail last last at lits core markable some)

-- the cells stay right
pub cells_marked : (trail : Assigned) (last : ℕ) (lits old new : List Lit)
    → AreCells trail.steps last old → All (IsMarkable trail last) lits
    → MarksAll trail.steps last lits old new
    → AreCells trail.steps last new
cells_marked trail last lits old new cells markable marks =
    record {
      some = omega (arith, cells.some, marks.sized);
      fits = omega (arith, cells.fits, marks.sized);
      holds = λ at step first there filled.
          elim (marks.stays at) [
            | inl same ↦ same ∙ cells.holds at step first there
                (subst (λ lit. lit ≢ blank) same filled)
            | inr some ↦
                let mark = some.4 in
                let back = mark_back trail last at lits new markable some in
                mark.holds ∙ ap (λ s. s.lit)
                (same_Some mark.step step
                (sym mark.there ∙ ap (slice_get trail.steps) (sym back) ∙ there))
          ];
      ground =
          λ place step past there. cells.ground place step (omega (arith, past, marks.sized)) there;
    }
