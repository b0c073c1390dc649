-- Which decisions made a literal false: cells with literals of assignments, and how they are
-- explained.
use Rattle.std.proofs.Common.{◌≡◌, ◌≢◌, ℕ, zero, suc, ◌+◌, ◌-◌, ◌<◌, ◌≤◌, true, not, cond, List, []}
use Rattle.std.proofs.Common.{◌∷◌, ◌++◌, length, set, take, replicate, get_or, Option, Some, None}
use Rattle.std.proofs.Common.{refl, sym, ap, ◌∙◌, subst, inl, inr, arith, append_assoc}
use Rattle.std.proofs.Common.{length-append, get_or-set_same, get_or-set_other}
use Rattle.std.specs.Prelude.{All, Contains, slice_get, filter}
use Rattle.std.proofs.lemmas.Bool.{cases_eq, cases_lt}
use Rattle.std.proofs.lemmas.List.{length-set, length-take-le, length-replicate, get_or-take}
use Rattle.std.proofs.lemmas.List.{get_or_past, get_or-replicate, replicate_more}
use Rattle.std.proofs.Math.Seq.{take-length}
use Rattle.std.proofs.lemmas.List.Elements.{All-cons, All-nil, All-head, All-tail, All-contains}
use Rattle.std.proofs.lemmas.List.Elements.{All-filter, All-contains_itself, filter_passes}
use Rattle.std.proofs.lemmas.Option.{same_Some, slice_get_within, slice_get-get_or}
use Rattle.std.proofs.lemmas.Option.{get_or_from_slice_get}
use Rattle.clause_store.specs.declared.literal.Lit.{Lit}
use Rattle.clause_store.specs.declared.literal.ClauseRef.{ClauseRef}
use Rattle.clause_store.specs.declared.step.Step.{Step}
use Rattle.clause_store.specs.Clause.{variable, negation, IsTrueIn, IsOver, HasAll}
use Rattle.clause_store.specs.Entailment.{InClosure, IsClosed}
use Rattle.clause_store.specs.Trail.{Assigned, IsTrail, IsTrailOf, IsReasonFor, step_of, place_of}
use Rattle.clause_store.specs.Trail.{present_level, next_level}
use Rattle.clause_store.proofs.LiteralLemmas.{any_from, has_kept}
use Rattle.clause_store.proofs.EntailmentLemmas.{closure_holds, not_both}
use Rattle.clause_store.proofs.PlaceLemmas.{place_holds, place_within, step_lacking}
use Rattle.clause_store.specs.Standing.{IsFalse}
use Rattle.conflict_learning.specs.Analysis.{level_at}
use Rattle.conflict_learning.specs.AssumptionCore.{IsDecision, CannotMeet}
use Rattle.conflict_learning.specs.Cells.{blank, is_blank, cell, IsFilled, HasFilled, AreCells}
use Rattle.conflict_learning.specs.Cells.{AddsDecisions, AddsBlanks, IsMarkable, MarksCell}
use Rattle.conflict_learning.specs.Cells.{IsMarkedIn, MarksAll, Explains, ExplainsAll}
use Rattle.conflict_learning.proofs.AssignedLemmas.{blank as none, here_at, refuter, step_at}
use Rattle.conflict_learning.proofs.AssignedLemmas.{level_found, below_present}
use Rattle.conflict_learning.proofs.GivenLemmas.{forced_known, ground_known}
use Rattle.conflict_learning.proofs.CellLemmas.{IsFalseAt, cells_marked, false_anywhere, false_at}
use Rattle.conflict_learning.proofs.CellLemmas.{filled_passes, marks_more, marks_none, over_filled}
use Rattle.conflict_learning.proofs.CellLemmas.{passes_filled, reason_markable, step_filled}
use Rattle.conflict_learning.proofs.CellLemmas.{mark_early, mark_back}

-- ---- explaining

-- a closed list has the literals of level 0
ground_step : (clauses : List (List Lit)) (trail : Assigned) (known : List Lit) (place : ℕ)
    (step : Step) → IsTrail trail → IsTrailOf trail.steps clauses → IsClosed clauses known
    → slice_get trail.steps place ≡ Some step → step.level ≡ 0 → Contains known step.lit
ground_step clauses trail known place step is of closed there level =
    All-contains (λ s. s.level ≡ 0 → Contains known s.lit) trail.steps step
    (subst (All (λ s. s.level ≡ 0 → Contains known s.lit)) (take-length trail.steps)
    (ground_known clauses trail known is of closed (length trail.steps) (omega arith)))
    (here_at trail.steps place step there) level

-- a decision is left
pub explains_none : (clauses : List (List Lit)) (steps : List Step) (last at : ℕ) (step : Step)
    (core : List Lit) → AreCells steps last core → slice_get steps (last + 1 - at) ≡ Some step
    → step.reason ≡ None → Explains clauses steps last at core core
explains_none clauses steps last at step core cells there none =
    record {
      sized = refl;
      cells = cells;
      before = λ earlier less. refl;
      decided =
          λ other there' filled. ap (λ s. s.reason) (same_Some other step (sym there' ∙ there))
          ∙ none;
      gives = λ known closed has. has;
    }

-- a blank may come
cells_blanked : (steps : List Step) (last at : ℕ) (core : List Lit) → at < length core
    → AreCells steps last core → AreCells steps last (set core at blank)
cells_blanked steps last at core inside cells =
    record {
      some = omega (arith, cells.some, length-set core at blank);
      fits = omega (arith, cells.fits, length-set core at blank);
      holds = λ k step first there filled.
          elim (cases_eq k at) [
            | inl same ↦ absurd
                (filled
                (ap (cell (set core at blank)) same
                ∙ get_or-set_same core at blank blank inside))
            | inr other ↦
                let stays : cell (set core at blank) k ≡ cell core k =
                get_or-set_other core at k blank blank other in
                stays ∙ cells.holds k step first there (subst (λ lit. lit ≢ blank) stays filled)
          ];
      ground =
          λ place step past there. cells.ground place step
          (omega (arith, past, length-set core at blank)) there;
    }

-- a cell with a literal keeps it
filled_stays : (trail : Assigned) (last : ℕ) (lits old new : List Lit) (at : ℕ)
    → AreCells trail.steps last old → All (IsMarkable trail last) lits
    → MarksAll trail.steps last lits old new
    → 1 ≤ at → IsFilled old at → cell new at ≡ cell old at
filled_stays trail last lits old new at cells markable marks first filled =
    elim (marks.stays at) [
      | inl same ↦ same
      | inr some ↦
          let mark = some.4 in
          let back = mark_back trail last at lits new markable some in
          mark.holds
          ∙ sym
          (cells.holds at mark.step first (ap (slice_get trail.steps) back ∙ mark.there)
          filled)
    ]

-- the cells of later assignments are left
later_stays : (trail : Assigned) (last at : ℕ) (lits old new : List Lit) (k : ℕ) → at ≤ last + 1
    → All (IsMarkable trail (last + 1 - at)) lits → MarksAll trail.steps last lits old new
    → k < at → cell new k ≡ cell old k
later_stays trail last at lits old new k low markable marks before =
    elim (marks.stays k) [
      | inl same ↦ same
      | inr some ↦
          absurd
          (omega (
            arith,
            some.4.at_is,
            mark_early trail last (last + 1 - at) k lits new markable some,
            before,
            low,
          ))
    ]

-- the negation of a literal of the reason is known where its cell is, and at level 0
false_known : (clauses : List (List Lit)) (trail : Assigned) (last at : ℕ)
    (lits old mid known : List Lit) (lit : Lit) → IsTrail trail → IsTrailOf trail.steps clauses
    → IsClosed clauses known
    → AreCells trail.steps last old → MarksAll trail.steps last lits old mid → Contains lits lit
    → at ≤ last + 1 → at < length mid → IsFalseAt trail (last + 1 - at) lit
    → HasFilled known (set mid at blank) → Contains known (negation lit)
false_known clauses trail last at lits old mid known lit is of closed cells marks here low inside by
    has =
    subst (Contains known) by.negates (elim (cases_lt (last + 1) (by.place + length old)) [
      | inl within ↦
          let other : last + 1 - by.place ≢ at = λ same. omega (arith, same, by.before, low) in
          let first : 1 ≤ last + 1 - by.place = omega (arith, by.before, low) in
          let holds : cell (set mid at blank) (last + 1 - by.place) ≡ by.step.lit =
          get_or-set_other mid at (last + 1 - by.place) blank blank other
          ∙ All-contains (IsMarkedIn trail.steps last (length old) mid) lits lit marks.marked here
          by.place by.step by.found by.there within in
          subst (Contains known) holds
          (has (last + 1 - by.place) first
          (subst (λ l. l ≢ blank) (sym holds) (step_filled trail by.place by.step is by.there)))
      | inr past ↦ ground_step clauses trail known by.place by.step is of closed by.there
          (cells.ground by.place by.step past by.there)
    ])

-- the literal of a cell gives way to its reason
explains_by : (clauses : List (List Lit)) (trail : Assigned) (last at : ℕ) (step : Step)
    (why : ClauseRef) (old mid : List Lit)
    (reason : IsReasonFor clauses (take (last + 1 - at) trail.steps) step.lit why)
    → IsTrail trail → IsTrailOf trail.steps clauses → AreCells trail.steps last old → 1 ≤ at
    → at < length old → slice_get trail.steps (last + 1 - at) ≡ Some step
    → MarksAll trail.steps last reason.clause old mid
    → Explains clauses trail.steps last at old (set mid at blank)
explains_by clauses trail last at step why old mid reason is of cells first inside there marks =
    let low : at ≤ last + 1 = omega (arith, inside, cells.fits) in
    let below : last + 1 - at < length trail.steps =
    slice_get_within trail.steps (last + 1 - at) step there in
    let within : at < length mid = omega (arith, inside, marks.sized) in
    let markable =
    reason_markable clauses trail last (last + 1 - at) step why reason is there (omega arith) in
    let early =
    reason_markable clauses trail (last + 1 - at) (last + 1 - at) step why reason is there
    (omega arith) in
    let blanked : cell (set mid at blank) at ≡ blank = get_or-set_same mid at blank blank within in
    record {
      sized = length-set mid at blank ∙ marks.sized;
      cells =
          cells_blanked trail.steps last at mid within
          (cells_marked trail last reason.clause old mid cells markable marks);
      before = λ k less.
          let other : k ≢ at = omega arith in
          get_or-set_other mid at k blank blank other
          ∙ later_stays trail last at reason.clause old mid k low early marks less;
      decided = λ found there' filled. absurd (filled blanked);
      gives = λ known closed has k one filled.
          elim (cases_eq k at) [
            | inl same ↦
                subst (Contains known)
                (sym
                (ap (cell old) same
                ∙ cells.holds at step first there (subst (IsFilled old) same filled)))
                (forced_known clauses known (take (last + 1 - at) trail.steps) step.lit why reason
                closed
                (λ i d here other.
                false_known clauses trail last at reason.clause old mid known
                (get_or reason.clause i d) is of closed cells marks
                (All-contains_itself reason.clause i d here) low within
                (false_at trail (last + 1 - at) (get_or reason.clause i d) is (omega arith)
                (reason.others i d here other)) has))
            | inr other ↦
                let stays : cell (set mid at blank) k ≡ cell old k =
                get_or-set_other mid at k blank blank other
                ∙ filled_stays trail last reason.clause old mid k cells markable marks one
                filled in
                subst (Contains known) stays (has k one (subst (λ l. l ≢ blank) (sym stays) filled))
          ];
    }

pub explains_reason : (clauses : List (List Lit)) (trail : Assigned) (last at : ℕ) (step : Step)
    (why : ClauseRef) (lits old mid : List Lit) → IsTrail trail → IsTrailOf trail.steps clauses
    → AreCells trail.steps last old → 1 ≤ at → at < length old
    → slice_get trail.steps (last + 1 - at) ≡ Some step → step.reason ≡ Some why
    → slice_get clauses why.0 ≡ Some lits
    → MarksAll trail.steps last lits old mid
    → Explains clauses trail.steps last at old (set mid at blank)
explains_reason clauses trail last at step why lits old mid is of cells first inside there some
    named marks =
    let reason = of (last + 1 - at) step why there some in
    explains_by clauses trail last at step why old mid reason is of cells first inside there
    (subst (λ clause. MarksAll trail.steps last clause old mid)
    (same_Some lits reason.clause (sym named ∙ reason.named)) marks)

-- what marking the reason requires
pub reason_named : (clauses : List (List Lit)) (steps : List Step) (at : ℕ) (step : Step)
    (why : ClauseRef) → IsTrailOf steps clauses → slice_get steps at ≡ Some step
    → step.reason ≡ Some why
    → why.0 < length clauses
reason_named clauses steps at step why of there some =
    let reason = of at step why there some in
    slice_get_within clauses why.0 reason.clause reason.named

pub lits_markable : (clauses : List (List Lit)) (trail : Assigned) (last at : ℕ) (step : Step)
    (why : ClauseRef) (lits : List Lit) → IsTrail trail → IsTrailOf trail.steps clauses → 1 ≤ at
    → slice_get trail.steps (last + 1 - at) ≡ Some step → step.reason ≡ Some why
    → slice_get clauses why.0 ≡ Some lits → All (IsMarkable trail last) lits
lits_markable clauses trail last at step why lits is of first there some named =
    let reason = of (last + 1 - at) step why there some in
    subst (All (IsMarkable trail last)) (same_Some reason.clause lits (sym reason.named ∙ named))
    (reason_markable clauses trail last (last + 1 - at) step why reason is there (omega arith))

-- ---- explaining all

-- the cells before `at` are blank or decisions, and all cells give those of the start
pub record IsExplaining (clauses : List (List Lit)) (steps : List Step) (last : ℕ)
    (start core : List Lit) (at : ℕ) : Type 0 where
  pub sized : length core ≡ length start
  pub cells : AreCells steps last core
  pub first : cell core 0 ≡ cell start 0
  pub decided : (k : ℕ) (step : Step) → 1 ≤ k → k < at → slice_get steps (last + 1 - k) ≡ Some step
      → IsFilled core k → step.reason ≡ None
  pub gives : (known : List Lit) → IsClosed clauses known → HasFilled known core
      → HasFilled known start

-- ---- blanks for the assignments above level 0

-- a blank for each assignment from `last` back to one at `low`
pub record IsBlanking (steps : List Step) (last : ℕ) (start core : List Lit) (low : ℕ) :
    Type 0 where
  pub order : low ≤ last + 1
  pub is : core ≡ start ++ replicate (last + 1 - low) blank
  pub above : (step : Step) → slice_get steps last ≡ Some step → step.level ≡ 0 → low ≡ last + 1

pub blanking_more : (steps : List Step) (last : ℕ) (start core : List Lit) (low : ℕ) (step : Step)
    → IsBlanking steps last start core low → 0 < low → slice_get steps (low - 1) ≡ Some step
    → 0 < step.level → IsBlanking steps last start (core ++ blank ∷ []) (low - 1)
blanking_more steps last start core low step so_far some there above =
    let one_more : last + 1 - low + 1 ≡ last + 1 - (low - 1) = omega (arith, some, so_far.order) in
    record {
      order = omega (arith, so_far.order);
      is =
          ap (λ xs. xs ++ blank ∷ []) so_far.is
          ∙ append_assoc start (replicate (last + 1 - low) blank) (blank ∷ [])
          ∙ ap (λ xs. start ++ xs)
          (replicate_more (last + 1 - low) blank ∙ ap (λ n. replicate n blank) one_more);
      above = λ other there' zero_level.
          let end : low ≡ last + 1 = so_far.above other there' zero_level in
          let last_one : low - 1 ≡ last = omega arith in
          let same : step ≡ other =
          same_Some step other (sym there ∙ ap (slice_get steps) last_one ∙ there') in
          absurd (omega (arith, above, zero_level, ap (λ s. s.level) same));
    }

next_ground : (level : ℕ) (reason : Option ClauseRef) → next_level level reason ≡ 0 → level ≡ 0
next_ground level None is = absurd (omega (arith, is))
next_ground level (Some why) is = is

-- what is before an assignment of level 0 is of level 0
ground_before : (trail : Assigned) (at place : ℕ) (step other : Step) → IsTrail trail
    → slice_get trail.steps at ≡ Some step → step.level ≡ 0 → place ≤ at
    → slice_get trail.steps place ≡ Some other → other.level ≡ 0
ground_before trail at place step other is there level low there' =
    elim (cases_lt place at) [
      | inl before ↦
          let within : at < length trail.steps = slice_get_within trail.steps at step there in
          let inside : place < length (take at trail.steps) =
          omega (arith, before, within, length-take-le at trail.steps (omega arith)) in
          let below : other.level ≤ present_level (take at trail.steps) =
          All-contains (λ s. s.level ≤ present_level (take at trail.steps)) (take at trail.steps)
          other (below_present (take at trail.steps)) (
            place,
            inside,
            get_or-take at trail.steps place other before
                ∙ get_or_from_slice_get trail.steps place other other there',
          ) in
          let ground : present_level (take at trail.steps) ≡ 0 =
          next_ground (present_level (take at trail.steps)) step.reason
          (sym (step_at trail at step is there).level ∙ level) in
          omega arith
      | inr after ↦
          let same_place : place ≡ at = omega arith in
          let same : other ≡ step =
          same_Some other step (sym there' ∙ ap (slice_get trail.steps) same_place ∙ there) in
          ap (λ s. s.level) same ∙ level
    ]

pub blanking_ends : (trail : Assigned) (last : ℕ) (start core : List Lit) (low : ℕ) (step : Step)
    → IsTrail trail → IsBlanking trail.steps last start core low → 0 < low
    → slice_get trail.steps (low - 1) ≡ Some step → step.level ≡ 0
    → AddsBlanks trail last start core
blanking_ends trail last start core low step is so_far some there level =
    record {
      is_trail = is;
      low = low;
      order = so_far.order;
      is = so_far.is;
      ground =
          λ place other before. ground_before trail (low - 1) place step other is there level
          (omega arith);
      above = so_far.above;
    }

-- an assignment that was read
pub read_there : (all steps : List Step) (at : ℕ) → all ≡ steps → at < length steps
    → slice_get steps at ≡ Some (get_or all at none)
read_there all steps at same inside =
    slice_get-get_or steps at none inside ∙ ap (λ s. Some (get_or s at none)) (sym same)

-- ---- from the blanks to the decisions

no_cell : (count at : ℕ) → get_or (replicate count blank) at blank ≡ blank
no_cell count at =
    elim (cases_lt at count) [
      | inl inside ↦ get_or-replicate count at blank blank inside
      | inr past ↦ get_or_past (replicate count blank) at blank
          (omega (arith, past, length-replicate count blank))
    ]

-- behind the failed literal there are blanks alone
only_first : (failed : Lit) (count at : ℕ) → 1 ≤ at
    → cell (failed ∷ replicate count blank) at ≡ blank
only_first failed count zero first = absurd (omega (arith, first))
only_first failed count (suc at) first = no_cell count at

blanks_count : (trail : Assigned) (last : ℕ) (failed : Lit) (core : List Lit)
    (adds : AddsBlanks trail last (failed ∷ []) core) → length core ≡ 1 + (last + 1 - adds.low)
blanks_count trail last failed core adds =
    let count : length core ≡ length ((failed ∷ []) ++ replicate (last + 1 - adds.low) blank) =
    ap length adds.is in
    omega (
      arith,
      count,
      length-append (failed ∷ []) (replicate (last + 1 - adds.low) blank),
      length-replicate (last + 1 - adds.low) blank,
    )

cells_begin : (trail : Assigned) (last : ℕ) (failed : Lit) (core : List Lit)
    → AddsBlanks trail last (failed ∷ []) core → AreCells trail.steps last core
cells_begin trail last failed core adds =
    let count : length core ≡ 1 + (last + 1 - adds.low) =
    blanks_count trail last failed core adds in
    record {
      some = omega (arith, count);
      fits = omega (arith, count);
      holds =
          λ at step first there filled. absurd
          (filled
          (ap (λ xs. cell xs at) adds.is
          ∙ only_first failed (last + 1 - adds.low) at first));
      ground =
          λ place step past there. adds.ground place step (omega (arith, past, count, adds.order))
          there;
    }

-- the failed literal itself can be marked
failed_markable : (trail : Assigned) (last : ℕ) (failed : Lit) → IsOver trail.vars failed
    → place_of trail.steps (variable failed) ≡ Some last → IsMarkable trail last failed
failed_markable trail last failed over at =
    record {
      over = over.last;
      before = λ place found. let same : last ≡ place = same_Some last place (sym at ∙ found) in
          omega arith;
    }

failed_marked : (trail : Assigned) (last : ℕ) (failed : Lit) (blanks marked : List Lit)
    → IsOver trail.vars failed → place_of trail.steps (variable failed) ≡ Some last
    → MarksCell trail.steps last failed blanks marked
    → MarksAll trail.steps last (failed ∷ []) blanks marked
failed_marked trail last failed blanks marked over at marks =
    marks_more trail last [] failed blanks blanks marked
    (failed_markable trail last failed over at) (marks_none trail.steps last blanks) marks

pub cells_start : (trail : Assigned) (last : ℕ) (failed : Lit) (blanks marked : List Lit)
    → IsOver trail.vars failed → place_of trail.steps (variable failed) ≡ Some last
    → AddsBlanks trail last (failed ∷ []) blanks → MarksCell trail.steps last failed blanks marked
    → AreCells trail.steps last marked
cells_start trail last failed blanks marked over at adds marks =
    cells_marked trail last (failed ∷ []) blanks marked (cells_begin trail last failed blanks adds)
    (All-cons (IsMarkable trail last) failed [] (failed_markable trail last failed over at)
    (All-nil (IsMarkable trail last)))
    (failed_marked trail last failed blanks marked over at marks)

-- the first cell is that of the failed literal
first_stays : (trail : Assigned) (last : ℕ) (failed : Lit) (blanks marked : List Lit)
    → IsOver trail.vars failed → place_of trail.steps (variable failed) ≡ Some last
    → AddsBlanks trail last (failed ∷ []) blanks → MarksCell trail.steps last failed blanks marked
    → cell marked 0 ≡ failed
first_stays trail last failed blanks marked over at adds marks =
    elim ((failed_marked trail last failed blanks marked over at marks).stays 0) [
      | inl same ↦ same ∙ ap (λ xs. cell xs 0) adds.is
      | inr some ↦
          let low : some.4.place ≤ last = (All-contains (IsMarkable trail last) (failed ∷ []) some.1
          (All-cons (IsMarkable trail last) failed [] (failed_markable trail last failed over at)
          (All-nil (IsMarkable trail last)))
          (some.0, some.2, some.3)).before some.4.place some.4.found in
          absurd (omega (arith, some.4.at_is, low))
    ]

-- the literals behind the failed one give its negation
gives_failed : (clauses : List (List Lit)) (trail : Assigned) (last : ℕ) (failed : Lit)
    (blanks marked known : List Lit) → IsTrailOf trail.steps clauses → IsOver trail.vars failed
    → IsFalse trail.steps failed → place_of trail.steps (variable failed) ≡ Some last
    → AddsBlanks trail last (failed ∷ []) blanks
    → MarksCell trail.steps last failed blanks marked
    → IsClosed clauses known → HasFilled known marked → Contains known (negation failed)
gives_failed clauses trail last failed blanks marked known of over wrong at adds marks closed has =
    let by = false_anywhere trail failed adds.is_trail wrong in
    let same : by.place ≡ last = same_Some by.place last (sym by.found ∙ at) in
    let all = failed_marked trail last failed blanks marked over at marks in
    subst (Contains known) by.negates (elim (cases_lt (last + 1) (by.place + length blanks)) [
      | inl within ↦
          let holds : cell marked (last + 1 - by.place) ≡ by.step.lit =
          All-head (IsMarkedIn trail.steps last (length blanks) marked) failed [] all.marked
          by.place by.step by.found by.there within in
          subst (Contains known) holds
          (has (last + 1 - by.place) (omega arith)
          (subst (λ l. l ≢ blank) (sym holds)
          (step_filled trail by.place by.step adds.is_trail by.there)))
      | inr past ↦
          ground_step clauses trail known by.place by.step adds.is_trail of closed by.there
          ((cells_begin trail last failed blanks adds).ground by.place by.step past by.there)
    ])

-- a list by its first element
starts_with : {X : Type 0} (xs : List X) (x d : X) → 1 ≤ length xs → get_or xs 0 d ≡ x
    → (rest : List X) × (xs ≡ x ∷ rest)
starts_with [] x d some is = absurd (omega (arith, some))
starts_with (y ∷ xs) x d some is = (xs, ap (λ z. z ∷ xs) is)

none_left : {X : Type 0} (xs : List X) → length xs ≡ 0 → xs ≡ []
none_left [] is = refl
none_left (x ∷ xs) is = absurd (omega (arith, is))

-- what is left are decisions
all_decided : (clauses : List (List Lit)) (steps : List Step) (last : ℕ) (start : List Lit)
    (failed : Lit) (rest : List Lit) → last < length steps
    → ExplainsAll clauses steps last start (failed ∷ rest)
    → All (IsDecision steps) (filter (λ lit. not (is_blank lit)) rest)
all_decided clauses steps last start failed rest below all k d inside =
    All-filter (λ lit. not (is_blank lit)) (λ lit. not (is_blank lit) ≡ true → IsDecision steps lit)
    rest decided k d inside
    (filter_passes (λ lit. not (is_blank lit)) rest k d inside)
  where
    decided : All (λ lit. not (is_blank lit) ≡ true → IsDecision steps lit) rest
    decided i e within passes =
        let there : slice_get steps (last + 1 - suc i)
        ≡ Some (get_or steps (last + 1 - suc i) none) =
        slice_get-get_or steps (last + 1 - suc i) none (omega (arith, below)) in
        let same : cell (failed ∷ rest) (suc i) ≡ get_or rest i e =
        get_or_from_slice_get rest i (get_or rest i e) blank
        (slice_get-get_or rest i e within) in
        let filled : IsFilled (failed ∷ rest) (suc i) =
        subst (λ l. l ≢ blank) (sym same) (passes_filled (get_or rest i e) passes) in
        any_from (λ s. (s.lit ≡ get_or rest i e) × (s.reason ≡ None)) steps
        (get_or steps (last + 1 - suc i) none)
        (here_at steps (last + 1 - suc i) (get_or steps (last + 1 - suc i) none) there) (
          sym (all.cells.holds (suc i) (get_or steps (last + 1 - suc i) none) (omega arith) there
              filled) ∙ same,
          all.decided (suc i) (get_or steps (last + 1 - suc i) none) (omega arith) there filled,
        )

-- a list that has the decisions has all literals behind the failed one
filled_kept : (failed : Lit) (rest known : List Lit)
    → HasAll known (filter (λ lit. not (is_blank lit)) rest) → HasFilled known (failed ∷ rest)
filled_kept failed rest known has zero first filled = absurd (omega (arith, first))
filled_kept failed rest known has (suc at) first filled =
    elim (cases_lt at (length rest)) [
      | inl inside ↦
          All-contains (Contains known) (filter (λ lit. not (is_blank lit)) rest)
          (get_or rest at blank) has
          (has_kept (λ lit. not (is_blank lit)) rest (get_or rest at blank)
          (All-contains_itself rest at blank inside)
          (filled_passes (get_or rest at blank) filled))
      | inr past ↦ absurd (filled (get_or_past rest at blank past))
    ]

-- where the failed literal is false at level 0 nothing stands behind it
alone_ground : (clauses : List (List Lit)) (trail : Assigned) (last : ℕ) (failed : Lit)
    (blanks marked rest : List Lit) → IsFalse trail.steps failed
    → place_of trail.steps (variable failed) ≡ Some last
    → AddsBlanks trail last (failed ∷ []) blanks → length marked ≡ length blanks
    → ExplainsAll clauses trail.steps last marked (failed ∷ rest) → level_at trail.steps failed ≡ 0
    → rest ≡ []
alone_ground clauses trail last failed blanks marked rest wrong at adds sized all level =
    let by = false_anywhere trail failed adds.is_trail wrong in
    let same : by.place ≡ last = same_Some by.place last (sym by.found ∙ at) in
    let holds = place_holds trail.steps (variable failed) last at in
    let low : adds.low ≡ last + 1 =
    adds.above holds.0 holds.1
    (sym (level_found trail.steps failed holds.0 holds.3).0 ∙ level) in
    let count : length blanks ≡ 1 + (last + 1 - adds.low) =
    blanks_count trail last failed blanks adds in
    none_left rest (omega (arith, low, count, sized, all.sized))

-- the core of literals and blanks, without the blanks
core_of : (clauses : List (List Lit)) (trail : Assigned) (last : ℕ) (failed : Lit)
    (blanks marked rest : List Lit) → IsTrailOf trail.steps clauses → IsOver trail.vars failed
    → IsFalse trail.steps failed → place_of trail.steps (variable failed) ≡ Some last
    → AddsBlanks trail last (failed ∷ []) blanks
    → MarksCell trail.steps last failed blanks marked
    → ExplainsAll clauses trail.steps last marked (failed ∷ rest)
    → AddsDecisions clauses trail.steps failed
    (filter (λ lit. not (is_blank lit)) (failed ∷ rest))
core_of clauses trail last failed blanks marked rest of over wrong at adds marks all =
    record {
      decisions = filter (λ lit. not (is_blank lit)) rest;
      is =
          ap (λ b. cond b (failed ∷ filter (λ lit. not (is_blank lit)) rest)
          (filter (λ lit. not (is_blank lit)) rest))
          (filled_passes failed (over_filled trail.vars failed over));
      decided =
          all_decided clauses trail.steps last marked failed rest
          (place_within trail.steps (variable failed) last at) all;
      gives = λ known has closed.
          gives_failed clauses trail last failed blanks marked known of over wrong at adds marks
          closed (all.gives known closed (filled_kept failed rest known has));
      alone = λ level.
          ap (filter (λ lit. not (is_blank lit)))
          (alone_ground clauses trail last failed blanks marked rest wrong at adds
          (failed_marked trail last failed blanks marked over at marks).sized all level);
    }

pub adds_decisions : (clauses : List (List Lit)) (trail : Assigned) (last : ℕ) (failed : Lit)
    (start blanks marked explained core : List Lit) → IsTrailOf trail.steps clauses
    → IsOver trail.vars failed → IsFalse trail.steps failed
    → place_of trail.steps (variable failed) ≡ Some last → start ≡ failed ∷ []
    → AddsBlanks trail last start blanks
    → MarksCell trail.steps last failed blanks marked
    → ExplainsAll clauses trail.steps last marked explained
    → core ≡ filter (λ lit. not (is_blank lit)) explained
    → AddsDecisions clauses trail.steps failed core
adds_decisions clauses trail last failed start blanks marked explained core of over wrong at alone
    adds marks all kept =
    let adds_one : AddsBlanks trail last (failed ∷ []) blanks =
    subst (λ xs. AddsBlanks trail last xs blanks) alone adds in
    let parts =
    starts_with explained failed blank all.cells.some
    (all.first ∙ first_stays trail last failed blanks marked over at adds_one marks) in
    subst (AddsDecisions clauses trail.steps failed)
    (sym (kept ∙ ap (filter (λ lit. not (is_blank lit))) parts.1))
    (core_of clauses trail last failed blanks marked parts.0 of over wrong at adds_one marks
    (subst (ExplainsAll clauses trail.steps last marked) parts.1 all))

-- ---- cores

cannot_meet : (clauses : List (List Lit)) (failed : Lit) (decisions : List Lit)
    → InClosure clauses decisions (negation failed) → CannotMeet clauses (failed ∷ decisions)
cannot_meet clauses failed decisions given values meets all =
    not_both values failed (All-head (IsTrueIn values) failed decisions all)
    (closure_holds values clauses decisions (negation failed) meets
    (All-tail (IsTrueIn values) failed decisions all) given)

pub adds_unmet : (clauses : List (List Lit)) (steps : List Step) (failed : Lit) (core : List Lit)
    → AddsDecisions clauses steps failed core → CannotMeet clauses core
adds_unmet clauses steps failed core adds =
    subst (CannotMeet clauses) (sym adds.is) (cannot_meet clauses failed adds.decisions adds.gives)

-- a false literal has its place
pub false_placed : (steps : List Step) (lit : Lit) → IsFalse steps lit
    → place_of steps (variable lit) ≢ None
false_placed steps lit wrong unplaced =
    let by = refuter steps lit wrong in
    let found : step_of steps (variable lit) ≡ None =
    sym (step_lacking steps (variable lit) unplaced) in
    cc by.found
