-- What propagation gives on the way: literals of level 0, noted literals, and the forced literal of
-- a reason whose other literals were noted.
use Rattle.std.proofs.Common.{◌≡◌, ◌≢◌, ℕ, zero, suc, ◌+◌, ◌<◌, ◌≤◌, Bool, true, false, eqb, List}
use Rattle.std.proofs.Common.{[], ◌∷◌, ◌++◌, length, take, drop, get_or, Option, Some, None, refl}
use Rattle.std.proofs.Common.{sym, ap, ◌∙◌, subst, inl, inr, arith}
use Rattle.std.specs.Prelude.{All, Contains, slice_get, IsTrue, ◌&&◌}
use Rattle.std.proofs.lemmas.Bool.{cases_eq, eqb-true, eq-eqb, false≢true}
use Rattle.std.proofs.lemmas.List.{take-append-drop, length-take-le}
use Rattle.std.proofs.Math.Seq.{take-suc}
use Rattle.std.proofs.lemmas.List.Elements.{All-append, All-cons, All-contains, All-contains_itself}
use Rattle.std.proofs.lemmas.List.Elements.{All-push, All-weaker, Contains-append_left}
use Rattle.std.proofs.lemmas.List.Elements.{Contains-append_right}
use Rattle.std.proofs.lemmas.Option.{same_Some, slice_get-get_or}
use Rattle.clause_store.specs.declared.literal.Lit.{Lit}
use Rattle.clause_store.specs.declared.literal.ClauseRef.{ClauseRef}
use Rattle.clause_store.specs.declared.step.Step.{Step}
use Rattle.clause_store.specs.Clause.{variable, negation, HasAll}
use Rattle.clause_store.specs.Entailment.{IsForcedBy, IsClosed, negations}
use Rattle.clause_store.specs.Trail.{Assigned, IsTrail, IsTrailOf, IsReasonFor, present_level}
use Rattle.clause_store.specs.Trail.{next_level}
use Rattle.clause_store.proofs.LiteralLemmas.{has_mapped, mapped_from, all_through}
use Rattle.clause_store.proofs.LiteralLemmas.{negation-negation}
use Rattle.conflict_learning.specs.declared.walk.Walk.{Walk}
use Rattle.clause_store.specs.Standing.{IsFalse}
use Rattle.conflict_learning.specs.Analysis.{level_at}
use Rattle.conflict_learning.specs.Marks.{is_marked, IsMarked, is_open}
use Rattle.conflict_learning.specs.Walk.{IsUnderWay, GivenBy, IsLater, IsNoted, NotesAll}
use Rattle.conflict_learning.proofs.AssignedLemmas.{blank, here_at, step_of_before, false_later}
use Rattle.conflict_learning.proofs.AssignedLemmas.{IsRefuter, refuter, below_present, step_at}
use Rattle.conflict_learning.proofs.AssignedLemmas.{level_found}

-- ---- open assignments

both : (b c : Bool) → (b && c) ≡ true → (b ≡ true) × (c ≡ true)
both true c is = (refl, is)
both false c is = absurd (false≢true is)

pub open_parts : (marks : List Bool) (level : ℕ) (step : Step) → is_open marks level step ≡ true
    → IsMarked marks (variable step.lit) × (step.level ≡ level)
open_parts marks level step is =
    let parts = both (is_marked marks (variable step.lit)) (eqb step.level level) is in
    (parts.0, eqb-true step.level level parts.1)

pub open_from : (marks : List Bool) (level : ℕ) (step : Step) → IsMarked marks (variable step.lit)
    → step.level ≡ level → is_open marks level step ≡ true
open_from marks level step marked same =
    ap (λ b. b && eqb step.level level) marked ∙ eq-eqb step.level level same

-- ---- lists of assignments

pub from_front : (n : ℕ) (steps : List Step) (step : Step) → Contains (take n steps) step
    → Contains steps step
from_front n steps step here =
    subst (λ xs. Contains xs step) (take-append-drop n steps)
    (Contains-append_left (take n steps) (drop n steps) step here)

-- ---- forced literals

pub forced_known : (clauses : List (List Lit)) (known : List Lit) (before : List Step) (lit : Lit)
    (why : ClauseRef) (reason : IsReasonFor clauses before lit why) → IsClosed clauses known
    → All (λ other. other ≢ lit → Contains known (negation other)) reason.clause
    → Contains known lit
forced_known clauses known before lit why reason closed others =
    All-contains (λ clause. (forced : Lit) → IsForcedBy known clause forced → Contains known forced)
    clauses reason.clause closed
    (here_at clauses why.0 reason.clause reason.named) lit
    (record { here = reason.here; others = others })

-- so has the next one of level 0
ground_next : (clauses : List (List Lit)) (trail : Assigned) (known : List Lit) → IsTrail trail
    → IsTrailOf trail.steps clauses → IsClosed clauses known
    → (n : ℕ) → n < length trail.steps
    → All (λ step. step.level ≡ 0 → Contains known step.lit) (take n trail.steps)
    → (get_or trail.steps n blank).level ≡ 0 → Contains known (get_or trail.steps n blank).lit
ground_next clauses trail known is of closed n before earlier zero_level =
    go (get_or trail.steps n blank).reason refl
  where
    there : slice_get trail.steps n ≡ Some (get_or trail.steps n blank)
    there = slice_get-get_or trail.steps n blank before

    go : (reason : Option ClauseRef) → (get_or trail.steps n blank).reason ≡ reason
        → Contains known (get_or trail.steps n blank).lit
    go None none =
        let level : (get_or trail.steps n blank).level ≡ present_level (take n trail.steps) + 1 =
        (step_at trail n (get_or trail.steps n blank) is there).level
        ∙ ap (next_level (present_level (take n trail.steps))) none in
        absurd (omega (arith, level, zero_level))
    go (Some why) some =
        let reason = of n (get_or trail.steps n blank) why there some in
        let level : (get_or trail.steps n blank).level ≡ present_level (take n trail.steps) =
        (step_at trail n (get_or trail.steps n blank) is there).level
        ∙ ap (next_level (present_level (take n trail.steps))) some in
        forced_known clauses known (take n trail.steps) (get_or trail.steps n blank).lit why reason
        closed
        (λ k d inside other.
        let by =
        refuter (take n trail.steps) (get_or reason.clause k d)
        (reason.others k d inside other) in
        let low : by.step.level ≤ present_level (take n trail.steps) =
        All-contains (λ s. s.level ≤ present_level (take n trail.steps)) (take n trail.steps)
        by.step (below_present (take n trail.steps)) by.here in
        subst (Contains known) by.negates
        (All-contains (λ step. step.level ≡ 0 → Contains known step.lit) (take n trail.steps)
        by.step earlier by.here (omega (arith, level, zero_level, low))))

-- a closed list has each literal of level 0
pub ground_known : (clauses : List (List Lit)) (trail : Assigned) (known : List Lit) → IsTrail trail
    → IsTrailOf trail.steps clauses → IsClosed clauses known
    → (n : ℕ) → n ≤ length trail.steps
    → All (λ step. step.level ≡ 0 → Contains known step.lit) (take n trail.steps)
ground_known clauses trail known is of closed zero within =
    λ k d inside. absurd (omega (arith, inside, length-take-le 0 trail.steps within))
ground_known clauses trail known is of closed (suc n) within =
    let before : n < length trail.steps = omega (arith, within) in
    let earlier = ground_known clauses trail known is of closed n (omega (arith, within)) in
    subst (All (λ step. step.level ≡ 0 → Contains known step.lit))
    (sym (take-suc trail.steps n blank before))
    (All-push (λ step. step.level ≡ 0 → Contains known step.lit) (take n trail.steps)
    (get_or trail.steps n blank) earlier
    (ground_next clauses trail known is of closed n before earlier))

-- ---- noted literals

-- the negation of a noted literal is known
pub noted_known : (clauses : List (List Lit)) (trail : Assigned) (walk : Walk) (known : List Lit)
    → IsUnderWay trail walk → IsTrailOf trail.steps clauses → IsClosed clauses known
    → HasAll known (negations walk.clause)
    → All (λ step. IsTrue (is_open walk.marks.items walk.level step) → Contains known step.lit)
    (take walk.at trail.steps)
    → (lit : Lit) → IsFalse (take walk.at trail.steps) lit → IsNoted trail.steps walk lit
    → Contains known (negation lit)
noted_known clauses trail walk known way of closed has passing lit is_false noted =
    subst (Contains known) by.negates (elim (cases_eq by.step.level 0) [
      | inl ground ↦
          All-contains (λ step. step.level ≡ 0 → Contains known step.lit) (take walk.at trail.steps)
          by.step
          (ground_known clauses trail known way.is_trail of closed walk.at way.within) by.here
          ground
      | inr above ↦ marked_known
          (subst (IsMarked walk.marks.items) (sym by.same)
          (noted (λ zero_level. above (sym level ∙ zero_level))))
    ])
  where
    by : IsRefuter (take walk.at trail.steps) lit
    by = refuter (take walk.at trail.steps) lit is_false

    level : level_at trail.steps lit ≡ (refuter (take walk.at trail.steps) lit is_false).step.level
    level = let r = refuter (take walk.at trail.steps) lit is_false in
        (level_found trail.steps lit r.step
        (step_of_before walk.at trail.steps (variable lit) r.step r.found)).0

    marked_known : let r = refuter (take walk.at trail.steps) lit is_false in
        IsMarked walk.marks.items (variable r.step.lit) → Contains known r.step.lit
    marked_known marked =
        let r = refuter (take walk.at trail.steps) lit is_false in
        elim (cases_eq r.step.level walk.level) [
          | inl same ↦
              All-contains
              (λ step. IsTrue (is_open walk.marks.items walk.level step)
              → Contains known step.lit) (take walk.at trail.steps) r.step passing r.here
              (open_from walk.marks.items walk.level r.step marked same)
          | inr other ↦
              subst (Contains known) (negation-negation r.step.lit)
              (All-contains (Contains known) (negations walk.clause)
              (negation (negation r.step.lit)) has
              (has_mapped negation walk.clause (negation r.step.lit)
              (All-contains
              (λ step. IsMarked walk.marks.items (variable step.lit) → step.level ≢ walk.level
              → Contains walk.clause (negation step.lit)) trail.steps r.step way.kept
              (from_front walk.at trail.steps r.step r.here) marked other)))
        ]

-- ---- growing

pub has_left : (known xs ys : List Lit) → HasAll known (xs ++ ys) → HasAll known xs
has_left known xs ys has =
    all_through (Contains known) xs (xs ++ ys)
    (λ k d inside. Contains-append_left xs ys (get_or xs k d)
    (All-contains_itself xs k d inside)) has

pub has_right : (known xs ys : List Lit) → HasAll known (xs ++ ys) → HasAll known ys
has_right known xs ys has =
    all_through (Contains known) ys (xs ++ ys)
    (λ k d inside. Contains-append_right xs ys (get_or ys k d)
    (All-contains_itself ys k d inside)) has

-- the negations of more literals are more
pub negations_within : (few many : List Lit) → HasAll many few
    → HasAll (negations many) (negations few)
negations_within few many has k d inside =
    let from =
    mapped_from negation few (get_or (negations few) k d)
    (All-contains_itself (negations few) k d inside) in
    subst (Contains (negations many)) from.2
    (has_mapped negation many from.0 (All-contains (Contains many) few from.0 has from.1))

-- what was given stays given
pub given_later : (clauses : List (List Lit)) (trail : Assigned) (old new : Walk) (more : List Lit)
    (lit : Lit) → IsLater old new → GivenBy clauses trail old more lit
    → GivenBy clauses trail new more lit
given_later clauses trail old new more lit later given known knowing =
    given known (record {
      closed = knowing.closed;
      has_given = All-append (Contains known) more (negations old.clause)
          (has_left known more (negations new.clause) knowing.has_given)
          (all_through (Contains known) (negations old.clause) (negations new.clause)
          (negations_within old.clause new.clause later.clause)
          (has_right known more (negations new.clause) knowing.has_given));
      has_passing = All-weaker
          (λ step. IsTrue (is_open new.marks.items new.level step) → Contains known step.lit)
          (λ step. IsTrue (is_open old.marks.items old.level step) → Contains known step.lit)
          (λ step passes was_open.
          let parts = open_parts old.marks.items old.level step was_open in
          passes
          (open_from new.marks.items new.level step (later.marks (variable step.lit) parts.0)
          (parts.1 ∙ sym later.level)))
          (take old.at trail.steps)
          (subst
          (λ n. All
          (λ step. IsTrue (is_open new.marks.items new.level step)
          → Contains known step.lit) (take n trail.steps)) later.at
          knowing.has_passing);
    })

-- an assignment is replaced by the literals of its reason
pub given_resolved : (clauses : List (List Lit)) (trail : Assigned) (old new : Walk)
    (lits : List Lit) (step : Step) (why : ClauseRef) (lit : Lit) → IsTrailOf trail.steps clauses
    → IsReasonFor clauses (take old.at trail.steps) step.lit why
    → slice_get clauses why.0 ≡ Some lits → NotesAll trail old new lits
    → GivenBy clauses trail old (step.lit ∷ []) lit → GivenBy clauses trail new [] lit
given_resolved clauses trail old new lits step why lit of reason named notes given known knowing =
    given_later clauses trail old new (step.lit ∷ []) lit notes.later given known (record {
      closed = knowing.closed;
      has_given =
          All-cons (Contains known) step.lit (negations new.clause) forced knowing.has_given;
      has_passing = knowing.has_passing;
    })
  where
    same : reason.clause ≡ lits
    same = same_Some reason.clause lits (sym reason.named ∙ named)

    noted : All (λ other. IsFalse trail.steps other → IsNoted trail.steps new other) reason.clause
    noted =
        subst (All (λ other. IsFalse trail.steps other → IsNoted trail.steps new other))
        (sym (same_Some reason.clause lits (sym reason.named ∙ named))) notes.noted

    forced : Contains known step.lit
    forced =
        forced_known clauses known (take old.at trail.steps) step.lit why reason knowing.closed
        (λ k d inside other.
        let before : IsFalse (take new.at trail.steps) (get_or reason.clause k d) =
        subst (λ n. IsFalse (take n trail.steps) (get_or reason.clause k d)) (sym notes.later.at)
        (reason.others k d inside other) in
        noted_known clauses trail new known notes.under_way of knowing.closed knowing.has_given
        knowing.has_passing (get_or reason.clause k d) before
        (noted k d inside (false_later new.at trail.steps (get_or reason.clause k d) before)))
