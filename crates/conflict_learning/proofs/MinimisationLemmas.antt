-- Which literals go from a learned clause, and why what is left is enough.
use Rattle.std.proofs.Common.{◌≡◌, ◌≢◌, ◌⊎◌, ℕ, zero, suc, ◌+◌, ◌-◌, ◌<◌, ◌≤◌, Bool, true, false}
use Rattle.std.proofs.Common.{List}
use Rattle.std.proofs.Common.{[], ◌∷◌, ◌++◌, append_assoc, length-append, length, set, take, drop}
use Rattle.std.proofs.Common.{get_or, Some, refl, sym, ap, ◌∙◌, subst}
use Rattle.std.proofs.Common.{inl, inr, arith, eqb, not}
use Rattle.std.specs.Prelude.{All, AllPairs, Contains, slice_get, option_and_then}
use Rattle.std.specs.List.{remove}
use Rattle.std.proofs.lemmas.Bool.{cases_eq, eqb-true, false≢true}
use Rattle.std.proofs.Math.Seq.{take-suc, take-length}
use Rattle.std.proofs.lemmas.List.{append-nil, length-set, length-take-le, drop_all, drop_more}
use Rattle.std.proofs.lemmas.List.{drop-set-lt}
use Rattle.std.proofs.lemmas.List.{take-set-le, take_more, get_or-set_same}
use Rattle.std.proofs.lemmas.List.Edits.{remove-append_right}
use Rattle.std.proofs.lemmas.List.Elements.{All-nil, All-push, All-contains, All-contains_itself}
use Rattle.std.proofs.lemmas.List.Elements.{All-append, All-tail}
use Rattle.std.proofs.lemmas.List.Elements.{Contains-append_left, Contains-append_right}
use Rattle.std.proofs.lemmas.List.Elements.{Contains-append_cases, Contains-push}
use Rattle.std.proofs.lemmas.List.Quantifiers.{all_pairs_remove}
use Rattle.std.proofs.lemmas.Option.{same_Some, slice_get-get_or, slice_get_within}
use Rattle.item_list.proofs.ListLemmas.{All-left, All-right}
use Rattle.clause_store.specs.declared.literal.Lit.{Lit}
use Rattle.clause_store.specs.declared.literal.ClauseRef.{ClauseRef}
use Rattle.clause_store.specs.declared.step.Step.{Step}
use Rattle.clause_store.specs.Clause.{variable, negation, HasAll, HasNoVariableTwice, IsOver}
use Rattle.clause_store.specs.Entailment.{IsClosed, negations}
use Rattle.clause_store.specs.Standing.{IsFalse}
use Rattle.clause_store.specs.Trail.{Assigned, IsTrail, IsTrailOf, IsReasonFor, reason_of}
use Rattle.clause_store.proofs.LiteralLemmas.{any_from, any_through, first_or_later}
use Rattle.clause_store.proofs.LiteralLemmas.{has_first, has_mapped, lit_of_code, mapped_from}
use Rattle.conflict_learning.specs.Analysis.{level_at}
use Rattle.conflict_learning.specs.Marks.{IsMarked}
use Rattle.conflict_learning.specs.Minimisation.{AreHeld, CoversAll, CoversOnly}
use Rattle.conflict_learning.specs.Minimisation.{IsCovered, IsEnough, IsExplained, IsHeld, IsReady}
use Rattle.conflict_learning.specs.Minimisation.{Judges, MarksCovered}
use Rattle.conflict_learning.specs.declared.minimisation.Judge.{Judge}
use Rattle.conflict_learning.proofs.AssignedLemmas.{blank, refuter, false_later}
use Rattle.conflict_learning.proofs.AssignedLemmas.{level_found, step_of_before}
use Rattle.conflict_learning.proofs.MarkLemmas.{marked_before, marked_kept, marked_new}
use Rattle.conflict_learning.proofs.GivenLemmas.{forced_known, ground_known}
use Rattle.conflict_learning.proofs.UnitLemmas.{beside_differs}
use Rattle.conflict_learning.proofs.WalkLemmas.{step_by}

-- ---- marks that come

explained_more : (clauses : List (List Lit)) (steps : List Step) (one two : List Bool) (lit : Lit)
    → ((var : ℕ) → IsMarked one var → IsMarked two var) → IsExplained clauses steps one lit
    → IsExplained clauses steps two lit
explained_more clauses steps one two lit grows is =
    record {
      why = is.why;
      reason = is.reason;
      clause = is.clause;
      named = is.named;
      others =
          λ k d inside other above.
          grows (variable (get_or is.clause k d)) (is.others k d inside other above);
    }

held_more : (clauses : List (List Lit)) (steps : List Step) (clause : List Lit)
    (one two : List Bool) (var : ℕ) → ((var : ℕ) → IsMarked one var → IsMarked two var)
    → IsHeld clauses steps clause one var → IsHeld clauses steps clause two var
held_more clauses steps clause one two var grows held =
    record {
      lit = held.lit;
      same = held.same;
      is_false = held.is_false;
      holds = elim held.holds [
        | inl here ↦ inl here
        | inr why ↦ inr (explained_more clauses steps one two held.lit grows why)
      ];
    }

pub uncovered_inside : (trail : Assigned) (judge : Judge) (lit : Lit) → IsReady trail judge
    → IsOver trail.vars lit → variable lit < length judge.uncovered.items
uncovered_inside trail judge lit ready over = omega (arith, ready.uncovered_sized, over.last)

-- ---- the literals of the clause are covered

pub covers_none : (trail : Assigned) (judge : Judge) → IsReady trail judge
    → CoversAll trail judge judge []
covers_none trail judge ready =
    record {
      ready = ready;
      only = λ var marked. inl marked;
      all = All-nil (λ lit. IsMarked judge.covered.items (variable lit));
    }

pub covers_more : (trail : Assigned) (old mid new : Judge) (lits : List Lit) (lit : Lit)
    → CoversAll trail old mid lits → MarksCovered trail mid new lit
    → CoversAll trail old new (lits ++ lit ∷ [])
covers_more trail old mid new lits lit covers marks =
    record {
      ready = marks.ready;
      only = λ var marked. elim (cases_eq var (variable lit)) [
        | inl same ↦ inr (any_from (λ l. variable l ≡ var) (lits ++ lit ∷ []) lit
            (Contains-push lits lit) (sym same))
        | inr other ↦
            elim
            (covers.only var
            (marked_before mid.covered.items (variable lit) var other
            (subst (λ ms. IsMarked ms var) marks.is marked))) [
              | inl before ↦ inl before
              | inr one ↦ inr
                  (any_through (λ l. variable l ≡ var) (λ l. variable l ≡ var) lits
                  (lits ++ lit ∷ [])
                  (λ k d inside. Contains-append_left lits (lit ∷ []) (get_or lits k d)
                  (All-contains_itself lits k d inside)) (λ l same. same) one)
            ]
      ];
      all =
          subst (λ ms. All (λ l. IsMarked ms (variable l)) (lits ++ lit ∷ [])) (sym marks.is)
          (All-push (λ l. IsMarked (set mid.covered.items (variable lit) true) (variable l)) lits
          lit
          (λ k d inside. marked_kept mid.covered.items (variable lit) (variable (get_or lits k d))
          marks.inside (covers.all k d inside))
          (marked_new mid.covered.items (variable lit) marks.inside));
    }

-- ---- literals are judged

pub judges_none : (clauses : List (List Lit)) (trail : Assigned) (judge : Judge)
    → IsReady trail judge → Judges clauses trail judge judge
judges_none clauses trail judge ready =
    record { ready = ready; grows = λ var is. is; held = λ clause are. are }

pub judges_then : (clauses : List (List Lit)) (trail : Assigned) (one two three : Judge)
    → Judges clauses trail one two → Judges clauses trail two three
    → Judges clauses trail one three
judges_then clauses trail one two three first second =
    record {
      ready = second.ready;
      grows = λ var is. second.grows var (first.grows var is);
      held = λ clause are. second.held clause (first.held clause are);
    }

-- a literal with a reason was covered
pub judges_covered : (clauses : List (List Lit)) (trail : Assigned) (old new : Judge) (lit : Lit)
    → IsFalse trail.steps lit → IsExplained clauses trail.steps old.covered.items lit
    → MarksCovered trail old new lit → Judges clauses trail old new
judges_covered clauses trail old new lit wrong why marks =
    record {
      ready = marks.ready;
      grows = grows;
      held = λ clause are var marked. elim (cases_eq var (variable lit)) [
        | inl same ↦ record {
          lit = lit;
          same = sym same;
          is_false = wrong;
          holds = inr (explained_more clauses trail.steps old.covered.items new.covered.items lit
              grows why);
        }
        | inr other ↦ held_more clauses trail.steps clause old.covered.items new.covered.items var
            grows
            (are var (marked_before old.covered.items (variable lit) var other
            (subst (λ ms. IsMarked ms var) marks.is marked)))
      ];
    }
  where
    grows : (var : ℕ) → IsMarked old.covered.items var → IsMarked new.covered.items var
    grows var is =
        subst (λ ms. IsMarked ms var) (sym marks.is)
        (marked_kept old.covered.items (variable lit) var marks.inside is)

pub covered_now : (trail : Assigned) (old new : Judge) (lit : Lit) → MarksCovered trail old new lit
    → IsCovered trail.steps new.covered.items lit
covered_now trail old new lit marks above =
    subst (λ ms. IsMarked ms (variable lit)) (sym marks.is)
    (marked_new old.covered.items (variable lit) marks.inside)

-- ---- the reason of a false literal

-- the assignment that made a literal false, and its reason
pub record HasReason (clauses : List (List Lit)) (steps : List Step) (lit : Lit)
    (why : ClauseRef) : Type 0 where
  pub at : ℕ
  pub step : Step
  pub is : step.lit ≡ negation lit
  pub reason : IsReasonFor clauses (take at steps) step.lit why

pub reason_of_false : (clauses : List (List Lit)) (steps : List Step) (lit : Lit) (why : ClauseRef)
    → IsTrailOf steps clauses → IsFalse steps lit → reason_of steps (variable lit) ≡ Some why
    → HasReason clauses steps lit why
reason_of_false clauses steps lit why of wrong some =
    let by = refuter steps lit wrong in
    record {
      at = by.here.0;
      step = by.step;
      is = by.negates;
      reason =
          of by.here.0 by.step why
          (slice_get-get_or steps by.here.0 by.step by.here.1 ∙ ap Some by.here.2)
          (sym (ap (option_and_then (λ s. s.reason)) by.found) ∙ some);
    }

pub reason_inside : (clauses : List (List Lit)) (steps : List Step) (lit : Lit) (why : ClauseRef)
    → IsTrailOf steps clauses → IsFalse steps lit → reason_of steps (variable lit) ≡ Some why
    → why.0 < length clauses
reason_inside clauses steps lit why of wrong some =
    let has = reason_of_false clauses steps lit why of wrong some in
    slice_get_within clauses why.0 has.reason.clause has.reason.named

-- its other literals are false
pub others_false : (clauses : List (List Lit)) (steps : List Step) (lit : Lit) (why : ClauseRef)
    (lits : List Lit) → IsTrailOf steps clauses → IsFalse steps lit
    → reason_of steps (variable lit) ≡ Some why → slice_get clauses why.0 ≡ Some lits
    → All (λ other. other ≢ negation lit → IsFalse steps other) lits
others_false clauses steps lit why lits of wrong some named =
    let has = reason_of_false clauses steps lit why of wrong some in
    subst (All (λ other. other ≢ negation lit → IsFalse steps other))
    (same_Some has.reason.clause lits (sym has.reason.named ∙ named))
    (λ k d inside other. false_later has.at steps (get_or has.reason.clause k d)
    (has.reason.others k d inside (λ same. other (same ∙ has.is))))

-- so is one of them that is read
pub other_false : (clauses : List (List Lit)) (steps : List Step) (lit other forced : Lit)
    (why : ClauseRef) (lits : List Lit) (test : Bool) → IsTrailOf steps clauses
    → IsFalse steps lit → reason_of steps (variable lit) ≡ Some why
    → slice_get clauses why.0 ≡ Some lits → Contains lits other → forced ≡ negation lit
    → test ≡ not (eqb other.0 forced.0) → test ≡ true → IsFalse steps other
other_false clauses steps lit other forced why lits test of wrong some named here is tested passes =
    All-contains (λ l. l ≢ negation lit → IsFalse steps l) lits other
    (others_false clauses steps lit why lits of wrong some named) here
    (λ same. beside_differs other forced (sym tested ∙ passes) (same ∙ sym is))

-- the literals of a reason are judged
pub record IsExplaining (clauses : List (List Lit)) (trail : Assigned) (forced : Lit)
    (old now : Judge) (lits : List Lit) : Type 0 where
  pub judges : Judges clauses trail old now
  pub covered :
      All (λ other. other ≢ forced → IsCovered trail.steps now.covered.items other) lits

pub explaining_begins : (clauses : List (List Lit)) (trail : Assigned) (forced : Lit)
    (judge : Judge) → IsReady trail judge → IsExplaining clauses trail forced judge judge []
explaining_begins clauses trail forced judge ready =
    record {
      judges = judges_none clauses trail judge ready;
      covered =
          All-nil (λ other. other ≢ forced → IsCovered trail.steps judge.covered.items other);
    }

not_false : (b : Bool) → not b ≡ false → b ≡ true
not_false true is = refl
not_false false is = absurd (false≢true (sym is))

pub explaining_forced : (clauses : List (List Lit)) (trail : Assigned) (forced : Lit)
    (old now : Judge) (lits : List Lit) (lit : Lit)
    → IsExplaining clauses trail forced old now lits → not (eqb lit.0 forced.0) ≡ false
    → IsExplaining clauses trail forced old now (lits ++ lit ∷ [])
explaining_forced clauses trail forced old now lits lit is test =
    record {
      judges = is.judges;
      covered =
          All-push (λ other. other ≢ forced → IsCovered trail.steps now.covered.items other) lits
          lit is.covered
          (λ other. absurd
          (other (lit_of_code lit forced (eqb-true lit.0 forced.0 (not_false _ test)))));
    }

pub explaining_more : (clauses : List (List Lit)) (trail : Assigned) (forced : Lit)
    (old now new : Judge) (lits : List Lit) (lit : Lit)
    → IsExplaining clauses trail forced old now lits → Judges clauses trail now new
    → IsCovered trail.steps new.covered.items lit
    → IsExplaining clauses trail forced old new (lits ++ lit ∷ [])
explaining_more clauses trail forced old now new lits lit is judges covered =
    record {
      judges = judges_then clauses trail old now new is.judges judges;
      covered =
          All-push (λ other. other ≢ forced → IsCovered trail.steps new.covered.items other) lits
          lit
          (λ k d inside other above.
          judges.grows (variable (get_or lits k d)) (is.covered k d inside other above))
          (λ other. covered);
    }

pub explaining_ends : (clauses : List (List Lit)) (trail : Assigned) (lit : Lit) (why : ClauseRef)
    (lits : List Lit) (old now : Judge) → reason_of trail.steps (variable lit) ≡ Some why
    → slice_get clauses why.0 ≡ Some lits
    → IsExplaining clauses trail (negation lit) old now lits
    → IsExplained clauses trail.steps now.covered.items lit
explaining_ends clauses trail lit why lits old now some named is =
    record { why = why; reason = some; clause = lits; named = named; others = is.covered }

-- ---- covered literals are given by the clause

-- the assignment at a place, where those before are known
next_known : (clauses : List (List Lit)) (trail : Assigned) (clause : List Lit)
    (marks : List Bool) (known : List Lit) → IsTrail trail → IsTrailOf trail.steps clauses
    → AreHeld clauses trail.steps clause marks → IsClosed clauses known
    → HasAll known (negations clause) → (n : ℕ) → n < length trail.steps
    → All (λ step. IsMarked marks (variable step.lit) → Contains known step.lit)
    (take n trail.steps)
    → IsMarked marks (variable (get_or trail.steps n blank).lit)
    → Contains known (get_or trail.steps n blank).lit
next_known clauses trail clause marks known is of held closed has n before earlier marked =
    elim (held (variable (get_or trail.steps n blank).lit) marked).holds [
      | inl here ↦
          subst (Contains known) (sym negates)
          (All-contains (Contains known) (negations clause) (negation lit) has
          (has_mapped negation clause lit here))
      | inr why ↦ explained why
    ]
  where
    lit : Lit
    lit = (held (variable (get_or trail.steps n blank).lit) marked).lit

    same : get_or trail.steps n blank
        ≡ (refuter trail.steps lit
        (held (variable (get_or trail.steps n blank).lit) marked).is_false).step
    same =
        let one = held (variable (get_or trail.steps n blank).lit) marked in
        let by = refuter trail.steps one.lit one.is_false in
        step_by trail one.lit (get_or trail.steps n blank) by.step is
        (All-contains_itself trail.steps n blank before) (sym one.same) by.found

    negates : (get_or trail.steps n blank).lit ≡ negation lit
    negates =
        let one = held (variable (get_or trail.steps n blank).lit) marked in
        ap (λ s. s.lit) same ∙ (refuter trail.steps one.lit one.is_false).negates

    front_known : (other : Lit) → IsFalse (take n trail.steps) other
        → IsCovered trail.steps marks other → Contains known (negation other)
    front_known other wrong covered =
        let by = refuter (take n trail.steps) other wrong in
        let level : level_at trail.steps other ≡ by.step.level =
        (level_found trail.steps other by.step
        (step_of_before n trail.steps (variable other) by.step by.found)).0 in
        subst (Contains known) by.negates (elim (cases_eq by.step.level 0) [
          | inl ground ↦
              All-contains (λ step. step.level ≡ 0 → Contains known step.lit)
              (take n trail.steps) by.step
              (ground_known clauses trail known is of closed n (omega (arith, before))) by.here
              ground
          | inr above ↦
              All-contains (λ step. IsMarked marks (variable step.lit) → Contains known step.lit)
              (take n trail.steps) by.step earlier by.here
              (subst (IsMarked marks) (sym by.same) (covered (λ zero_level.
              above (sym level ∙ zero_level))))
        ])

    explained : IsExplained clauses trail.steps marks lit
        → Contains known (get_or trail.steps n blank).lit
    explained why =
        let one = held (variable (get_or trail.steps n blank).lit) marked in
        let by = refuter trail.steps one.lit one.is_false in
        let some : (get_or trail.steps n blank).reason ≡ Some why.why =
        ap (λ s. s.reason) same ∙ sym (ap (option_and_then (λ s. s.reason)) by.found)
        ∙ why.reason in
        let reason =
        of n (get_or trail.steps n blank) why.why
        (slice_get-get_or trail.steps n blank before) some in
        let covered : All (λ other. other ≢ negation lit → IsCovered trail.steps marks other)
        reason.clause =
        subst (All (λ other. other ≢ negation lit → IsCovered trail.steps marks other))
        (same_Some why.clause reason.clause (sym why.named ∙ reason.named)) why.others in
        forced_known clauses known (take n trail.steps) (get_or trail.steps n blank).lit why.why
        reason closed
        (λ k d inside other.
        front_known (get_or reason.clause k d) (reason.others k d inside other)
        (covered k d inside (λ it. other (it ∙ sym negates))))

-- the assignments of marked variables are known
marked_known : (clauses : List (List Lit)) (trail : Assigned) (clause : List Lit)
    (marks : List Bool) (known : List Lit) → IsTrail trail → IsTrailOf trail.steps clauses
    → AreHeld clauses trail.steps clause marks → IsClosed clauses known
    → HasAll known (negations clause) → (n : ℕ) → n ≤ length trail.steps
    → All (λ step. IsMarked marks (variable step.lit) → Contains known step.lit)
    (take n trail.steps)
marked_known clauses trail clause marks known is of held closed has zero within =
    λ k d inside. absurd (omega (arith, inside, length-take-le 0 trail.steps within))
marked_known clauses trail clause marks known is of held closed has (suc n) within =
    let before : n < length trail.steps = omega (arith, within) in
    let earlier =
    marked_known clauses trail clause marks known is of held closed has n
    (omega (arith, within)) in
    subst (All (λ step. IsMarked marks (variable step.lit) → Contains known step.lit))
    (sym (take-suc trail.steps n blank before))
    (All-push (λ step. IsMarked marks (variable step.lit) → Contains known step.lit)
    (take n trail.steps) (get_or trail.steps n blank) earlier
    (next_known clauses trail clause marks known is of held closed has n before earlier))

-- so are the negations of marked literals that are false
given_by_few : (clauses : List (List Lit)) (trail : Assigned) (few many : List Lit)
    (marks : List Bool) (known : List Lit) → IsTrail trail → IsTrailOf trail.steps clauses
    → AreHeld clauses trail.steps few marks → All (IsFalse trail.steps) many
    → All (λ lit. IsMarked marks (variable lit)) many → IsClosed clauses known
    → HasAll known (negations few) → HasAll known (negations many)
given_by_few clauses trail few many marks known is of held wrong marked closed has k d inside =
    let from =
    mapped_from negation many (get_or (negations many) k d)
    (All-contains_itself (negations many) k d inside) in
    let by =
    refuter trail.steps from.0
    (All-contains (IsFalse trail.steps) many from.0 wrong from.1) in
    subst (Contains known) (by.negates ∙ from.2)
    (All-contains (λ step. IsMarked marks (variable step.lit) → Contains known step.lit)
    trail.steps by.step
    (subst (All (λ step. IsMarked marks (variable step.lit) → Contains known step.lit))
    (take-length trail.steps)
    (marked_known clauses trail few marks known is of held closed has (length trail.steps)
    (omega arith))) by.here
    (subst (IsMarked marks) (sym by.same)
    (All-contains (λ lit. IsMarked marks (variable lit)) many from.0 marked from.1)))

-- ---- superfluous literals go

-- of a clause `at` literals were looked at, and those that stayed are its first
pub record IsDropping (clauses : List (List Lit)) (trail : Assigned) (old : List Lit)
    (judge : Judge) (clause : List Lit) (kept at : ℕ) : Type 0 where
  pub ready : IsReady trail judge
  pub order : kept ≤ at
  pub sized : length clause ≡ length old
  pub within : HasAll old (take kept clause ++ drop at clause)
  pub once : HasNoVariableTwice old → HasNoVariableTwice (take kept clause ++ drop at clause)
  pub held : AreHeld clauses trail.steps (take kept clause ++ drop at clause) judge.covered.items
  pub all : All (λ lit. IsMarked judge.covered.items (variable lit)) old

pub dropping_begins : (clauses : List (List Lit)) (trail : Assigned) (judge : Judge)
    (clause : List Lit) → CoversOnly trail clause judge → All (IsFalse trail.steps) clause
    → IsDropping clauses trail clause judge clause 0 0
dropping_begins clauses trail judge clause covers wrong =
    record {
      ready = covers.ready;
      order = omega arith;
      sized = refl;
      within = All-contains_itself clause;
      once = λ once. once;
      held = λ var marked.
          let one = covers.only var marked in
          record {
            lit = one.1;
            same = one.4;
            is_false =
                All-contains (IsFalse trail.steps) clause one.1 wrong (one.0, one.2, one.3);
            holds = inl (one.0, one.2, one.3);
          };
      all = covers.all;
    }

-- what is left begins with the next literal
next_left : (clause : List Lit) (kept at : ℕ) (lit : Lit) → at < length clause
    → lit ≡ get_or clause at lit
    → take kept clause ++ drop at clause ≡ take kept clause ++ lit ∷ drop (at + 1) clause
next_left clause kept at lit inside read =
    ap (λ rest. take kept clause ++ rest)
    (drop_more clause at lit inside ∙ ap (λ l. l ∷ drop (at + 1) clause) (sym read))

pub next_false : (clauses : List (List Lit)) (trail : Assigned) (old : List Lit) (judge : Judge)
    (clause : List Lit) (kept at : ℕ) (lit : Lit)
    → IsDropping clauses trail old judge clause kept at → All (IsFalse trail.steps) old
    → at < length clause → lit ≡ get_or clause at lit → IsFalse trail.steps lit
next_false clauses trail old judge clause kept at lit is wrong inside read =
    All-contains (IsFalse trail.steps) old lit wrong
    (All-contains (Contains old) (take kept clause ++ drop at clause) lit is.within
    (subst (λ rest. Contains rest lit) (sym (next_left clause kept at lit inside read))
    (Contains-append_right (take kept clause) (lit ∷ drop (at + 1) clause) lit
    (has_first lit (drop (at + 1) clause)))))

-- a literal stays
pub dropping_keeps : (clauses : List (List Lit)) (trail : Assigned) (old : List Lit)
    (judge new : Judge) (clause after : List Lit) (kept at : ℕ) (lit : Lit)
    → IsDropping clauses trail old judge clause kept at → Judges clauses trail judge new
    → at < length clause → lit ≡ get_or clause at lit → after ≡ set clause kept lit
    → IsDropping clauses trail old new after (kept + 1) (at + 1)
dropping_keeps clauses trail old judge new clause after kept at lit is judges inside read written =
    record {
      ready = judges.ready;
      order = omega (arith, is.order);
      sized = ap length written ∙ length-set clause kept lit ∙ is.sized;
      within = subst (HasAll old) (sym same) is.within;
      once = λ once. subst HasNoVariableTwice (sym same) (is.once once);
      held =
          subst (λ rest. AreHeld clauses trail.steps rest new.covered.items) (sym same)
          (judges.held (take kept clause ++ drop at clause) is.held);
      all = λ k d within. judges.grows (variable (get_or old k d)) (is.all k d within);
    }
  where
    room : kept < length clause
    room = omega (arith, is.order, inside)

    front : take (kept + 1) (set clause kept lit) ≡ take kept clause ++ lit ∷ []
    front =
        take_more (set clause kept lit) kept lit (omega (arith, length-set clause kept lit, room))
        ∙ ap (λ xs. xs ++ get_or (set clause kept lit) kept lit ∷ [])
        (take-set-le kept clause kept lit (omega arith))
        ∙ ap (λ l. take kept clause ++ l ∷ []) (get_or-set_same clause kept lit lit room)

    same : take (kept + 1) after ++ drop (at + 1) after ≡ take kept clause ++ drop at clause
    same =
        ap (λ c. take (kept + 1) c ++ drop (at + 1) c) written
        ∙ ap (λ xs. xs ++ drop (at + 1) (set clause kept lit)) front
        ∙ ap (λ ys. (take kept clause ++ lit ∷ []) ++ ys)
        (drop-set-lt (at + 1) clause kept lit (omega (arith, is.order)))
        ∙ append_assoc (take kept clause) (lit ∷ []) (drop (at + 1) clause)
        ∙ sym (next_left clause kept at lit inside read)

-- a middle item goes
pairs_without : {X : Type 0} (R : X → X → Type 0) (xs : List X) (x : X) (ys : List X)
    → AllPairs R (xs ++ x ∷ ys) → AllPairs R (xs ++ ys)
pairs_without R xs x ys pairs =
    let none : length xs - length xs ≡ 0 = omega arith in
    subst (AllPairs R)
    (remove-append_right xs (x ∷ ys) (length xs) (length xs) refl (omega arith)
    ∙ ap (λ n. xs ++ remove (x ∷ ys) n) none)
    (all_pairs_remove R (xs ++ x ∷ ys) (length xs)
    (omega (arith, length-append xs (x ∷ ys))) pairs)

all_without : {X : Type 0} (P : X → Type 0) (xs : List X) (x : X) (ys : List X)
    → All P (xs ++ x ∷ ys) → All P (xs ++ ys)
all_without P xs x ys all =
    All-append P xs ys (All-left P xs (x ∷ ys) all)
    (All-tail P x ys (All-right P xs (x ∷ ys) all))

it_or_without : {X : Type 0} (xs : List X) (x : X) (ys : List X) (y : X)
    → Contains (xs ++ x ∷ ys) y → (x ≡ y) ⊎ Contains (xs ++ ys) y
it_or_without xs x ys y here =
    elim (Contains-append_cases xs (x ∷ ys) y here) [
      | inl front ↦ inr (Contains-append_left xs ys y front)
      | inr back ↦
          elim (first_or_later x y ys back) [
            | inl same ↦ inl same
            | inr later ↦ inr (Contains-append_right xs ys y later)
          ]
    ]

-- an explained literal goes
pub dropping_drops : (clauses : List (List Lit)) (trail : Assigned) (old : List Lit)
    (judge new : Judge) (clause : List Lit) (kept at : ℕ) (lit : Lit)
    → IsDropping clauses trail old judge clause kept at → Judges clauses trail judge new
    → at < length clause → lit ≡ get_or clause at lit
    → IsExplained clauses trail.steps new.covered.items lit
    → IsDropping clauses trail old new clause kept (at + 1)
dropping_drops clauses trail old judge new clause kept at lit is judges inside read why =
    record {
      ready = judges.ready;
      order = omega (arith, is.order);
      sized = is.sized;
      within =
          all_without (Contains old) (take kept clause) lit (drop (at + 1) clause)
          (subst (HasAll old) split is.within);
      once = λ once.
          pairs_without (λ one two. variable one ≢ variable two) (take kept clause) lit
          (drop (at + 1) clause) (subst HasNoVariableTwice split (is.once once));
      held = λ var marked.
          let one = judges.held (take kept clause ++ drop at clause) is.held var marked in
          record {
            lit = one.lit;
            same = one.same;
            is_false = one.is_false;
            holds = elim one.holds [
              | inl here ↦
                  elim
                  (it_or_without (take kept clause) lit (drop (at + 1) clause) one.lit
                  (subst (λ rest. Contains rest one.lit) split here)) [
                    | inl same ↦
                        inr (subst (IsExplained clauses trail.steps new.covered.items) same why)
                    | inr other ↦ inl other
                  ]
              | inr explained ↦ inr explained
            ];
          };
      all = λ k d within. judges.grows (variable (get_or old k d)) (is.all k d within);
    }
  where
    split : take kept clause ++ drop at clause ≡ take kept clause ++ lit ∷ drop (at + 1) clause
    split = next_left clause kept at lit inside read

-- what stays is enough
pub dropping_ends : (clauses : List (List Lit)) (trail : Assigned) (old : List Lit)
    (judge : Judge) (clause new : List Lit) (kept at : ℕ) → IsTrailOf trail.steps clauses
    → All (IsFalse trail.steps) old → IsDropping clauses trail old judge clause kept at
    → at ≡ length old → new ≡ take kept clause → IsEnough clauses old new
dropping_ends clauses trail old judge clause new kept at of wrong is all short =
    record {
      within = subst (HasAll old) (sym rest) is.within;
      once = λ once. subst HasNoVariableTwice (sym rest) (is.once once);
      gives = λ known closed has.
          given_by_few clauses trail new old judge.covered.items known is.ready.is_trail of
          (subst (λ few. AreHeld clauses trail.steps few judge.covered.items) (sym rest) is.held)
          wrong is.all closed has;
    }
  where
    rest : new ≡ take kept clause ++ drop at clause
    rest =
        short ∙ sym (append-nil (take kept clause))
        ∙ ap (λ xs. take kept clause ++ xs)
        (sym (drop_all at clause (omega (arith, all, is.sized))))
