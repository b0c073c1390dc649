-- Each step of the walk keeps what is true on the way.
use Rattle.std.proofs.Common.{◌≡◌, ◌≢◌, ℕ, ◌+◌, ◌-◌, ◌<◌, ◌≤◌, ◌^◌, Bool, true, false, eqb, List}
use Rattle.std.proofs.Common.{[], ◌∷◌, ◌++◌, length, set, take, get_or, Some, refl, sym, ap, ap₂}
use Rattle.std.proofs.Common.{◌∙◌, subst, add-zero, inl, inr, arith}
use Rattle.std.specs.Prelude.{All, Any, Contains, slice_get, count_by, IsTrue, ◌&&◌}
use Rattle.std.proofs.lemmas.Bool.{cases_Bool, cases_eq, eq-eqb, ne_eqb, false≢true}
use Rattle.std.proofs.lemmas.List.{length-set, length-take, length-take-le}
use Rattle.std.proofs.lemmas.List.Sums.{count_by-le-length, sum_by_push}
use Rattle.std.proofs.lemmas.List.Elements.{All-nil, All-head, All-tail, All-contains}
use Rattle.std.proofs.lemmas.List.Elements.{All-contains_itself, All-push, All-weaker}
use Rattle.std.proofs.lemmas.List.Elements.{Contains-append_left, Contains-push}
use Rattle.std.proofs.lemmas.List.Quantifiers.{all_pairs_push}
use Rattle.std.proofs.lemmas.Option.{same_Some, slice_get-get_or}
use Rattle.clause_store.specs.declared.literal.Lit.{Lit}
use Rattle.clause_store.specs.declared.step.Step.{Step}
use Rattle.clause_store.specs.Clause.{variable, negation, HasAll, HasNoVariableTwice, IsOver}
use Rattle.clause_store.specs.Entailment.{negations}
use Rattle.clause_store.specs.Trail.{Assigned, IsTrail, step_of, present_level}
use Rattle.clause_store.proofs.StepLemmas.{trail_fits}
use Rattle.clause_store.proofs.LiteralLemmas.{all_through, any_from, negation-negation}
use Rattle.conflict_learning.specs.declared.walk.Walk.{Walk}
use Rattle.clause_store.specs.Standing.{IsFalse}
use Rattle.conflict_learning.specs.Analysis.{StandsIn, level_at}
use Rattle.conflict_learning.specs.Marks.{HasNoMark, is_marked, IsMarked, is_open}
use Rattle.conflict_learning.specs.Walk.{IsLower, IsProgress, IsUnderWay, Begins, IsLater, IsNoted}
use Rattle.conflict_learning.specs.Walk.{Notes, NotesAll, GoesBack}
use Rattle.conflict_learning.proofs.AssignedLemmas.{step_of_before, IsRefuter, refuter, false_later}
use Rattle.conflict_learning.proofs.AssignedLemmas.{false_over, trail_before, below_present}
use Rattle.conflict_learning.proofs.AssignedLemmas.{take_there, step_at, level_found}
use Rattle.conflict_learning.proofs.MarkLemmas.{one_if, marked_new, marked_kept, marked_before}
use Rattle.conflict_learning.proofs.MarkLemmas.{count_marked, count_none}
use Rattle.conflict_learning.proofs.GivenLemmas.{open_parts, from_front}

-- ---- the assignment of a variable

-- an assignment of the variable is the one that is found
pub step_by : (trail : Assigned) (lit : Lit) (step found : Step) → IsTrail trail
    → Contains trail.steps step → variable step.lit ≡ variable lit
    → step_of trail.steps (variable lit) ≡ Some found → step ≡ found
step_by trail lit step found is here same by =
    let there : slice_get trail.steps here.0 ≡ Some step =
    slice_get-get_or trail.steps here.0 step here.1 ∙ ap Some here.2 in
    same_Some step found
    (sym (step_at trail here.0 step is there).found ∙ ap (step_of trail.steps) same ∙ by)

level_by : (trail : Assigned) (lit : Lit) (step : Step) → IsTrail trail → Contains trail.steps step
    → variable step.lit ≡ variable lit → level_at trail.steps lit ≡ step.level
level_by trail lit step is here same =
    let there : slice_get trail.steps here.0 ≡ Some step =
    slice_get-get_or trail.steps here.0 step here.1 ∙ ap Some here.2 in
    (level_found trail.steps lit step
    (ap (step_of trail.steps) (sym same) ∙ (step_at trail here.0 step is there).found)).0

-- ---- a literal is noted

-- the assignment that makes the noted literal false, and how the count changes
pub record IsFresh (trail : Assigned) (marks : List Bool) (level at : ℕ) (lit : Lit) : Type 0 where
  pub by : IsRefuter (take at trail.steps) lit
  pub found : step_of trail.steps (variable lit) ≡ Some by.step
  pub level_is : level_at trail.steps lit ≡ by.step.level
  pub inside : variable lit < length marks
  pub count : count_by (is_open (set marks (variable lit) true) level) (take at trail.steps)
      ≡ count_by (is_open marks level) (take at trail.steps)
      + one_if (eqb (level_at trail.steps lit) level)

pub fresh : (trail : Assigned) (marks : List Bool) (clause : List Lit) (level unresolved at : ℕ)
    (lit : Lit) → IsProgress trail marks clause level unresolved at
    → IsFalse (take at trail.steps) lit
    → is_marked marks (variable lit) ≡ false → IsFresh trail marks level at lit
fresh trail marks clause level unresolved at lit way wrong unmarked =
    let by = refuter (take at trail.steps) lit wrong in
    let found : step_of trail.steps (variable lit) ≡ Some by.step =
    step_of_before at trail.steps (variable lit) by.step by.found in
    let over =
    All-contains (λ s. IsOver trail.vars s.lit) trail.steps by.step way.is_trail.over
    (from_front at trail.steps by.step by.here) in
    let inside : variable lit < length marks = omega (arith, over.last, by.same, way.sized) in
    let level_is = (level_found trail.steps lit by.step found).0 in
    record {
      by = by;
      found = found;
      level_is = level_is;
      inside = inside;
      count =
          subst
          (λ n. count_by (is_open (set marks (variable lit) true) level) (take at trail.steps)
          ≡ count_by (is_open marks level) (take at trail.steps) + one_if (eqb n level))
          (sym level_is)
          (count_marked marks level (variable lit) (take at trail.steps) by.step
          (trail_before trail at way.is_trail way.within).once by.found unmarked inside);
    }

-- literals of lower levels stay noted
lower_kept : (steps : List Step) (marks : List Bool) (level var : ℕ) (clause : List Lit)
    → var < length marks → All (IsLower steps marks level) clause
    → All (IsLower steps (set marks var true) level) clause
lower_kept steps marks level var clause inside =
    All-weaker (IsLower steps marks level) (IsLower steps (set marks var true) level)
    (λ lit is.
    record {
      is_false = is.is_false;
      below = is.below;
      marked =
          marked_kept marks var (variable lit) inside is.marked;
    }) clause

-- the new mark is that of an assigned variable
assigned_more : (trail : Assigned) (marks : List Bool) (lit : Lit) (step : Step)
    → Contains trail.steps step → variable step.lit ≡ variable lit
    → ((var : ℕ) → IsMarked marks var → Any (λ s. variable s.lit ≡ var) trail.steps) → (var : ℕ)
    → IsMarked (set marks (variable lit) true) var → Any (λ s. variable s.lit ≡ var) trail.steps
assigned_more trail marks lit step here same before var marked =
    elim (cases_eq var (variable lit)) [
      | inl it ↦ any_from (λ s. variable s.lit ≡ var) trail.steps step here (same ∙ sym it)
      | inr other ↦ before var (marked_before marks (variable lit) var other marked)
    ]

-- the variable of a false literal was marked, and the clause is this
progress_marked : (trail : Assigned) (marks : List Bool) (clause : List Lit)
    (level unresolved at : ℕ) (lit : Lit) (new : List Lit) (count : ℕ)
    → IsProgress trail marks clause level unresolved at → IsFresh trail marks level at lit
    → count ≡ unresolved + one_if (eqb (level_at trail.steps lit) level)
    → All (IsLower trail.steps (set marks (variable lit) true) level) new
    → HasNoVariableTwice new
    → All (λ step. IsMarked (set marks (variable lit) true) (variable step.lit)
    → step.level ≢ level → Contains new (negation step.lit)) trail.steps
    → IsProgress trail (set marks (variable lit) true) new level count at
progress_marked trail marks clause level unresolved at lit new count way f more lower once kept =
    record {
      is_trail = way.is_trail;
      few = way.few;
      sized = omega (arith, length-set marks (variable lit) true, way.sized);
      level_is = way.level_is;
      within = way.within;
      assigned =
          assigned_more trail marks lit f.by.step (from_front at trail.steps f.by.step f.by.here)
          f.by.same way.assigned;
      counted = omega (arith, way.counted, f.count, more);
      lower = lower;
      once = once;
      kept = kept;
    }

-- one more of the present level is open
pub progress_open : (trail : Assigned) (marks : List Bool) (clause : List Lit)
    (level unresolved at : ℕ) (lit : Lit) → IsProgress trail marks clause level unresolved at
    → IsFalse (take at trail.steps) lit
    → is_marked marks (variable lit) ≡ false → level_at trail.steps lit ≡ level
    → IsProgress trail (set marks (variable lit) true) clause level (unresolved + 1) at
progress_open trail marks clause level unresolved at lit way wrong unmarked same =
    let f = fresh trail marks clause level unresolved at lit way wrong unmarked in
    let one : one_if (eqb (level_at trail.steps lit) level) ≡ 1 =
    ap one_if (eq-eqb (level_at trail.steps lit) level same) in
    progress_marked trail marks clause level unresolved at lit clause (unresolved + 1) way f
    (omega (arith, one))
    (lower_kept trail.steps marks level (variable lit) clause f.inside way.lower) way.once
    (λ k d inside marked differs.
    elim (cases_eq (variable (get_or trail.steps k d).lit) (variable lit)) [
      | inl it ↦ absurd
          (differs
          (sym
          (level_by trail lit (get_or trail.steps k d) way.is_trail
          (All-contains_itself trail.steps k d inside) it) ∙ same))
      | inr other ↦ way.kept k d inside
          (marked_before marks (variable lit) (variable (get_or trail.steps k d).lit) other
          marked) differs
    ])

-- one more literal of a lower level is in the clause
pub progress_lower : (trail : Assigned) (marks : List Bool) (clause : List Lit)
    (level unresolved at : ℕ) (lit : Lit) → IsProgress trail marks clause level unresolved at
    → IsFalse (take at trail.steps) lit
    → is_marked marks (variable lit) ≡ false → level_at trail.steps lit ≢ level
    → IsProgress trail (set marks (variable lit) true) (clause ++ lit ∷ []) level unresolved at
progress_lower trail marks clause level unresolved at lit way wrong unmarked differ =
    let f = fresh trail marks clause level unresolved at lit way wrong unmarked in
    let none : one_if (eqb (level_at trail.steps lit) level) ≡ 0 =
    ap one_if (ne_eqb (level_at trail.steps lit) level differ) in
    let low : level_at trail.steps lit ≤ present_level trail.steps =
    subst (λ n. n ≤ present_level trail.steps) (sym f.level_is)
    (All-contains (λ s. s.level ≤ present_level trail.steps) trail.steps f.by.step
    (below_present trail.steps) (from_front at trail.steps f.by.step f.by.here)) in
    progress_marked trail marks clause level unresolved at lit (clause ++ lit ∷ []) unresolved way f
    (omega (arith, none))
    (All-push (IsLower trail.steps (set marks (variable lit) true) level) clause lit
    (lower_kept trail.steps marks level (variable lit) clause f.inside way.lower)
    (record {
      is_false = false_later at trail.steps lit wrong;
      below =
          omega (arith, low, way.level_is, differ);
      marked =
          marked_new marks (variable lit) f.inside;
    }))
    (all_pairs_push (λ one two. variable one ≢ variable two) clause lit way.once
    (λ k d inside same. false≢true
    (sym unmarked ∙ subst (IsMarked marks) same (way.lower k d inside).marked)))
    (λ k d inside marked differs.
    elim (cases_eq (variable (get_or trail.steps k d).lit) (variable lit)) [
      | inl it ↦
          let is : get_or trail.steps k d ≡ f.by.step =
          step_by trail lit (get_or trail.steps k d) f.by.step way.is_trail
          (All-contains_itself trail.steps k d inside) it f.found in
          subst (Contains (clause ++ lit ∷ []))
          (sym (ap negation (ap (λ s. s.lit) is ∙ f.by.negates) ∙ negation-negation lit))
          (Contains-push clause lit)
      | inr other ↦ Contains-append_left clause (lit ∷ [])
          (negation (get_or trail.steps k d).lit)
          (way.kept k d inside
          (marked_before marks (variable lit) (variable (get_or trail.steps k d).lit) other
          marked) differs)
    ])

-- ---- literals stay of the store

pub standing_marked : (clauses : List (List Lit)) (trail : Assigned) (marks : List Bool)
    (clause : List Lit) (level unresolved at : ℕ) (lit : Lit)
    → IsProgress trail marks clause level unresolved at
    → IsFalse (take at trail.steps) lit → is_marked marks (variable lit) ≡ false
    → StandsIn clauses lit
    → All (λ step. IsMarked marks (variable step.lit) → StandsIn clauses (negation step.lit))
    trail.steps
    → All
    (λ step. IsMarked (set marks (variable lit) true) (variable step.lit)
    → StandsIn clauses (negation step.lit)) trail.steps
standing_marked clauses trail marks clause level unresolved at lit way wrong unmarked stands all k d
    inside marked =
    let f = fresh trail marks clause level unresolved at lit way wrong unmarked in
    elim (cases_eq (variable (get_or trail.steps k d).lit) (variable lit)) [
      | inl it ↦
          let is : get_or trail.steps k d ≡ f.by.step =
          step_by trail lit (get_or trail.steps k d) f.by.step way.is_trail
          (All-contains_itself trail.steps k d inside) it f.found in
          subst (StandsIn clauses)
          (sym (ap negation (ap (λ s. s.lit) is ∙ f.by.negates) ∙ negation-negation lit)) stands
      | inr other ↦ all k d inside
          (marked_before marks (variable lit) (variable (get_or trail.steps k d).lit) other marked)
    ]

pub later_marked : (marks : List Bool) (var : ℕ) → var < length marks → (other : ℕ)
    → IsMarked marks other → IsMarked (set marks var true) other
later_marked marks var inside other is = marked_kept marks var other inside is

-- the count fits
pub count_fits : (trail : Assigned) (marks : List Bool) (clause : List Lit)
    (level unresolved at : ℕ) (lit : Lit) → IsProgress trail marks clause level unresolved at
    → IsFalse (take at trail.steps) lit
    → is_marked marks (variable lit) ≡ false → level_at trail.steps lit ≡ level
    → unresolved + 1 < 2 ^ 64
count_fits trail marks clause level unresolved at lit way wrong unmarked same =
    let after = progress_open trail marks clause level unresolved at lit way wrong unmarked same in
    let most : count_by (is_open (set marks (variable lit) true) level) (take at trail.steps)
    ≤ length (take at trail.steps) =
    count_by-le-length (is_open (set marks (variable lit) true) level) (take at trail.steps) in
    let taken : length (take at trail.steps) ≡ at = length-take-le at trail.steps way.within in
    let few : length trail.steps ≤ trail.vars = trail_fits trail way.is_trail in
    omega (arith, after.counted, most, taken, few, way.within, way.few)

-- equal parts
progress_same : (trail : Assigned) (marks marks' : List Bool) (clause clause' : List Lit)
    (level level' unresolved unresolved' at at' : ℕ) → marks ≡ marks' → clause ≡ clause'
    → level ≡ level'
    → unresolved ≡ unresolved' → at ≡ at' → IsProgress trail marks clause level unresolved at
    → IsProgress trail marks' clause' level' unresolved' at'
progress_same trail marks marks' clause clause' level level' unresolved unresolved' at at' m c l u a
    way =
    subst (λ n. IsProgress trail marks' clause' level' unresolved' n) a
    (subst (λ n. IsProgress trail marks' clause' level' n at) u
    (subst (λ n. IsProgress trail marks' clause' n unresolved at) l
    (subst (λ ls. IsProgress trail marks' ls level unresolved at) c
    (subst (λ ms. IsProgress trail ms clause level unresolved at) m way))))

-- the variable of a literal that is noted is one of the trail
pub note_over : (trail : Assigned) (walk : Walk) (lit : Lit) → IsUnderWay trail walk
    → IsFalse (take walk.at trail.steps) lit → IsOver trail.vars lit
note_over trail walk lit way wrong =
    false_over trail lit way.is_trail (false_later walk.at trail.steps lit wrong)

-- so it has a mark
pub note_within : (trail : Assigned) (walk : Walk) (lit : Lit) (place : ℕ) → IsUnderWay trail walk
    → IsFalse (take walk.at trail.steps) lit → place ≡ variable lit
    → place < length walk.marks.items
note_within trail walk lit place way wrong is =
    omega (arith, (note_over trail walk lit way wrong).last, way.sized, is)

-- what wasn't noted isn't marked
pub not_noted : (steps : List Step) (walk : Walk) (lit : Lit)
    → (IsNoted steps walk lit → IsTrue false) → is_marked walk.marks.items (variable lit) ≡ false
not_noted steps walk lit other =
    elim (cases_Bool (is_marked walk.marks.items (variable lit))) [
      | inl marked ↦ absurd (false≢true (other (λ above. marked)))
      | inr unmarked ↦ unmarked
    ]

pub later_itself : (walk : Walk) → IsLater walk walk
later_itself walk =
    record {
      at = refl;
      level = refl;
      unresolved = omega arith;
      marks = λ var is. is;
      clause =
          All-contains_itself walk.clause;
    }

-- nothing new is noted
pub notes_nothing : (trail : Assigned) (walk : Walk) (lit : Lit) → IsUnderWay trail walk
    → IsNoted trail.steps walk lit → Notes trail walk walk lit
notes_nothing trail walk lit way noted =
    record {
      under_way = way;
      later = later_itself walk;
      noted = noted;
      stands = λ clauses stands all. all;
    }

-- a literal was noted where its variable was marked and the clause has what stood in it
notes_marked : (trail : Assigned) (old : Walk) (lit : Lit) (new : Walk) → IsUnderWay trail old
    → IsFalse (take old.at trail.steps) lit → is_marked old.marks.items (variable lit) ≡ false
    → new.marks.items ≡ set old.marks.items (variable lit) true → new.at ≡ old.at
    → new.level ≡ old.level → old.unresolved ≤ new.unresolved → IsUnderWay trail new
    → HasAll new.clause old.clause
    → ((clauses : List (List Lit)) → StandsIn clauses lit → All (StandsIn clauses) old.clause
    → All (StandsIn clauses) new.clause)
    → Notes trail old new lit
notes_marked trail old lit new way wrong unmarked marks at level more under_way has lower =
    let f =
    fresh trail old.marks.items old.clause old.level old.unresolved old.at lit way wrong
    unmarked in
    record {
      under_way = under_way;
      later = record {
        at = at;
        level = level;
        unresolved = more;
        marks =
            λ var is. subst (λ ms. IsMarked ms var) (sym marks)
            (marked_kept old.marks.items (variable lit) var f.inside is);
        clause = has;
      };
      noted =
          λ above. subst (λ ms. IsMarked ms (variable lit)) (sym marks)
          (marked_new old.marks.items (variable lit) f.inside);
      stands = λ clauses stands all. record {
        lower = lower clauses stands all.lower;
        marked =
            subst
            (λ ms. All
            (λ step. IsMarked ms (variable step.lit) → StandsIn clauses (negation step.lit))
            trail.steps) (sym marks)
            (standing_marked clauses trail old.marks.items old.clause old.level old.unresolved
            old.at lit way wrong unmarked stands all.marked);
      };
    }

-- a literal of the present level is noted
pub notes_open : (trail : Assigned) (old : Walk) (lit : Lit) (new : Walk) → IsUnderWay trail old
    → IsFalse (take old.at trail.steps) lit → is_marked old.marks.items (variable lit) ≡ false
    → level_at trail.steps lit ≡ old.level
    → new.marks.items ≡ set old.marks.items (variable lit) true → new.clause ≡ old.clause
    → new.level ≡ old.level → new.unresolved ≡ old.unresolved + 1
    → new.at ≡ old.at → Notes trail old new lit
notes_open trail old lit new way wrong unmarked same marks clause level unresolved at =
    notes_marked trail old lit new way wrong unmarked marks at level (omega (arith, unresolved))
    (progress_same trail (set old.marks.items (variable lit) true) new.marks.items old.clause
    new.clause old.level new.level (old.unresolved + 1) new.unresolved old.at new.at
    (sym marks) (sym clause) (sym level) (sym unresolved) (sym at)
    (progress_open trail old.marks.items old.clause old.level old.unresolved old.at lit way
    wrong unmarked same))
    (subst (λ c. HasAll c old.clause) (sym clause) (All-contains_itself old.clause))
    (λ clauses stands all. subst (All (StandsIn clauses)) (sym clause) all)

-- a literal of a lower level is noted
pub notes_lower : (trail : Assigned) (old : Walk) (lit : Lit) (new : Walk) → IsUnderWay trail old
    → IsFalse (take old.at trail.steps) lit → is_marked old.marks.items (variable lit) ≡ false
    → level_at trail.steps lit ≢ old.level
    → new.marks.items ≡ set old.marks.items (variable lit) true
    → new.clause ≡ old.clause ++ lit ∷ [] → new.level ≡ old.level
    → new.unresolved ≡ old.unresolved → new.at ≡ old.at → Notes trail old new lit
notes_lower trail old lit new way wrong unmarked differ marks clause level unresolved at =
    notes_marked trail old lit new way wrong unmarked marks at level (omega (arith, unresolved))
    (progress_same trail (set old.marks.items (variable lit) true) new.marks.items
    (old.clause ++ lit ∷ []) new.clause old.level new.level old.unresolved new.unresolved
    old.at new.at
    (sym marks) (sym clause) (sym level) (sym unresolved) (sym at)
    (progress_lower trail old.marks.items old.clause old.level old.unresolved old.at lit way
    wrong unmarked differ))
    (subst (λ c. HasAll c old.clause) (sym clause)
    (λ k d inside. Contains-append_left old.clause (lit ∷ []) (get_or old.clause k d)
    (All-contains_itself old.clause k d inside)))
    (λ clauses stands all. subst (All (StandsIn clauses)) (sym clause)
    (All-push (StandsIn clauses) old.clause lit all stands))

-- ---- the literals of a clause are noted

later_again : (one two three : Walk) → IsLater one two → IsLater two three → IsLater one three
later_again one two three first second =
    record {
      at = second.at ∙ first.at;
      level = second.level ∙ first.level;
      unresolved = omega (arith, first.unresolved, second.unresolved);
      marks = λ var is. second.marks var (first.marks var is);
      clause = all_through (Contains three.clause) one.clause two.clause first.clause second.clause;
    }

pub notes_none : (trail : Assigned) (walk : Walk) → IsUnderWay trail walk
    → NotesAll trail walk walk []
notes_none trail walk way =
    record {
      under_way = way;
      later = later_itself walk;
      noted = All-nil (λ lit. IsFalse trail.steps lit → IsNoted trail.steps walk lit);
      stands = λ clauses none all. all;
    }

pub notes_skip : (trail : Assigned) (old new : Walk) (lits : List Lit) (lit : Lit)
    → NotesAll trail old new lits → (IsFalse trail.steps lit → ⊥)
    → NotesAll trail old new (lits ++ lit ∷ [])
notes_skip trail old new lits lit notes other =
    record {
      under_way = notes.under_way;
      later = notes.later;
      noted =
          All-push (λ l. IsFalse trail.steps l → IsNoted trail.steps new l) lits lit notes.noted
          (λ wrong. absurd (other wrong));
      stands =
          λ clauses all. notes.stands clauses
          (all_through (StandsIn clauses) lits (lits ++ lit ∷ [])
          (λ k d inside. Contains-append_left lits (lit ∷ []) (get_or lits k d)
          (All-contains_itself lits k d inside)) all);
    }

pub notes_one : (trail : Assigned) (old mid new : Walk) (lits : List Lit) (lit : Lit)
    → NotesAll trail old mid lits → Notes trail mid new lit
    → NotesAll trail old new (lits ++ lit ∷ [])
notes_one trail old mid new lits lit notes one =
    record {
      under_way = one.under_way;
      later = later_again old mid new notes.later one.later;
      noted = All-push (λ l. IsFalse trail.steps l → IsNoted trail.steps new l) lits lit
          (λ k d inside wrong above. one.later.marks (variable (get_or lits k d))
          (notes.noted k d inside wrong above))
          (λ wrong. one.noted);
      stands = λ clauses all before.
          one.stands clauses
          (All-contains (StandsIn clauses) (lits ++ lit ∷ []) lit all (Contains-push lits lit))
          (notes.stands clauses
          (all_through (StandsIn clauses) lits (lits ++ lit ∷ [])
          (λ k d inside. Contains-append_left lits (lit ∷ []) (get_or lits k d)
          (All-contains_itself lits k d inside)) all) before);
    }

-- ---- the last open assignment is sought

-- those that were passed aren't open
pub record IsSearching (trail : Assigned) (old now : Walk) : Type 0 where
  pub within : now.at ≤ old.at
  pub marks : now.marks.items ≡ old.marks.items
  pub clause : now.clause ≡ old.clause
  pub level : now.level ≡ old.level
  pub unresolved : now.unresolved ≡ old.unresolved
  pub counted : count_by (is_open old.marks.items old.level) (take now.at trail.steps)
      ≡ old.unresolved
  pub passing : (known : List Lit)
      → All (λ step. IsTrue (is_open old.marks.items old.level step) → Contains known step.lit)
      (take now.at trail.steps)
      → All (λ step. IsTrue (is_open old.marks.items old.level step) → Contains known step.lit)
      (take old.at trail.steps)

pub search_begins : (trail : Assigned) (walk : Walk) → IsUnderWay trail walk
    → IsSearching trail walk walk
search_begins trail walk way =
    record {
      within = omega arith;
      marks = refl;
      clause = refl;
      level = refl;
      unresolved =
          refl;
      counted = sym way.counted;
      passing = λ known all. all;
    }

-- while some are open, some are left
pub some_left : (trail : Assigned) (old now : Walk) → IsSearching trail old now → 0 < old.unresolved
    → 0 < now.at
some_left trail old now searching some =
    elim (cases_eq now.at 0) [
      | inl none ↦
          let fewer : count_by (is_open old.marks.items old.level) (take now.at trail.steps)
          ≤ length (take now.at trail.steps) =
          count_by-le-length (is_open old.marks.items old.level) (take now.at trail.steps) in
          let short : length (take now.at trail.steps) ≤ now.at =
          omega (arith, length-take now.at trail.steps) in
          absurd (omega (arith, fewer, short, searching.counted, some, none))
      | inr left ↦ omega (arith, left)
    ]

-- the last one as it is read
pub record IsLast (trail : Assigned) (now : Walk) (step : Step) : Type 0 where
  pub there : slice_get trail.steps (now.at - 1) ≡ Some step
  pub taken : take now.at trail.steps ≡ take (now.at - 1) trail.steps ++ step ∷ []

pub last_read : (trail : Assigned) (now : Walk) (steps : List Step) (d step : Step)
    → steps ≡ trail.steps → 0 < now.at → now.at ≤ length trail.steps
    → step ≡ get_or steps (now.at - 1) d → IsLast trail now step
last_read trail now steps d step same some within read =
    let inside : now.at - 1 < length trail.steps = omega (arith, some, within) in
    let is : get_or trail.steps (now.at - 1) d ≡ step =
    ap (λ s. get_or s (now.at - 1) d) (sym same) ∙ sym read in
    let there : slice_get trail.steps (now.at - 1) ≡ Some step =
    slice_get-get_or trail.steps (now.at - 1) d inside ∙ ap Some is in
    let next : now.at - 1 + 1 ≡ now.at = omega (arith, some) in
    record {
      there = there;
      taken =
          ap (λ n. take n trail.steps) (sym next) ∙ take_there trail.steps (now.at - 1) step there;
    }

-- the open ones before the last, and the last, are as many as were counted
count_passed : (trail : Assigned) (old now : Walk) (step : Step) (open_one : Bool)
    → IsSearching trail old now → IsLast trail now step
    → is_open old.marks.items old.level step ≡ open_one
    → count_by (is_open old.marks.items old.level) (take (now.at - 1) trail.steps) + one_if open_one
    ≡ old.unresolved
count_passed trail old now step open_one searching last is =
    sym (ap (count_by (is_open old.marks.items old.level)) last.taken
    ∙ sum_by_push (λ s. one_if (is_open old.marks.items old.level s))
    (take (now.at - 1) trail.steps) step
    ∙ ap
    (λ b. count_by (is_open old.marks.items old.level) (take (now.at - 1) trail.steps)
    + one_if b) is) ∙ searching.counted

-- one that isn't open is passed
pub search_passes : (trail : Assigned) (old now new : Walk) (step : Step)
    → IsSearching trail old now → IsLast trail now step
    → is_open now.marks.items now.level step ≡ false
    → new.marks.items ≡ now.marks.items → new.clause ≡ now.clause → new.level ≡ now.level
    → new.unresolved ≡ now.unresolved → new.at ≡ now.at - 1 → IsSearching trail old new
search_passes trail old now new step searching last closed marks clause level unresolved at =
    let not_open : is_open old.marks.items old.level step ≡ false =
    ap₂ (λ ms n. is_open ms n step) (sym searching.marks) (sym searching.level) ∙ closed in
    let count : count_by (is_open old.marks.items old.level) (take (now.at - 1) trail.steps)
    ≡ old.unresolved =
    sym (add-zero _) ∙ count_passed trail old now step false searching last not_open in
    record {
      within = omega (arith, searching.within, at);
      marks = marks ∙ searching.marks;
      clause = clause ∙ searching.clause;
      level = level ∙ searching.level;
      unresolved = unresolved ∙ searching.unresolved;
      counted =
          ap (λ n. count_by (is_open old.marks.items old.level) (take n trail.steps)) at ∙ count;
      passing = λ known all.
          searching.passing known
          (subst (All (λ s. IsTrue (is_open old.marks.items old.level s) → Contains known s.lit))
          (sym last.taken)
          (All-push (λ s. IsTrue (is_open old.marks.items old.level s) → Contains known s.lit)
          (take (now.at - 1) trail.steps) step
          (subst
          (λ n. All (λ s. IsTrue (is_open old.marks.items old.level s) → Contains known s.lit)
          (take n trail.steps)) at all)
          (λ is. absurd (false≢true (sym not_open ∙ is)))));
    }

-- one that is open is found
pub search_ends : (trail : Assigned) (old now new : Walk) (step : Step) → IsUnderWay trail old
    → IsSearching trail old now → 0 < now.at → IsLast trail now step
    → is_open now.marks.items now.level step ≡ true
    → new.marks.items ≡ now.marks.items → new.clause ≡ now.clause → new.level ≡ now.level
    → new.unresolved ≡ now.unresolved - 1 → new.at ≡ now.at - 1 → GoesBack trail old new step
search_ends trail old now new step way searching some last is_it marks clause level unresolved at =
    let is : is_open old.marks.items old.level step ≡ true =
    ap₂ (λ ms n. is_open ms n step) (sym searching.marks) (sym searching.level) ∙ is_it in
    let parts = open_parts now.marks.items now.level step is_it in
    let count : count_by (is_open old.marks.items old.level) (take (now.at - 1) trail.steps) + 1
    ≡ old.unresolved = count_passed trail old now step true searching last is in
    record {
      under_way =
          progress_same trail old.marks.items new.marks.items old.clause new.clause old.level
          new.level (old.unresolved - 1) new.unresolved (now.at - 1) new.at
          (sym (marks ∙ searching.marks)) (sym (clause ∙ searching.clause))
          (sym (level ∙ searching.level))
          (sym (unresolved ∙ ap (λ n. n - 1) searching.unresolved)) (sym at)
          (record {
            is_trail = way.is_trail;
            few = way.few;
            sized = way.sized;
            level_is = way.level_is;
            within = omega (arith, way.within, searching.within);
            assigned = way.assigned;
            counted = omega (arith, count);
            lower = way.lower;
            once = way.once;
            kept = way.kept;
          });
      less = omega (arith, at, searching.within, some);
      there = ap (slice_get trail.steps) at ∙ last.there;
      level = parts.1 ∙ sym level;
      marked = subst (λ ms. IsMarked ms (variable step.lit)) (sym marks) parts.0;
      stands = λ clauses all. record {
        lower = subst (All (StandsIn clauses)) (sym (clause ∙ searching.clause)) all.lower;
        marked =
            subst
            (λ ms. All (λ s. IsMarked ms (variable s.lit) → StandsIn clauses (negation s.lit))
            trail.steps) (sym (marks ∙ searching.marks)) all.marked;
      };
      given = λ clauses lit given known knowing.
          let has = knowing.has_given in
          given known (record {
            closed = knowing.closed;
            has_given =
                subst (λ c. HasAll known (negations c)) (clause ∙ searching.clause)
                (All-tail (Contains known) step.lit (negations new.clause) has);
            has_passing =
                searching.passing known
                (subst
                (All (λ s. IsTrue (is_open old.marks.items old.level s) → Contains known s.lit))
                (sym last.taken)
                (All-push (λ s. IsTrue (is_open old.marks.items old.level s) → Contains known s.lit)
                (take (now.at - 1) trail.steps) step
                (subst
                (λ n. All
                (λ s. IsTrue (is_open old.marks.items old.level s) → Contains known s.lit)
                (take n trail.steps)) at
                (subst
                (λ n. All (λ s. IsTrue (is_open old.marks.items n s) → Contains known s.lit)
                (take new.at trail.steps)) (level ∙ searching.level)
                (subst
                (λ ms. All (λ s. IsTrue (is_open ms new.level s) → Contains known s.lit)
                (take new.at trail.steps)) (marks ∙ searching.marks) knowing.has_passing)))
                (λ open_one. All-head (Contains known) step.lit (negations new.clause) has)));
          });
    }

-- ---- the walk begins

pub begins : (trail : Assigned) (walk : Walk) → IsTrail trail → trail.vars < 2 ^ 31
    → trail.vars < length walk.marks.items → HasNoMark walk.marks.items → walk.clause ≡ []
    → walk.level ≡ present_level trail.steps
    → walk.unresolved ≡ 0 → walk.at ≡ length trail.steps → Begins trail walk
begins trail walk is few sized unmarked clause level unresolved at =
    record {
      under_way =
          progress_same trail walk.marks.items walk.marks.items [] walk.clause walk.level walk.level
          0 walk.unresolved walk.at walk.at refl (sym clause) refl (sym unresolved) refl
          (record {
            is_trail = is;
            few = few;
            sized = sized;
            level_is = level;
            within = omega (arith, at);
            assigned = λ var marked. absurd (false≢true (sym (unmarked var) ∙ marked));
            counted =
                sym (count_none (is_open walk.marks.items walk.level) (take walk.at trail.steps)
                (λ k d inside. ap
                (λ b. b && eqb (get_or (take walk.at trail.steps) k d).level walk.level)
                (unmarked (variable (get_or (take walk.at trail.steps) k d).lit))));
            lower = All-nil (IsLower trail.steps walk.marks.items walk.level);
            once = λ i j d before inside. absurd (omega (arith, inside));
            kept =
                λ k d inside marked. absurd
                (false≢true (sym (unmarked (variable (get_or trail.steps k d).lit)) ∙ marked));
          });
      at = at;
      stands = λ clauses. record {
        lower = subst (All (StandsIn clauses)) (sym clause) (All-nil (StandsIn clauses));
        marked =
            λ k d inside marked. absurd
            (false≢true (sym (unmarked (variable (get_or trail.steps k d).lit)) ∙ marked));
      };
    }
