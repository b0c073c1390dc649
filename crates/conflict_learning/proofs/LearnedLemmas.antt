-- Resolving with reasons until one open assignment is left, and what the clause is then.
use Rattle.std.proofs.Common.{◌≡◌, ◌≢◌, ℕ, ◌+◌, ◌/◌, ◌<◌, ◌≤◌, max, Bool, true, false, cond, eqb}
use Rattle.std.proofs.Common.{not, List, [], ◌∷◌, ◌++◌, length, take, get_or, Option, Some, None}
use Rattle.std.proofs.Common.{refl, sym, ap, ap₂, ◌∙◌, subst, inl, inr, arith}
use Rattle.std.specs.Prelude.{All, Any, Contains, slice_get, count_by, filter, IsSome, IsTrue}
use Rattle.std.specs.Prelude.{unwrap_or}
use Rattle.std.proofs.lemmas.Bool.{cases_Bool, cases_eq, eq-eqb, ne_eqb, false≢true, not_from_false}
use Rattle.std.proofs.lemmas.List.{append-nil, map-append, take_more}
use Rattle.std.proofs.Math.Seq.{take-length}
use Rattle.std.proofs.lemmas.List.Elements.{All-append, All-head, All-tail, All-cons, All-contains}
use Rattle.std.proofs.lemmas.List.Elements.{All-contains_itself, All-push, All-weaker}
use Rattle.std.proofs.lemmas.List.Elements.{Contains-append_left, Contains-push, filter-append}
use Rattle.std.proofs.lemmas.List.Quantifiers.{all_pairs_push}
use Rattle.std.proofs.lemmas.Option.{same_Some, slice_get_within}
use Rattle.item_list.proofs.ListLemmas.{All-left, All-right}
use Rattle.clause_store.specs.declared.literal.Lit.{Lit}
use Rattle.clause_store.specs.declared.literal.ClauseRef.{ClauseRef}
use Rattle.clause_store.specs.declared.literal.Value.TheVariants.{Yes, No}
use Rattle.clause_store.specs.declared.step.Step.{Step}
use Rattle.clause_store.specs.Clause.{variable, negation, HasAll, HasNoVariableTwice, IsOver}
use Rattle.clause_store.specs.Entailment.{negations, others, InClosure, IsClosed, Refutes}
use Rattle.clause_store.specs.Trail.{Assigned, IsTrailOf, IsReasonFor, step_of, value_by, level_of}
use Rattle.clause_store.specs.Trail.{present_level, next_level}
use Rattle.clause_store.proofs.LiteralLemmas.{all_through, any_from, any_through, cases_lit}
use Rattle.clause_store.proofs.LiteralLemmas.{has_mapped}
use Rattle.clause_store.proofs.LiteralLemmas.{negation-negation, variable-negation}
use Rattle.clause_store.proofs.ArrayLemmas.{negation_differs}
use Rattle.conflict_learning.specs.declared.walk.Walk.{Walk}
use Rattle.clause_store.specs.Standing.{IsFalse, IsConflict}
use Rattle.conflict_learning.specs.Analysis.{StandsIn, level_at, greatest_level, IsAsserting}
use Rattle.conflict_learning.specs.Marks.{IsMarked, is_open}
use Rattle.conflict_learning.specs.Walk.{IsUnderWay, AllStand, GivenBy, Begins, IsNotable}
use Rattle.conflict_learning.specs.Walk.{NotesAll, GoesBack, ResolvesTo, IsDerived, IsLearnable}
use Rattle.conflict_learning.specs.Minimisation.{IsEnough}
use Rattle.conflict_learning.proofs.AssignedLemmas.{here_at, refuter, false_later, false_over}
use Rattle.conflict_learning.proofs.AssignedLemmas.{below_present, step_at, level_found}
use Rattle.conflict_learning.proofs.MarkLemmas.{none_counted, count_none}
use Rattle.conflict_learning.proofs.GivenLemmas.{open_parts, open_from, noted_known, given_resolved}
use Rattle.conflict_learning.proofs.GivenLemmas.{negations_within}

-- ---- resolving

-- an open assignment was passed, and what its literal gives so far
pub record IsResolving (clauses : List (List Lit)) (trail : Assigned) (old now : Walk)
    (step : Step) : Type 0 where
  pub under_way : IsUnderWay trail now
  pub there : slice_get trail.steps now.at ≡ Some step
  pub level : step.level ≡ now.level
  pub marked : IsMarked now.marks.items (variable step.lit)
  pub stands : AllStand clauses trail old → AllStand clauses trail now
  pub given : (lit : Lit) → GivenBy clauses trail old [] lit
      → GivenBy clauses trail now (step.lit ∷ []) lit

pub resolving_begins : (clauses : List (List Lit)) (trail : Assigned) (old now : Walk) (step : Step)
    → GoesBack trail old now step → IsResolving clauses trail old now step
resolving_begins clauses trail old now step back =
    record {
      under_way = back.under_way;
      there = back.there;
      level = back.level;
      marked =
          back.marked;
      stands = back.stands clauses;
      given = back.given clauses;
    }

pub resolving_ends : (clauses : List (List Lit)) (trail : Assigned) (old now : Walk) (step : Step)
    (lit : Lit) → IsResolving clauses trail old now step → now.unresolved ≡ 0
    → lit ≡ negation step.lit
    → ResolvesTo clauses trail old now lit
resolving_ends clauses trail old now step lit is none at =
    record {
      under_way = is.under_way;
      none = none;
      step = step;
      there = is.there;
      is = at;
      level =
          is.level;
      marked = is.marked;
      stands = is.stands;
      given = is.given;
    }

-- while more are open, the assignment isn't a decision
pub not_decided : (clauses : List (List Lit)) (trail : Assigned) (old now : Walk) (step : Step)
    → IsResolving clauses trail old now step → 0 < now.unresolved → step.reason ≡ None → ⊥
not_decided clauses trail old now step is some none =
    let level : step.level ≡ present_level (take now.at trail.steps) + 1 =
    (step_at trail now.at step is.under_way.is_trail is.there).level
    ∙ ap (next_level (present_level (take now.at trail.steps))) none in
    let count : count_by (is_open now.marks.items now.level) (take now.at trail.steps) ≡ 0 =
    count_none (is_open now.marks.items now.level) (take now.at trail.steps)
    (All-weaker (λ s. s.level ≤ present_level (take now.at trail.steps))
    (λ s. is_open now.marks.items now.level s ≡ false)
    (λ s below. closed now.marks.items now.level s
    (λ same. absurd (omega (arith, below, same, level, is.level)))) (take now.at trail.steps)
    (below_present (take now.at trail.steps))) in
    omega (arith, count, is.under_way.counted, some)
  where
    closed : (marks : List Bool) (level : ℕ) (s : Step) → (s.level ≡ level → ⊥)
        → is_open marks level s ≡ false
    closed marks level s other =
        elim (cases_Bool (is_open marks level s)) [
          | inl is ↦ absurd (other (open_parts marks level s is).1)
          | inr closed_one ↦
              closed_one
        ]

-- the reason of the assignment
pub reason_at : (clauses : List (List Lit)) (trail : Assigned) (old now : Walk) (step : Step)
    (why : ClauseRef) → IsResolving clauses trail old now step → IsTrailOf trail.steps clauses
    → step.reason ≡ Some why
    → IsReasonFor clauses (take now.at trail.steps) step.lit why
reason_at clauses trail old now step why is of some = of now.at step why is.there some

-- its literals may be noted
pub reason_notable : (clauses : List (List Lit)) (trail : Assigned) (old now : Walk) (step : Step)
    (why : ClauseRef) (lits : List Lit) → IsResolving clauses trail old now step
    → IsTrailOf trail.steps clauses
    → step.reason ≡ Some why → slice_get clauses why.0 ≡ Some lits
    → All (IsNotable trail now.at) lits
reason_notable clauses trail old now step why lits is of some named =
    let reason = of now.at step why is.there some in
    let there = step_at trail now.at step is.under_way.is_trail is.there in
    subst (All (IsNotable trail now.at)) (same_Some reason.clause lits (sym reason.named ∙ named))
    (λ k d inside.
    elim (cases_lit (get_or reason.clause k d) step.lit) [
      | inl same ↦ record {
        over = subst (IsOver trail.vars) (sym same) there.over;
        before =
            λ wrong. absurd
            (yes_no
            (sym
            (ap (λ o. value_by o step.lit) there.found
            ∙ ap (λ b. cond b Yes No) (eq-eqb step.lit.0 step.lit.0 refl))
            ∙ subst (IsFalse trail.steps) same wrong));
      }
      | inr other ↦
          let before = reason.others k d inside other in
          record {
            over =
                false_over trail (get_or reason.clause k d) is.under_way.is_trail
                (false_later now.at trail.steps (get_or reason.clause k d) before);
            before =
                λ wrong. before;
          }
    ])
  where
    yes_no : Yes ≡ No → ⊥
    yes_no same = absurd (cc)

-- the literals of a clause of the store stand in it
pub all_stand : (clauses : List (List Lit)) (at : ℕ) (lits : List Lit)
    → slice_get clauses at ≡ Some lits → All (StandsIn clauses) lits
all_stand clauses at lits named k d inside =
    any_from (λ clause. Contains clause (get_or lits k d)) clauses lits
    (here_at clauses at lits named) (All-contains_itself lits k d inside)

-- an assignment is replaced, and the next open one is passed
pub resolving_goes_on : (clauses : List (List Lit)) (trail : Assigned) (old now noted new : Walk)
    (step next : Step) (why : ClauseRef) (lits : List Lit) → IsResolving clauses trail old now step
    → IsTrailOf trail.steps clauses → step.reason ≡ Some why → slice_get clauses why.0 ≡ Some lits
    → NotesAll trail now noted lits → GoesBack trail noted new next
    → IsResolving clauses trail old new next
resolving_goes_on clauses trail old now noted new step next why lits is of some named notes back =
    record {
      under_way = back.under_way;
      there = back.there;
      level = back.level;
      marked = back.marked;
      stands =
          λ before. back.stands clauses
          (notes.stands clauses (all_stand clauses why.0 lits named) (is.stands before));
      given = λ lit before.
          back.given clauses lit
          (given_resolved clauses trail now noted lits step why lit of
          (of now.at step why is.there some) named notes (is.given lit before));
    }

-- so it has a reason
pub some_reason : (clauses : List (List Lit)) (trail : Assigned) (old now : Walk) (step : Step)
    → IsResolving clauses trail old now step → 0 < now.unresolved → IsSome step.reason
some_reason clauses trail old now step is some =
    go step.reason (not_decided clauses trail old now step is some)
  where
    go : (reason : Option ClauseRef) → (reason ≡ None → ⊥) → IsSome reason
    go None decided = absurd (decided refl)
    go (Some why) decided = refl

-- a reason names a clause
pub reason_within : (clauses : List (List Lit)) (trail : Assigned) (old now : Walk) (step : Step)
    (why : ClauseRef) → IsResolving clauses trail old now step → IsTrailOf trail.steps clauses
    → step.reason ≡ Some why → why.0 < length clauses
reason_within clauses trail old now step why is of some =
    let reason = of now.at step why is.there some in
    slice_get_within clauses why.0 reason.clause reason.named

-- ---- what was learned

-- the walk from the conflict to its end
pub record IsDone (clauses : List (List Lit)) (trail : Assigned) (conflict : List Lit)
    (begun noted done : Walk) (lit : Lit) : Type 0 where
  pub of : IsTrailOf trail.steps clauses
  pub here : Contains clauses conflict
  pub wrong : All (IsFalse trail.steps) conflict
  pub begins : Begins trail begun
  pub notes : NotesAll trail begun noted conflict
  pub resolves : ResolvesTo clauses trail noted done lit

-- nothing is passed when the conflict is noted
noted_all : (trail : Assigned) (conflict : List Lit) (begun noted : Walk) → Begins trail begun
    → NotesAll trail begun noted conflict → take noted.at trail.steps ≡ trail.steps
noted_all trail conflict begun noted begins notes =
    ap (λ n. take n trail.steps) (notes.later.at ∙ begins.at) ∙ take-length trail.steps

-- a literal of the present level is open
pub some_open : (trail : Assigned) (conflict : List Lit) (begun noted : Walk) → Begins trail begun
    → NotesAll trail begun noted conflict → All (IsFalse trail.steps) conflict
    → Any (λ lit. level_at trail.steps lit ≡ present_level trail.steps) conflict
    → 0 < present_level trail.steps → 0 < noted.unresolved
some_open trail conflict begun noted begins notes wrong (at, lit, within, is, level) above =
    elim (cases_eq noted.unresolved 0) [
      | inl none ↦ absurd (false≢true (sym (closed none) ∙ opened))
      | inr some ↦ omega (arith, some)
    ]
  where
    no_lit : IsFalse trail.steps lit
    no_lit = All-contains (IsFalse trail.steps) conflict lit wrong (at, within, is)

    marked : IsMarked noted.marks.items (variable lit)
    marked =
        All-contains
        (λ l. IsFalse trail.steps l → level_at trail.steps l ≢ 0
        → IsMarked noted.marks.items (variable l)) conflict lit notes.noted (at, within, is)
        (All-contains (IsFalse trail.steps) conflict lit wrong (at, within, is))
        (λ zero_level. omega (arith, zero_level, level, above))

    opened : let by =
        refuter trail.steps lit
        (All-contains (IsFalse trail.steps) conflict lit wrong (at, within, is)) in
        is_open noted.marks.items noted.level by.step ≡ true
    opened =
        let by =
        refuter trail.steps lit
        (All-contains (IsFalse trail.steps) conflict lit wrong (at, within, is)) in
        open_from noted.marks.items noted.level by.step
        (subst (IsMarked noted.marks.items) (sym by.same)
        (All-contains
        (λ l. IsFalse trail.steps l → level_at trail.steps l ≢ 0
        → IsMarked noted.marks.items (variable l)) conflict lit notes.noted (at, within, is)
        (All-contains (IsFalse trail.steps) conflict lit wrong (at, within, is))
        (λ zero_level. omega (arith, zero_level, level, above))))
        (sym (level_found trail.steps lit by.step by.found).0 ∙ level
        ∙ sym notes.under_way.level_is)

    closed : noted.unresolved ≡ 0 → let by =
        refuter trail.steps lit
        (All-contains (IsFalse trail.steps) conflict lit wrong (at, within, is)) in
        is_open noted.marks.items noted.level by.step ≡ false
    closed none =
        let by =
        refuter trail.steps lit
        (All-contains (IsFalse trail.steps) conflict lit wrong (at, within, is)) in
        All-contains (λ s. is_open noted.marks.items noted.level s ≡ false)
        (take noted.at trail.steps) by.step
        (none_counted (is_open noted.marks.items noted.level) (take noted.at trail.steps)
        (sym notes.under_way.counted ∙ none))
        (subst (λ steps. Contains steps by.step)
        (sym
        (ap (λ n. take n trail.steps) (notes.later.at ∙ begins.at)
        ∙ take-length trail.steps)) by.here)

-- the answer is of the present level
answer_found : (clauses : List (List Lit)) (trail : Assigned) (noted done : Walk) (lit : Lit)
    (to : ResolvesTo clauses trail noted done lit)
    → step_of trail.steps (variable lit) ≡ Some to.step
answer_found clauses trail noted done lit to =
    ap (step_of trail.steps) (ap variable to.is ∙ variable-negation to.step.lit)
    ∙ (step_at trail done.at to.step to.under_way.is_trail to.there).found

pub learned_refuted : (clauses : List (List Lit)) (trail : Assigned) (conflict : List Lit)
    (begun noted done : Walk) (lit : Lit) → IsDone clauses trail conflict begun noted done lit
    → Refutes clauses (negations (done.clause ++ lit ∷ []))
learned_refuted clauses trail conflict begun noted done lit is =
    any_from
    (λ clause. All (λ l. InClosure clauses (negations (done.clause ++ lit ∷ [])) (negation l))
    clause) clauses conflict is.here
    (λ k d inside known has closed.
    is.resolves.given (negation (get_or conflict k d))
    (λ other knowing.
    noted_known clauses trail noted other is.notes.under_way is.of knowing.closed knowing.has_given
    knowing.has_passing (get_or conflict k d)
    (subst (λ steps. IsFalse steps (get_or conflict k d))
    (sym (noted_all trail conflict begun noted is.begins is.notes)) (is.wrong k d inside))
    (is.notes.noted k d inside (is.wrong k d inside)))
    known
    (record {
      closed = closed;
      has_given = All-cons (Contains known) is.resolves.step.lit (negations done.clause)
          (subst (Contains known)
          (ap negation is.resolves.is ∙ negation-negation is.resolves.step.lit)
          (All-contains (Contains known) (negations (done.clause ++ lit ∷ [])) (negation lit) has
          (has_mapped negation (done.clause ++ lit ∷ []) lit (Contains-push done.clause lit))))
          (all_through (Contains known) (negations done.clause)
          (negations (done.clause ++ lit ∷ []))
          (negations_within done.clause (done.clause ++ lit ∷ [])
          (λ j e within. Contains-append_left done.clause (lit ∷ []) (get_or done.clause j e)
          (All-contains_itself done.clause j e within))) has);
      has_passing =
          All-weaker (λ s. is_open done.marks.items done.level s ≡ false)
          (λ s. IsTrue (is_open done.marks.items done.level s) → Contains known s.lit)
          (λ s closed_one open_one. absurd (false≢true (sym closed_one ∙ open_one)))
          (take done.at trail.steps)
          (none_counted (is_open done.marks.items done.level) (take done.at trail.steps)
          (sym is.resolves.under_way.counted ∙ is.resolves.none));
    }))

filter_all : {X : Type 0} (p : X → Bool) (xs : List X) → All (λ x. p x ≡ true) xs → filter p xs ≡ xs
filter_all p [] all = refl
filter_all p (x ∷ xs) all =
    ap₂ (λ b ys. cond b (x ∷ ys) ys) (All-head (λ y. p y ≡ true) x xs all)
    (filter_all p xs (All-tail (λ y. p y ≡ true) x xs all))

-- the literals of lower levels, and the one of the present level, are a clause to be learned
pub derived : (clauses : List (List Lit)) (trail : Assigned) (conflict : List Lit)
    (begun noted done : Walk) (lit : Lit) → IsDone clauses trail conflict begun noted done lit
    → IsDerived clauses trail done.clause lit
derived clauses trail conflict begun noted done lit is =
    let to = is.resolves in
    let stand = to.stands (is.notes.stands clauses
    (λ k d inside. any_from (λ clause. Contains clause (get_or conflict k d)) clauses conflict
    is.here (All-contains_itself conflict k d inside)) (is.begins.stands clauses)) in
    let found = answer_found clauses trail noted done lit to in
    record {
      is_trail = to.under_way.is_trail;
      refuted = learned_refuted clauses trail conflict begun noted done lit is;
      learnable = λ k d inside. record {
        stands = stand.lower k d inside;
        is_false = (to.under_way.lower k d inside).is_false;
        below =
            subst (λ n. level_at trail.steps (get_or done.clause k d) < n) to.under_way.level_is
            (to.under_way.lower k d inside).below;
      };
      once = to.under_way.once;
      stands =
          subst (StandsIn clauses) (sym to.is)
          (All-contains
          (λ s. IsMarked done.marks.items (variable s.lit) → StandsIn clauses (negation s.lit))
          trail.steps to.step stand.marked (here_at trail.steps done.at to.step to.there)
          to.marked);
      is_false =
          ap (λ o. value_by o lit) found
          ∙ ap (λ b. cond b Yes No)
          (ne_eqb to.step.lit.0 lit.0
          (λ same. negation_differs to.step.lit (same ∙ ap (λ l. l.0) to.is)));
      present =
          (level_found trail.steps lit to.step found).1
          ∙ ap Some (to.level ∙ to.under_way.level_is);
    }

-- fewer literals are one too, where they are enough
pub derived_enough : {clauses : List (List Lit)} {trail : Assigned} {many few : List Lit}
    {lit : Lit} → IsDerived clauses trail many lit → IsEnough clauses many few
    → IsDerived clauses trail few lit
derived_enough {clauses = clauses} {trail = trail} {many = many} {few = few} {lit = lit} is enough =
    record {
      is_trail = is.is_trail;
      refuted =
          any_through
          (λ clause. All (λ l. InClosure clauses (negations (many ++ lit ∷ [])) (negation l))
          clause)
          (λ clause. All (λ l. InClosure clauses (negations (few ++ lit ∷ [])) (negation l))
          clause) clauses clauses (All-contains_itself clauses)
          (λ clause all k d inside known has closed. all k d inside known (given known has closed)
          closed) is.refuted;
      learnable =
          all_through (IsLearnable clauses trail.steps) few many enough.within is.learnable;
      once = enough.once is.once;
      stands = is.stands;
      is_false = is.is_false;
      present = is.present;
    }
  where
    given : (known : List Lit) → HasAll known (negations (few ++ lit ∷ []))
        → IsClosed clauses known → HasAll known (negations (many ++ lit ∷ []))
    given known has closed =
        subst (HasAll known) (sym (map-append negation many (lit ∷ [])))
        (All-append (Contains known) (negations many) (negation lit ∷ [])
        (enough.gives known closed (All-left (Contains known) (negations few)
        (negation lit ∷ [])
        (subst (HasAll known) (map-append negation few (lit ∷ [])) has)))
        (All-right (Contains known) (negations few) (negation lit ∷ [])
        (subst (HasAll known) (map-append negation few (lit ∷ [])) has)))

module _ {clauses : List (List Lit)} {trail : Assigned} {lower : List Lit} {lit : Lit}
    (is : IsDerived clauses trail lower lit) where
  -- the others are of other variables
  apart : (other : Lit) → level_at trail.steps other < present_level trail.steps
      → variable other ≡ variable lit → ⊥
  apart other below same =
      let level : level_at trail.steps other ≡ present_level trail.steps =
      ap (λ v. unwrap_or (level_of trail.steps v) 0) same
      ∙ ap (λ o. unwrap_or o 0) is.present in
      omega (arith, below, level)

  pub learned_stands : All (StandsIn clauses) (lower ++ lit ∷ [])
  learned_stands =
      All-push (StandsIn clauses) lower lit (λ k d inside. (is.learnable k d inside).stands)
      is.stands

  pub learned_false : All (IsFalse trail.steps) (lower ++ lit ∷ [])
  learned_false =
      All-push (IsFalse trail.steps) lower lit
      (λ k d inside. (is.learnable k d inside).is_false) is.is_false

  pub learned_once : HasNoVariableTwice (lower ++ lit ∷ [])
  learned_once =
      all_pairs_push (λ one two. variable one ≢ variable two) lower lit is.once
      (λ k d inside. apart (get_or lower k d) (is.learnable k d inside).below)

  pub learned_over : All (IsOver trail.vars) (lower ++ lit ∷ [])
  learned_over =
      All-weaker (IsFalse trail.steps) (IsOver trail.vars) (λ l. false_over trail l is.is_trail)
      (lower ++ lit ∷ []) learned_false

  pub lower_over : All (IsOver trail.vars) lower
  lower_over k d inside =
      false_over trail (get_or lower k d) is.is_trail (is.learnable k d inside).is_false

  pub learned_asserting : IsAsserting trail.steps (lower ++ lit ∷ []) lit
  learned_asserting =
      record {
        here = Contains-push lower lit;
        present = is.present;
        others =
            All-push
            (λ other. other ≢ lit → level_at trail.steps other < present_level trail.steps)
            lower lit (λ k d inside differs. (is.learnable k d inside).below)
            (λ differs. absurd (differs refl));
      }

  -- the others are the literals of lower levels
  pub learned_others : others (lower ++ lit ∷ []) lit ≡ lower
  learned_others =
      filter-append (λ other. not (eqb other.0 lit.0)) lower (lit ∷ [])
      ∙ ap₂ (λ xs b. xs ++ cond b (lit ∷ []) [])
      (filter_all (λ other. not (eqb other.0 lit.0)) lower
      (λ k d inside. not_from_false (eqb (get_or lower k d).0 lit.0)
      (ne_eqb (get_or lower k d).0 lit.0
      (λ same. apart (get_or lower k d) (is.learnable k d inside).below
      (ap (λ n. n / 2) same)))))
      (ap not (eq-eqb lit.0 lit.0 refl))
      ∙ append-nil lower

-- one literal more
pub greatest_push : (steps : List Step) (xs : List Lit) (x : Lit)
    → greatest_level steps (xs ++ x ∷ []) ≡ max (greatest_level steps xs) (level_at steps x)
greatest_push steps [] x = omega arith
greatest_push steps (y ∷ xs) x = omega (arith, greatest_push steps xs x)

-- the greatest level of one literal more of a row
pub greatest_more : (steps : List Step) (lits : List Lit) (at : ℕ) (d : Lit) → at < length lits
    → greatest_level steps (take (at + 1) lits)
    ≡ max (greatest_level steps (take at lits)) (level_at steps (get_or lits at d))
greatest_more steps lits at d within =
    ap (greatest_level steps) (take_more lits at d within)
    ∙ greatest_push steps (take at lits) (get_or lits at d)

-- ---- the conflict

-- the literals of a conflict are false
pub conflict_false : (clauses : List (List Lit)) (steps : List Step) (at : ClauseRef)
    (lits : List Lit) → IsConflict clauses steps at → slice_get clauses at.0 ≡ Some lits
    → All (IsFalse steps) lits
conflict_false clauses steps at lits is named =
    subst (All (IsFalse steps)) (same_Some is.clause lits (sym is.named ∙ named)) is.is_false

-- the walk from a conflict to its end, from what each of its calls did
pub is_done : {clauses : List (List Lit)} {trail : Assigned} {at : ClauseRef} {conflict : List Lit}
    {begun noted done : Walk} {lit : Lit} → IsTrailOf trail.steps clauses
    → IsConflict clauses trail.steps at → slice_get clauses at.0 ≡ Some conflict
    → Begins trail begun → NotesAll trail begun noted conflict
    → ResolvesTo clauses trail noted done lit
    → IsDone clauses trail conflict begun noted done lit
is_done {clauses = clauses} {trail = trail} {at = at} {conflict = conflict} of is named begins notes
    resolves =
    record {
      of = of;
      here = here_at clauses at.0 conflict named;
      wrong = conflict_false clauses trail.steps at conflict is named;
      begins = begins;
      notes = notes;
      resolves = resolves;
    }

-- its literals may be noted
pub conflict_notable : (trail : Assigned) (begun : Walk) (lits : List Lit) → Begins trail begun
    → All (IsFalse trail.steps) lits → All (IsNotable trail begun.at) lits
conflict_notable trail begun lits begins wrong k d inside =
    record {
      over = false_over trail (get_or lits k d) begins.under_way.is_trail (wrong k d inside);
      before =
          λ is. subst (λ steps. IsFalse steps (get_or lits k d))
          (sym (ap (λ n. take n trail.steps) begins.at ∙ take-length trail.steps)) is;
    }
