-- The followed assignments and the trail: which are the next and the last, and what they have in
-- common.
use Rattle.std.proofs.Common.{◌≡◌, ◌≢◌, ◌≤◌, ◌<◌, ◌+◌, ◌-◌, ℕ, suc, Bool, true, false, cond, eqb}
use Rattle.std.proofs.Common.{List, [], ◌∷◌, ◌++◌, length, get_or, map, take, drop, set, refl}
use Rattle.std.proofs.Common.{sym, ap}
use Rattle.std.proofs.Common.{◌∙◌, subst, inl, inr, arith, length-append, Some, None}
use Rattle.std.specs.Prelude.{All, slice_get, if◌then◌else◌, ◌||◌}
use Rattle.std.proofs.lemmas.Bool.{cases_eq, ne_eqb}
use Rattle.std.proofs.lemmas.List.{get_or-set_other, length-set, get_or-take}
use Rattle.std.proofs.lemmas.List.{get_or_append_left, length-map, length-take, take_all}
use Rattle.std.proofs.lemmas.List.{get_or_default}
use Rattle.std.proofs.Math.Seq.{get_or-append_seam}
use Rattle.std.proofs.lemmas.List.Elements.{All-map}
use Rattle.std.proofs.lemmas.Option.{same_Some}
use Rattle.std.proofs.lemmas.Option.{slice_get-get_or, slice_get_read}
use Rattle.clause_store.specs.declared.literal.Lit.{Lit}
use Rattle.clause_store.specs.declared.literal.Value.TheVariants.{Yes, No}
use Rattle.clause_store.specs.declared.step.Step.{Step}
use Rattle.clause_store.specs.Clause.{variable}
use Rattle.clause_store.specs.Trail.{Assigned, step_of, value_of, value_by}
use Rattle.clause_store.specs.Standing.{Followed, AreFollowed, HasGoneBack, as_followed}
use Rattle.clause_store.proofs.lemmas.Trails.FollowedLemmas.{followed_after_back}
use Rattle.clause_store.proofs.StepLemmas.{find_none}
use Rattle.item_list.proofs.ListLemmas.{sum_by-agree}
use Rattle.normal_program.specs.Clauses.{positive}
use Rattle.normal_program.proofs.RangeLemmas.{All-unmap}
use Rattle.weight_propagator.specs.declared.row.Term.{Term}
use Rattle.weight_propagator.specs.declared.row.Row.{Row}
use Rattle.weight_propagator.specs.declared.side.Side.{Side}
use Rattle.weight_propagator.specs.declared.side.Side.TheVariants.{Reached, Missed}
use Rattle.weight_propagator.specs.declared.tally.Tally.{Tally}
use Rattle.weight_propagator.specs.Rows.{RowGives, is_on, is_taken, all_sum, yes_sum, not_no_sum}
use Rattle.weight_propagator.specs.Rows.{IsRow}
use Rattle.weight_propagator.specs.Sums.{AreSums, IsInStep, AreApart}
use Rattle.weight_propagator.proofs.CaseLemmas.{taken_reached, taken_missed}
use Rattle.weight_propagator.proofs.SumLemmas.{gives_same}

-- ---- assignments that are followed alike

same_first : (x y : Step) (one two : List Step) (lit : Lit) → x.lit ≡ y.lit
    → value_of one lit ≡ value_of two lit → value_of (x ∷ one) lit ≡ value_of (y ∷ two) lit
same_first x y one two lit same rest =
    go (eqb (variable x.lit) (variable lit))
    ∙ ap
    (λ (l : Lit). value_by
    (cond (eqb (variable l) (variable lit)) (Some y) (step_of two (variable lit))) lit)
    same
  where
    go : (b : Bool) → value_by (cond b (Some x) (step_of one (variable lit))) lit
        ≡ value_by (cond b (Some y) (step_of two (variable lit))) lit
    go true = ap (λ (l : Lit). cond (eqb l.0 lit.0) Yes No) same
    go false = rest

-- each literal has the same value by them
pub same_values : (one two : List Step) → map as_followed one ≡ map as_followed two → (lit : Lit)
    → value_of one lit ≡ value_of two lit
same_values [] [] is lit = refl
same_values [] (y ∷ two) is lit =
    absurd (let e : 0 ≡ suc (length (map as_followed two)) = ap length is in omega (arith, e))
same_values (x ∷ one) [] is lit =
    absurd (let e : suc (length (map as_followed one)) ≡ 0 = ap length is in omega (arith, e))
same_values (x ∷ one) (y ∷ two) is lit =
    same_first x y one two lit (ap (λ all. (get_or all 0 (as_followed x)).lit) is)
    (same_values one two (ap (drop 1) is) lit)

module _ (rows : List Row) (one two : List Step)
    (values : (lit : Lit) → value_of one lit ≡ value_of two lit) where
  sums_same : (side : Side) (sums : List ℕ) → AreSums side one rows sums
      → AreSums side two rows sums
  sums_same side sums are = record {
    same = are.same;
    each = λ at row here.
        are.each at row here
        ∙ sum_by-agree
        (λ (term : Term). if is_taken side one None term then term.weight else 0)
        (λ (term : Term). if is_taken side two None term then term.weight else 0) row.terms
        (λ k d within.
        ap (λ v. cond (is_on side v || false) (get_or row.terms k d).weight 0)
        (values (get_or row.terms k d).lit));
  }

  -- so the sums are those of both
  pub step_same : (tally : Tally) → IsInStep rows one tally → IsInStep rows two tally
  step_same tally is = record {
    reached = sums_same Reached tally.reached.items is.reached;
    missed = sums_same Missed tally.missed.items is.missed;
    settled = record {
      same = is.settled.same;
      each = λ at row here off gives.
          is.settled.each at row here off
          (gives_same two one row (sym (values (positive row.var.0)))
          (λ k d within. sym (values (get_or row.terms k d).lit)) gives);
    };
  }

-- ---- one more, one less

-- a variable that is none of the followed ones is unset
pub next_unset : (steps : List Step) (lit : Lit)
    → All (λ (one : Followed). variable one.lit ≢ variable lit) (map as_followed steps)
    → step_of steps (variable lit) ≡ None
next_unset steps lit others =
    find_none (λ s. eqb (variable s.lit) (variable lit)) steps
    (λ k d within.
    ne_eqb (variable (get_or steps k d).lit) (variable lit)
    (All-unmap (λ (one : Followed). variable one.lit ≢ variable lit) as_followed steps others k d
    within))

-- the last of them is unset before
pub last_unset : (front : List Step) (step : Step) → AreApart (front ++ step ∷ [])
    → step_of front (variable step.lit) ≡ None
last_unset front step apart =
    find_none (λ s. eqb (variable s.lit) (variable step.lit)) front
    (λ k d within.
    ne_eqb (variable (get_or front k d).lit) (variable step.lit)
    (subst (λ (s : Step). variable s.lit ≢ variable step.lit)
    (get_or_append_left front (step ∷ []) d k within)
    (subst (λ (s : Step). variable (get_or (front ++ step ∷ []) k d).lit ≢ variable s.lit)
    (get_or-append_seam front step [] d)
    (apart k (length front) d within (omega (arith, length-append front (step ∷ [])))))))

pub front_apart : (front : List Step) (step : Step) → AreApart (front ++ step ∷ [])
    → AreApart front
front_apart front step apart i j d before within =
    subst (λ (s : Step). variable s.lit ≢ variable (get_or front j d).lit)
    (get_or_append_left front (step ∷ []) d i (omega (arith, before, within)))
    (subst (λ (s : Step). variable (get_or (front ++ step ∷ []) i d).lit ≢ variable s.lit)
    (get_or_append_left front (step ∷ []) d j within)
    (apart i j d before (omega (arith, within, length-append front (step ∷ [])))))

-- ---- the trail goes on

module _ (steps : List Step) (followed : List Followed) (are : AreFollowed steps followed)
    (d : Step) (more : length followed < length steps) where
  -- the next assignment of a trail is of another variable
  pub next_apart : AreApart steps
      → All (λ (one : Followed). variable one.lit ≢ variable (get_or steps (length followed) d).lit)
      followed
  next_apart apart =
      subst
      (All (λ (one : Followed). variable one.lit ≢ variable (get_or steps (length followed) d).lit))
      (sym are)
      (All-map
      (λ (one : Followed). variable one.lit ≢ variable (get_or steps (length followed) d).lit)
      as_followed (take (length followed) steps) others)
    where
      others : All
          (λ (one : Step). variable one.lit ≢ variable (get_or steps (length followed) d).lit)
          (take (length followed) steps)
      others k e within =
          let low : k < length followed =
          omega (arith, within, length-take (length followed) steps) in
          subst
          (λ (one : Step). variable one.lit ≢ variable (get_or steps (length followed) d).lit)
          (get_or_default steps k d e (omega (arith, low, more))
          ∙ sym (get_or-take (length followed) steps k e low))
          (apart k (length followed) d low more)

-- where no less is followed than the trail has, all of it is
pub all_followed : (steps : List Step) (followed : List Followed) → AreFollowed steps followed
    → length steps ≤ length followed → followed ≡ map as_followed steps
all_followed steps followed are enough =
    are ∙ ap (map as_followed) (take_all (length followed) steps enough)

pub all_are_followed : (steps : List Step) (followed : List Followed)
    → followed ≡ map as_followed steps → AreFollowed steps followed
all_are_followed steps followed are =
    are
    ∙ ap (map as_followed)
    (sym
    (take_all (length followed) steps
    (omega (arith, ap length are, length-map steps as_followed))))

-- where the trail has gone back, what is left of them is followed
pub left_followed : (trail : Assigned) (old now : List Followed) → HasGoneBack trail old
    → take (length trail.steps) now ≡ take (length trail.steps) old
    → length now ≤ length trail.steps → AreFollowed trail.steps now
left_followed trail old now back same few =
    subst (AreFollowed trail.steps) (sym same ∙ take_all (length trail.steps) now few)
    (followed_after_back trail old back)

-- ---- what is looked at

module _ (rows : List Row) (steps : List Step) (tally : Tally) (is : IsInStep rows steps tally)
    (number : ℕ) (row : Row) (low : number < length tally.waiting.waits)
    (read : row ≡ get_or rows number row) where
  here : slice_get rows number ≡ Some row
  here =
      slice_get_read rows (length rows) number row refl (omega (arith, low, is.settled.same)) read

  pub sum_yes : get_or tally.reached.items number 0 ≡ yes_sum steps row.terms
  sum_yes = is.reached.each number row here ∙ taken_reached steps row.terms

  sum_missed : get_or tally.missed.items number 0 + not_no_sum steps row.terms
      ≡ all_sum row.terms
  sum_missed =
      ap (λ n. n + not_no_sum steps row.terms) (is.missed.each number row here)
      ∙ taken_missed steps row.terms

  full : (vars : ℕ) → All (IsRow vars) rows → row.full ≡ all_sum row.terms
  full vars sound =
      (subst (IsRow vars) (sym read)
      (sound number row (omega (arith, low, is.settled.same)))).sized.full

  pub missed_fits : (vars : ℕ) → All (IsRow vars) rows
      → get_or tally.missed.items number 0 ≤ row.full
  missed_fits vars sound = omega (arith, sum_missed, full vars sound)

  -- what isn't false weighs what the false ones leave
  pub sum_open : (vars : ℕ) → All (IsRow vars) rows
      → row.full - get_or tally.missed.items number 0 ≡ not_no_sum steps row.terms
  sum_open vars sound = omega (arith, sum_missed, full vars sound)

  -- a body that gives nothing may stop waiting
  pub settled_one : (new : Tally) → new.reached ≡ tally.reached → new.missed ≡ tally.missed
      → new.waiting.waits ≡ set tally.waiting.waits number false → ¬ RowGives steps row
      → IsInStep rows steps new
  settled_one new same_reached same_missed waits nothing = record {
    reached = subst (λ sums. AreSums Reached steps rows sums)
        (sym (ap (λ v. v.items) same_reached)) is.reached;
    missed = subst (λ sums. AreSums Missed steps rows sums)
        (sym (ap (λ v. v.items) same_missed)) is.missed;
    settled = record {
      same =
          ap length waits ∙ length-set tally.waiting.waits number false ∙ is.settled.same;
      each = λ at other there off. elim (cases_eq at number) [
        | inl same ↦
            let same_row : row ≡ other =
            same_Some row other (sym here ∙ ap (slice_get rows) (sym same) ∙ there) in
            subst (λ one. ¬ RowGives steps one) same_row nothing
        | inr differs ↦
            is.settled.each at other there
            (sym (get_or-set_other tally.waiting.waits number at false true differs)
            ∙ sym (ap (λ all. get_or all at true) waits) ∙ off)
      ];
    };
  }

-- where none waits, none gives a clause
pub none_gives : (rows : List Row) (steps : List Step) (tally : Tally) → IsInStep rows steps tally
    → All (λ waits. waits ≡ false) tally.waiting.waits → All (λ row. ¬ RowGives steps row) rows
none_gives rows steps tally is off k d within =
    is.settled.each k (get_or rows k d) (slice_get-get_or rows k d within)
    (off k true (omega (arith, within, is.settled.same)))
