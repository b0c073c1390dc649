-- What an engine that was opened for the parts of a set has shown when it answers.
use Rattle.std.proofs.Common.{◌≡◌, ◌≢◌, ◌≤◌, ◌+◌, ◌%◌, ℕ, Bool, List, [], ◌++◌, eqb}
use Rattle.std.proofs.Common.{length, get_or, sym, ap, ◌∙◌, subst, inl, inr, arith}
use Rattle.std.specs.Prelude.{All, Contains, Result, IfOk}
use Rattle.std.proofs.lemmas.Bool.{cases_Bool, cases_lt, eqb-true, eqb-false}
use Rattle.std.proofs.lemmas.List.Elements.{All-contains, All-weaker, Contains-get_or}
use Rattle.ground_program.specs.Meaning.{IsSetOver}
use Rattle.clause_store.specs.declared.literal.Lit.{Lit}
use Rattle.clause_store.specs.Clause.{variable, IsOver}
use Rattle.clause_store.specs.Counted.{Counted}
use Rattle.clause_store.specs.History.{counted_clauses}
use Rattle.clause_store.specs.Trail.{Assigned}
use Rattle.clause_store.proofs.LiteralLemmas.{lit_of_code}
use Rattle.normal_program.specs.declared.normal.Normal.{Normal}
use Rattle.normal_program.specs.Clauses.{positive, negative}
use Rattle.normal_program.specs.Limit.{IsNormal}
use Rattle.normal_program.specs.Loop.{IsLocalWithin}
use Rattle.normal_program.specs.Normal.{greatest_body_var}
use Rattle.normal_program.specs.Spent.{inner_clauses}
use Rattle.normal_program.proofs.RangeLemmas.{IsNormal-in_range}
use Rattle.completion.proofs.InnerOverLemmas.{inner_clauses-over}
use Rattle.search_state.specs.State.{Searched}
use Rattle.assumption_engine.specs.declared.answer.Answer.{Answer}
use Rattle.assumption_engine.specs.declared.answer.Answer.TheVariants.{Model}
use Rattle.assumption_engine.specs.declared.answer.Answer.TheVariants.{NoMemory as WantsMemory}
use Rattle.assumption_engine.specs.Answer.{HasEnded, IsAnswer, IsCountedRight}
use Rattle.assumption_engine.specs.Engine.{GoesOn}
use Rattle.assumption_engine.specs.Sided.{AreAsAssumed, IsOneSided}
use Rattle.minimality_test.specs.declared.answer.Minimality.{Minimality}
use Rattle.minimality_test.specs.declared.answer.Minimality.TheVariants.{NoMemory}
use Rattle.minimality_test.specs.Minimality.{HasAnswered, HasCountedWithin}
use Rattle.minimality_test.specs.Parts.{PartsOf, meaning_of}
use Rattle.minimality_test.specs.Search.{IsSearch, IsSearched, MayCome, read_as}
use Rattle.minimality_test.proofs.AnswerLemmas.{counted_within, may_come, read_counts, read_says}
use Rattle.minimality_test.proofs.PartLemmas.{speaks_over}

-- ---- what was counted is over atoms and bodies

module _ (normal : Normal) (is_normal : IsNormal normal) (set : List Bool) where
  -- no other variable stands in the clauses
  one_sided : (var : ℕ) → ¬ IsOver (greatest_body_var normal) (positive var)
      → IsOneSided (IsLocalWithin normal set) (inner_clauses normal set) var
  one_sided var out =
      let in_range = IsNormal-in_range normal is_normal in
      record {
        not_stored = λ some.
            out (All-contains (IsOver (greatest_body_var normal)) some.1 (positive var)
            (All-contains (All (IsOver (greatest_body_var normal)))
            (inner_clauses normal set) some.1
            (inner_clauses-over normal in_range set) (some.0, some.2, some.3)) some.4);
        not_given = λ clause local here.
            out (All-contains (IsOver (greatest_body_var normal)) clause (positive var)
            (speaks_over normal in_range clause local.one.0 local.one.1 local.one.2) here);
      }

  -- so none stands in what was counted
  lit_over : (unit : List Lit)
      → AreAsAssumed (IsLocalWithin normal set) (inner_clauses normal set) [] unit → (lit : Lit)
      → Contains unit lit → IsOver (greatest_body_var normal) lit
  lit_over unit sided lit here =
      elim (cases_lt (variable lit) 1) [
        | inl zero ↦ absurd (stands (λ over. omega (arith, zero, over.first)))
        | inr some ↦
            elim (cases_lt (greatest_body_var normal) (variable lit)) [
              | inl past ↦ absurd (stands (λ over. omega (arith, past, over.last)))
              | inr within ↦ record { first = some; last = within }
            ]
      ]
    where
      stands : ¬ IsOver (greatest_body_var normal) (positive (variable lit)) → ⊥
      stands out =
          let stands_so = sided (variable lit) (one_sided (variable lit) out) in
          elim (cases_Bool (eqb (lit.0 % 2) 1)) [
            | inl odd ↦
                let one : lit.0 % 2 ≡ 1 = eqb-true (lit.0 % 2) 1 odd in
                let is : lit ≡ negative (variable lit) =
                lit_of_code lit (negative (variable lit)) (omega (arith, one)) in
                let nothing = stands_so.assumed_so (subst (Contains unit) is here) in
                omega (arith, nothing.1)
            | inr even ↦
                let other : lit.0 % 2 ≢ 1 = eqb-false (lit.0 % 2) 1 even in
                let is : lit ≡ positive (variable lit) =
                lit_of_code lit (positive (variable lit)) (omega (arith, other)) in
                stands_so.negated (subst (Contains unit) is here)
          ]

  unit_over : (unit : List Lit)
      → AreAsAssumed (IsLocalWithin normal set) (inner_clauses normal set) [] unit
      → All (IsOver (greatest_body_var normal)) unit
  unit_over unit sided k d within =
      lit_over unit sided (get_or unit k d) (Contains-get_or unit k d within)

-- ---- what was shown

module _ (theory : PartsOf) (old new : Searched) (defined : List (List Lit)) (dead : Bool)
    (search : IsSearch theory old defined dead) (before after : Counted)
    (unused : before.units ≡ [])
    (on : GoesOn (meaning_of theory.normal theory.set) [] old new before after) where
  units_over : All (All (IsOver (greatest_body_var theory.normal))) after.units
  units_over =
      let units : after.units ≡ counted_clauses on.added =
      ap (λ (it : Counted). it.units) on.counts
      ∙ ap (λ units. units ++ counted_clauses on.added) unused in
      subst (All (All (IsOver (greatest_body_var theory.normal)))) (sym units)
      (All-weaker
      (AreAsAssumed (IsLocalWithin theory.normal theory.set)
      (inner_clauses theory.normal theory.set) [])
      (All (IsOver (greatest_body_var theory.normal)))
      (unit_over theory.normal search.normal_form theory.set) (counted_clauses on.added)
      (subst
      (λ clauses. All (AreAsAssumed (IsLocalWithin theory.normal theory.set) clauses [])
      (counted_clauses on.added)) search.clauses on.as_assumed))

  -- so this is known at an answer
  pub searched : (limit : ℕ) → limit ≡ before.limit → (answer : Answer)
      → HasEnded (meaning_of theory.normal theory.set) defined [] (length before.units + limit) new
      after answer → IsSearched theory new before after answer
  searched limit is answer ended =
      let none : length before.units ≡ 0 = ap length unused in
      let kept : after.limit ≡ before.limit = ap (λ (it : Counted). it.limit) on.counts in
      let stop : length before.units + limit ≡ after.limit = omega (arith, none, kept, is) in
      let vars : new.trail.vars ≡ greatest_body_var theory.normal = on.vars ∙ search.vars in
      record {
        says =
            subst
            (λ d. IsAnswer (meaning_of theory.normal theory.set) d [] after.limit new.trail answer)
            search.none ended.says;
        counted = subst (λ n. IsCountedRight n after answer) stop ended.counted;
        within =
            counted_within theory.normal theory.set before after old.clauses on.added unused
            search.clauses on.counts on.history units_over;
        range = omega (arith, vars);
      }

-- ---- what it says of the set for which it was opened

module _ (normal : Normal) (set : List Bool) (theory : PartsOf)
    (opened : theory ≡ record { normal = normal; set = set; followed = [] }) (new : Searched)
    (before after : Counted) (answer : Answer)
    (known : answer ≢ WantsMemory → IsSearched theory new before after answer)
    (trail : Assigned) (same : trail ≡ new.trail) where
  of_set : answer ≢ WantsMemory
      → IsSearched (record { normal = normal; set = set; followed = [] }) new before after answer
  of_set lives =
      subst (λ (it : PartsOf). IsSearched it new before after answer) opened (known lives)

  -- a model's trail has all atoms
  pub has_atoms : answer ≡ Model → normal.atoms ≤ trail.vars
  has_atoms is =
      let range = (of_set (λ e. (let no : Model ≡ WantsMemory = sym is ∙ e in cc))).range in
      let vars = ap (λ (it : Assigned). it.vars) same in
      omega (arith, range, vars)

  pub came : MayCome answer
  came =
      may_come normal set new.trail after answer (λ lives. (of_set lives).says)
      (λ lives. (of_set lives).counted)

  pub answered : {E : Type 0} → IsNormal normal → IsSetOver normal.atoms set
      → (result : Result Minimality E) → IfOk result (λ it. it ≡ read_as normal trail answer)
      → IfOk result (HasAnswered normal set after)
  answered is_normal over result is =
      read_says normal set new.trail after is_normal over answer (λ lives. (of_set lives).says)
      (λ lives. (of_set lives).counted) result
      (subst (λ t. IfOk result (λ it. it ≡ read_as normal t answer)) same is)

  pub counts : {E : Type 0} (result : Result Minimality E)
      → IfOk result (λ it. it ≡ read_as normal trail answer)
      → IfOk result (λ it. it ≢ NoMemory → HasCountedWithin normal set before after)
  counts result is =
      read_counts normal set new.trail after before answer (λ lives. (of_set lives).within) result
      (subst (λ t. IfOk result (λ it. it ≡ read_as normal t answer)) same is)
