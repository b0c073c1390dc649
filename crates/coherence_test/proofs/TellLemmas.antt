-- What an engine's models and cores tell of answer sets.
use Rattle.std.proofs.Common.{◌≡◌, ◌<◌, ◌≤◌, ◌+◌, ◌⊎◌, ℕ, Bool, true, false, not, List, [], ◌∷◌}
use Rattle.std.proofs.Common.{◌++◌}
use Rattle.std.proofs.Common.{filter, get_or, length, map, drop, Option, Some, None, refl, sym, ap}
use Rattle.std.proofs.Common.{◌∙◌, subst, arith, inl, inr, suc, zero}
use Rattle.std.specs.Prelude.{All, Any, Contains, IfSome, IsSome, IsTrue, slice_get}
use Rattle.std.specs.Prelude.{if◌then◌else◌}
use Rattle.std.specs.List.{list_any}
use Rattle.std.proofs.lemmas.Bool.{cases_lt, false≢true, le-leb, leb-true}
use Rattle.std.proofs.lemmas.List.{get_or_append_left, get_or-append-add, get_or-map}
use Rattle.std.proofs.lemmas.List.Elements.{All-contains, All-contains_itself, All-filter}
use Rattle.std.proofs.lemmas.List.Elements.{Contains-push, Contains-push_cases}
use Rattle.std.proofs.lemmas.List.Folds.{Any-from_list_any, list_any-from_Any}
use Rattle.std.proofs.lemmas.Option.{get_or_from_slice_get, slice_get_within, same_Some}
use Rattle.ground_program.specs.Meaning.{IsSetOver}
use Rattle.clause_store.specs.declared.literal.Lit.{Lit}
use Rattle.clause_store.specs.declared.literal.Var.{Var}
use Rattle.clause_store.specs.Clause.{AreOver, HoldsIn, IsOver, IsTrueIn, Meets, is_negated}
use Rattle.clause_store.specs.Clause.{makes_true, truth, variable}
use Rattle.clause_store.specs.Trail.{values_of}
use Rattle.clause_store.proofs.LiteralLemmas.{any_from, has_first, has_kept, has_later, kept_passes}
use Rattle.item_list.proofs.ListLemmas.{All-left}
use Rattle.normal_program.specs.declared.normal.Normal.{Normal}
use Rattle.normal_program.specs.Normal.{extension, first_selector, greatest_body_var}
use Rattle.normal_program.specs.Clauses.{AreChosen, negative}
use Rattle.normal_program.specs.Models.{front_of, set_of}
use Rattle.normal_program.proofs.lemmas.Base.TruthLemmas.{makes_true-negative, makes_true-positive}
use Rattle.normal_program.proofs.lemmas.Base.TruthLemmas.{variable-positive}
use Rattle.normal_program.proofs.lemmas.Entailed.ChoiceLemmas.{HoldsIn-front, length-extension}
use Rattle.assumption_engine.specs.declared.engine.Engine.{Engine}
use Rattle.assumption_engine.specs.declared.answer.Answer.{Answer}
use Rattle.assumption_engine.specs.declared.answer.Answer.TheVariants.{Model, Core}
use Rattle.assumption_engine.specs.declared.answer.Answer.TheVariants.{SpentInside}
use Rattle.assumption_engine.specs.Answer.{IsCoreOf}
use Rattle.assumption_engine.specs.Selector.{selector_clause}
use Rattle.assumption_engine.specs.Sided.{positive}
use Rattle.coherence_test.specs.declared.asked.Asked.{Asked}
use Rattle.coherence_test.specs.declared.asked.Core.{Core as Told}
use Rattle.coherence_test.specs.AnswerSets.{answer_sets, Theorised}
use Rattle.coherence_test.specs.Asked.{Answers, IsCoreFor, IsSpentFor, MeetsCore}
use Rattle.normal_program.specs.Spent.{selector_clauses, selector_clauses_from}
use Rattle.coherence_test.specs.Searching.{assumed_with, HasSelector, is_low, IsSelectorOf, Says}
use Rattle.coherence_test.proofs.SelectorLemmas.{begins, chosen_model}

-- ---- fronts of assignments

-- what begins an assignment makes its literals true there
pub makes_true_front : (values more : List Bool) (lit : Lit) → variable lit < length values
    → makes_true (values ++ more) lit ≡ makes_true values lit
makes_true_front values more lit low =
    ap (λ t. if is_negated lit then not t else t)
    (get_or_append_left values more false (variable lit) low)

-- a literal over atoms and bodies is true in an extension exactly where it is in what begins so
module _ (normal : Normal) (values set : List Bool) (set_over : IsSetOver normal.atoms set)
    (extends : front_of normal values ≡ extension normal set set) where
  abbrev whole : List Bool
  whole = extension normal set set

  abbrev behind : List Bool
  behind = drop (normal.atoms + 1 + length normal.bodies) values

  true_in_front : (lit : Lit) → IsOver (greatest_body_var normal) lit → IsTrueIn values lit
      → IsTrueIn whole lit
  true_in_front lit over true_lit =
      let size = length-extension normal set set set_over in
      let last = over.last in
      sym (makes_true_front whole behind lit (omega (arith, last, size)))
      ∙ ap (λ all. makes_true all lit) (begins normal values set extends) ∙ true_lit

  holds_in_front : (clause : List Lit) → All (IsOver (greatest_body_var normal)) clause
      → HoldsIn values clause → HoldsIn whole clause
  holds_in_front clause over holds =
      let size = length-extension normal set set set_over in
      HoldsIn-front whole behind clause
      (λ k d within. let last = (over k d within).last in omega (arith, last, size))
      (subst (λ all. HoldsIn all clause) (sym (begins normal values set extends)) holds)

-- ---- selectors that are true

-- the clause of a selector in use
defined_at : (first : ℕ) (disjunctions : List (List Lit)) (at : ℕ) (any : List Lit)
    → slice_get disjunctions at ≡ Some any
    → Contains (selector_clauses_from first disjunctions) (selector_clause (first + at) any)
defined_at first [] at any here = absurd (cc)
defined_at first (one ∷ rest) zero any here =
    let same : one ≡ any = same_Some one any here in
    let start : first ≡ first + 0 = omega arith in
    let all = selector_clauses_from first (one ∷ rest) in
    subst (λ it. Contains all (selector_clause it any)) start
    (subst (λ it. Contains all (selector_clause first it)) same
    (has_first (selector_clause first one) (selector_clauses_from (first + 1) rest)))
defined_at first (one ∷ rest) (suc at) any here =
    let next : first + 1 + at ≡ first + suc at = omega arith in
    subst (λ it. Contains (selector_clauses_from first (one ∷ rest)) (selector_clause it any)) next
    (has_later (selector_clause first one) (selector_clause (first + 1 + at) any)
    (selector_clauses_from (first + 1) rest) (defined_at (first + 1) rest at any here))

-- where the selector is true its disjunction holds
selector_holds : (values : List Bool) (var : ℕ) (any : List Lit)
    → HoldsIn values (selector_clause var any) → IsTrueIn values (positive var)
    → HoldsIn values any
selector_holds values var any (k, lit, within, is, true_lit) on =
    elim (Contains-push_cases any (negative var) lit (k, within, is)) [
      | inl here ↦ any_from (IsTrueIn values) any lit here true_lit
      | inr last ↦
          let denied : makes_true values (negative var) ≡ true =
          subst (IsTrueIn values) (sym last) true_lit in
          let off = sym denied ∙ makes_true-negative values var
          ∙ ap not (sym (makes_true-positive values var) ∙ on) in
          absurd (false≢true (sym off))
    ]

some_holds : (normal : Normal) (disjunctions : List (List Lit)) (assume : List Lit)
    (any : Option (List Lit)) (selector : Option Var) (values : List Bool)
    → HasSelector normal disjunctions any selector
    → All (IsTrueIn values) (assumed_with assume selector)
    → Meets values (selector_clauses normal disjunctions) → IfSome any (HoldsIn values)
some_holds normal disjunctions assume None selector values has true_lits meets = tt
some_holds normal disjunctions assume (Some any) None values has true_lits meets = absurd has
some_holds normal disjunctions assume (Some any) (Some var) values has true_lits meets =
    let clause =
    All-contains (HoldsIn values) (selector_clauses normal disjunctions)
    (selector_clause (first_selector normal + has.at) any) meets
    (defined_at (first_selector normal) disjunctions has.at any has.here) in
    selector_holds values var.0 any
    (subst (λ it. HoldsIn values (selector_clause it any)) (sym has.is) clause)
    (All-contains (IsTrueIn values) (assume ++ positive var.0 ∷ []) (positive var.0) true_lits
    (Contains-push assume (positive var.0)))

some_in_front : (normal : Normal) (values set : List Bool) → IsSetOver normal.atoms set
    → front_of normal values ≡ extension normal set set
    → (any : Option (List Lit)) → IfSome any (All (IsOver (greatest_body_var normal)))
    → IfSome any (HoldsIn values) → IfSome any (HoldsIn (extension normal set set))
some_in_front normal values set set_over extends None over holds = tt
some_in_front normal values set set_over extends (Some any) over holds =
    holds_in_front normal values set set_over extends any over holds

-- the assumed literals without the selector
assume_of : (P : Lit → Type 0) (assume : List Lit) (selector : Option Var)
    → All P (assumed_with assume selector) → All P assume
assume_of P assume None all = all
assume_of P assume (Some var) all = All-left P assume (positive var.0 ∷ []) all

-- a set whose extension an assignment begins with meets what was asked
module _ (normal : Normal) (disjunctions : List (List Lit)) (asked : Asked)
    (selector : Option Var) (over : All (IsOver (greatest_body_var normal)) asked.assume)
    (any_over : IfSome asked.any (All (IsOver (greatest_body_var normal))))
    (has : HasSelector normal disjunctions asked.any selector) (values set : List Bool)
    (set_over : IsSetOver normal.atoms set)
    (extends : front_of normal values ≡ extension normal set set)
    (true_lits : All (IsTrueIn values) (assumed_with asked.assume selector))
    (meets : Meets values (selector_clauses normal disjunctions)) where
  assumed_true : All (IsTrueIn (extension normal set set)) asked.assume
  assumed_true k d within =
      true_in_front normal values set set_over extends (get_or asked.assume k d) (over k d within)
      (assume_of (IsTrueIn values) asked.assume selector true_lits k d within)

  some_true : IfSome asked.any (HoldsIn (extension normal set set))
  some_true =
      some_in_front normal values set set_over extends asked.any any_over
      (some_holds normal disjunctions asked.assume asked.any selector values has true_lits meets)

-- ---- cores

-- each selector as its disjunction holds
abbrev pub choices : List Bool → List (List Lit) → List Bool
choices values disjunctions = map (λ any. list_any (makes_true values) any) disjunctions

-- so it is chosen
pub choices_fit : (values : List Bool) (disjunctions : List (List Lit))
    → AreChosen values disjunctions (choices values disjunctions)
choices_fit values [] = tt
choices_fit values (any ∷ rest) = (
  Any-from_list_any (makes_true values) any,
  choices_fit values rest,
)

-- a literal of what was assumed is one of the literals, or the selector
assumed_cases : (assume : List Lit) (selector : Option Var) (lit : Lit)
    → Contains (assumed_with assume selector) lit
    → Contains assume lit ⊎ ((var : Var) × (selector ≡ Some var) × (positive var.0 ≡ lit))
assumed_cases assume None lit here = inl here
assumed_cases assume (Some var) lit here =
    elim (Contains-push_cases assume (positive var.0) lit here) [
      | inl before ↦ inl before
      | inr last ↦ inr (var, refl, last)
    ]

module _ (normal : Normal) (disjunctions : List (List Lit)) (asked : Asked)
    (selector : Option Var) (found : List Lit) (core : Told)
    (over : All (IsOver (greatest_body_var normal)) asked.assume)
    (has : HasSelector normal disjunctions asked.any selector)
    (is : IsCoreOf (answer_sets normal) (selector_clauses normal disjunctions)
    (assumed_with asked.assume selector) found)
    (lits : core.lits ≡ filter (is_low (greatest_body_var normal)) found)
    (any_is : (IsTrue core.any → Any (λ lit. greatest_body_var normal < variable lit) found)
    × (Any (λ lit. greatest_body_var normal < variable lit) found → IsTrue core.any)) where
  -- a selector is behind atoms and bodies
  selector_high : (any : Option (List Lit)) (some : Option Var) (var : Var)
      → HasSelector normal disjunctions any some → some ≡ Some var
      → (one : List Lit) × (any ≡ Some one) × IsSelectorOf normal disjunctions one var.0
  selector_high None None var fits same = absurd (cc)
  selector_high None (Some it) var fits same = absurd fits
  selector_high (Some one) None var fits same = absurd fits
  selector_high (Some one) (Some it) var fits same = (
    one,
    refl,
    subst (λ (v : Var). IsSelectorOf normal disjunctions one v.0) (same_Some it var same) fits,
  )

  low_among : (lit : Lit) → Contains found lit → variable lit ≤ greatest_body_var normal
      → Contains asked.assume lit
  low_among lit here low =
      elim (assumed_cases asked.assume selector lit
      (All-contains (Contains (assumed_with asked.assume selector)) found lit is.among here)) [
        | inl before ↦ before
        | inr last ↦
            let fits = selector_high asked.any selector last.0 has last.1 in
            let var : variable lit ≡ last.0.0 =
            ap variable (sym last.2) ∙ variable-positive last.0.0 in
            let high = fits.2.is in
            absurd (omega (arith, var, high, low))
      ]

  high_is : (lit : Lit) → Contains found lit → greatest_body_var normal < variable lit
      → (var : Var) × (selector ≡ Some var) × (positive var.0 ≡ lit)
  high_is lit here high =
      elim (assumed_cases asked.assume selector lit
      (All-contains (Contains (assumed_with asked.assume selector)) found lit is.among here)) [
        | inl before ↦
            let low =
            All-contains (IsOver (greatest_body_var normal)) asked.assume lit over before in
            let last = low.last in
            absurd (omega (arith, last, high))
        | inr last ↦ last
      ]

  core_among : All (Contains asked.assume) core.lits
  core_among k d within =
      let lit = get_or core.lits k d in
      let here : Contains (filter (is_low (greatest_body_var normal)) found) lit =
      subst (λ all. Contains all lit) lits (All-contains_itself core.lits k d within) in
      let low = kept_passes (is_low (greatest_body_var normal)) found lit here in
      low_among lit
      (All-contains (Contains found) (filter (is_low (greatest_body_var normal)) found) lit
      (All-filter (is_low (greatest_body_var normal)) (Contains found) found
      (All-contains_itself found)) here)
      (leb-true (variable lit) (greatest_body_var normal) low)

  core_asks : IsTrue core.any → IsSome asked.any
  core_asks on =
      let high = any_is.0 on in
      let last = high_is high.1 (high.0, high.2, high.3) high.4 in
      let fits = selector_high asked.any selector last.0 has last.1 in
      subst IsSome (sym fits.1) refl

  module _ (set : List Bool) (meets : MeetsCore normal asked core set) where
    abbrev ext : List Bool
    ext = extension normal set set

    abbrev chosen : List Bool
    chosen = choices ext disjunctions

    size : length ext ≡ normal.atoms + 1 + length normal.bodies
    size = length-extension normal set set meets.answers.over

    low_true : (lit : Lit) → Contains found lit → variable lit ≤ greatest_body_var normal
        → IsTrueIn (ext ++ chosen) lit
    low_true lit here low =
        let kept : Contains core.lits lit =
        subst (λ all. Contains all lit) (sym lits)
        (has_kept (is_low (greatest_body_var normal)) found lit here
        (le-leb (variable lit) (greatest_body_var normal) low)) in
        makes_true_front ext chosen lit (omega (arith, low, size))
        ∙ All-contains (IsTrueIn ext) core.lits lit meets.lits kept

    high_true : (lit : Lit) → Contains found lit → greatest_body_var normal < variable lit
        → IsTrueIn (ext ++ chosen) lit
    high_true lit here high =
        let last = high_is lit here high in
        let fits = selector_high asked.any selector last.0 has last.1 in
        let one = fits.0 in
        let on = any_is.1 (here.0, lit, here.1, here.2, high) in
        let holds : HoldsIn ext one =
        subst (λ (o : Option (List Lit)). IfSome o (HoldsIn ext)) fits.1 (meets.any on) in
        let spot = fits.2.at in
        let within = slice_get_within disjunctions spot one fits.2.here in
        let there = fits.2.is in
        let place : last.0.0 ≡ length ext + spot = omega (arith, there, size) in
        let value : truth (ext ++ chosen) last.0.0 ≡ true =
        ap (truth (ext ++ chosen)) place
        ∙ get_or-append-add ext chosen spot false
        ∙ get_or-map (λ any. list_any (makes_true ext) any) disjunctions spot one false within
        ∙ ap (λ any. list_any (makes_true ext) any)
        (get_or_from_slice_get disjunctions spot one one fits.2.here)
        ∙ list_any-from_Any (makes_true ext) one holds in
        subst (IsTrueIn (ext ++ chosen)) last.2
        (makes_true-positive (ext ++ chosen) last.0.0 ∙ value)

    all_true : All (IsTrueIn (ext ++ chosen)) found
    all_true k d within =
        let lit = get_or found k d in
        let here = All-contains_itself found k d within in
        elim (cases_lt (greatest_body_var normal) (variable lit)) [
          | inl high ↦ high_true lit here high
          | inr low ↦ low_true lit here (omega (arith, low))
        ]

  pub core_for : AreOver (greatest_body_var normal) disjunctions → IsCoreFor normal asked core
  core_for are_over =
      record {
        among = core_among;
        asks = core_asks;
        unmet =
            λ set meets.
            is.unmet (ext set meets ++ chosen set meets)
            (chosen_model normal disjunctions set (chosen set meets) meets.answers are_over
            (choices_fit (ext set meets) disjunctions))
            (all_true set meets);
      }

-- ---- answers

module _ (normal : Normal) (engine : Engine Theorised) (disjunctions : List (List Lit))
    (asked : Asked) (selector : Option Var) (answer : Answer)
    (over : All (IsOver (greatest_body_var normal)) asked.assume)
    (any_over : IfSome asked.any (All (IsOver (greatest_body_var normal))))
    (has : HasSelector normal disjunctions asked.any selector)
    (says : Says normal engine disjunctions (assumed_with asked.assume selector) answer) where
  -- a model
  pub told_found : (set : List Bool) → answer ≡ Model
      → set ≡ set_of normal (values_of engine.state.trail) → Answers normal asked set
  told_found set is same =
      let on =
      (subst (Says normal engine disjunctions (assumed_with asked.assume selector)) is says).1 in
      let model = on.model.model in
      let values = values_of engine.state.trail in
      let here = set_of normal values in
      subst (Answers normal asked) (sym same)
      (record {
        answers = model.answers;
        assumed =
            assumed_true normal disjunctions asked selector over any_over has values here
            model.answers.over model.extends on.true_lits on.model.meets;
        some =
            some_true normal disjunctions asked selector over any_over has values here
            model.answers.over model.extends on.true_lits on.model.meets;
      })

  -- a spent check
  pub told_spent : (set : List Bool) (units : List (List Lit)) → answer ≡ SpentInside set units
      → IsSpentFor normal asked set units
  told_spent set units is =
      let inside =
      (subst (Says normal engine disjunctions (assumed_with asked.assume selector)) is says).1 in
      let spent = inside.check.spent in
      record {
        within = spent.within;
        assumed =
            assumed_true normal disjunctions asked selector over any_over has inside.values set
            spent.within.over spent.extends inside.true_lits inside.meets;
        some =
            some_true normal disjunctions asked selector over any_over has inside.values set
            spent.within.over spent.extends inside.true_lits inside.meets;
      }

-- a core
pub told_core : (normal : Normal) (engine : Engine Theorised) (disjunctions : List (List Lit))
    (asked : Asked) (selector : Option Var) (answer : Answer) (found : List Lit) (core : Told)
    → AreOver (greatest_body_var normal) disjunctions
    → All (IsOver (greatest_body_var normal)) asked.assume
    → HasSelector normal disjunctions asked.any selector
    → Says normal engine disjunctions (assumed_with asked.assume selector) answer
    → answer ≡ Core found → core.lits ≡ filter (is_low (greatest_body_var normal)) found
    → (IsTrue core.any → Any (λ lit. greatest_body_var normal < variable lit) found)
    × (Any (λ lit. greatest_body_var normal < variable lit) found → IsTrue core.any)
    → IsCoreFor normal asked core
told_core normal engine disjunctions asked selector answer found core are_over over has says is lits
    any_is =
    core_for normal disjunctions asked selector found core over has
    (subst (Says normal engine disjunctions (assumed_with asked.assume selector)) is says).1
    lits any_is are_over
