-- Selectors in use: their clauses, and what is spent with them.
use Rattle.std.proofs.Common.{◌≡◌, ◌+◌, ℕ, suc, Bool, true, false, not, List, [], ◌∷◌, ◌++◌, Option}
use Rattle.std.proofs.Common.{MatchOption, length, get_or, get_or-append-add, All}
use Rattle.std.proofs.Common.{sym, ap}
use Rattle.std.proofs.Common.{subst, ◌∙◌, arith, ⊎_elim}
use Rattle.std.specs.List.{AllZip}
use Rattle.std.proofs.lemmas.Bool.{cases_Bool}
use Rattle.std.proofs.lemmas.List.Elements.{All-nil, All-cons, All-head, All-tail}
use Rattle.std.proofs.lemmas.List.Elements.{Contains-append_left}
use Rattle.std.proofs.lemmas.List.Elements.{Contains-get_or}
use Rattle.clause_store.specs.declared.literal.Lit.{Lit}
use Rattle.item_list.proofs.ListLemmas.{Any-append_left}
use Rattle.clause_store.specs.Clause.{truth, makes_true, HoldsIn, IsTrueIn, AreOver}
use Rattle.clause_store.specs.Entailment.{AreUnits}
use Rattle.clause_store.proofs.lemmas.Units.UnitLemmas.{units_among_fewer}
use Rattle.normal_program.specs.declared.normal.Normal.{Normal}
use Rattle.normal_program.specs.declared.spent.SpentTest.{SpentTest}
use Rattle.normal_program.specs.Normal.{greatest_body_var, first_selector, extension}
use Rattle.normal_program.specs.Clauses.{negative, base_clauses, IsEntailed}
use Rattle.normal_program.specs.Spent.{selector_clauses_from, selector_clauses, AreUnitsOfTest}
use Rattle.normal_program.specs.Spent.{AreUnitsWithin, IsSpentTest, IsWideSpentTest}
use Rattle.normal_program.proofs.lemmas.Base.TruthLemmas.{makes_true-negative, HoldsIn-here}
use Rattle.normal_program.proofs.lemmas.Base.TruthLemmas.{HoldsIn-there}
use Rattle.normal_program.proofs.lemmas.Entailed.ChoiceLemmas.{HoldsIn-longer, length-extension}

-- a clause holds by its last literal
holds_last : (values : List Bool) (any : List Lit) (lit : Lit) → makes_true values lit ≡ true
    → HoldsIn values (any ++ lit ∷ [])
holds_last values [] lit is = HoldsIn-here values lit [] is
holds_last values (one ∷ rest) lit is =
    HoldsIn-there values one (rest ++ lit ∷ []) (holds_last values rest lit is)

module _ (values whole : List Bool) where
  -- the clauses of selectors hold where each that is on has its disjunction true
  selector_clauses-hold : (first : ℕ) (disjunctions : List (List Lit)) (chosen : List Bool)
      → ((k : ℕ) → truth whole (first + k) ≡ truth chosen k)
      → AllZip (λ any on. on ≡ true → HoldsIn values any) disjunctions chosen
      → All (λ any. HoldsIn values any → HoldsIn whole any) disjunctions
      → All (HoldsIn whole) (selector_clauses_from first disjunctions)
  selector_clauses-hold first [] chosen read all longer = All-nil (HoldsIn whole)
  selector_clauses-hold first (any ∷ rest) [] read all longer = absurd all
  selector_clauses-hold first (any ∷ rest) (on ∷ more) read all longer =
      let start : first ≡ first + 0 = omega arith in
      let here : truth whole first ≡ on = ap (truth whole) start ∙ read 0 in
      All-cons (HoldsIn whole) (any ++ negative first ∷ [])
      (selector_clauses_from (first + 1) rest)
      (⊎_elim
      (λ is_on. Any-append_left (IsTrueIn whole) any (negative first ∷ [])
      (All-head (λ one. HoldsIn values one → HoldsIn whole one) any rest longer (all.0 is_on)))
      (λ is_off. holds_last whole any (negative first)
      (makes_true-negative whole first ∙ ap not (here ∙ is_off)))
      (cases_Bool on))
      (selector_clauses-hold (first + 1) rest more
      (λ k. let next : first + 1 + k ≡ first + suc k = omega arith in
      ap (truth whole) next ∙ read (suc k))
      all.1 (All-tail (λ one. HoldsIn values one → HoldsIn whole one) any rest longer))

-- what follows a list is read behind it
truth-behind : (front back : List Bool) (k : ℕ) → truth (front ++ back) (length front + k)
    ≡ truth back k
truth-behind front back k = get_or-append-add front back k false

-- so they are entailed
pub selector_clauses-entailed : (normal : Normal) (disjunctions : List (List Lit))
    → AreOver (greatest_body_var normal) disjunctions
    → All (IsEntailed normal disjunctions) (selector_clauses normal disjunctions)
selector_clauses-entailed normal disjunctions over k d h set chosen answer are_chosen =
    let values = extension normal set set in
    let size = length-extension normal set set answer.over in
    selector_clauses-hold values (values ++ chosen) (first_selector normal) disjunctions chosen
    (λ at. let place : first_selector normal + at ≡ length values + at = omega (arith, size) in
    ap (truth (values ++ chosen)) place ∙ truth-behind values chosen at)
    are_chosen
    (λ i e within. HoldsIn-longer values chosen (get_or disjunctions i e)
    (λ j c inside. omega (arith, (over i e within j c inside).last, size)))
    k d h

-- the units of a wide spent test are units over the base clauses
pub wide-units : (normal : Normal) (disjunctions : List (List Lit)) (test : SpentTest)
    → IsWideSpentTest normal disjunctions test → AreUnits (base_clauses normal) test.units
wide-units normal disjunctions test wide =
    units_among_fewer (base_clauses normal)
    (base_clauses normal ++ selector_clauses normal disjunctions) test.units
    (λ k d h. Contains-append_left (base_clauses normal) (selector_clauses normal disjunctions)
    (get_or (base_clauses normal) k d) (Contains-get_or (base_clauses normal) k d h))
    wide.units

-- with no selector in use it is a spent test
pub wide-spent : (normal : Normal) (test : SpentTest) → IsWideSpentTest normal [] test
    → IsSpentTest normal test
wide-spent normal test wide = record {
  all = wide.all;
  over = λ k d h i e within. record {
    first = (wide.over k d h i e within).first;
    last = omega (arith, (wide.over k d h i e within).last);
  };
  worth = subst
      (λ (inside : Option (List Bool)).
      MatchOption inside (AreUnitsOfTest normal test) (AreUnitsWithin normal test))
      (sym wide.no_set)
      (record { units = wide-units normal [] test wide; entailed = wide.entailed });
}
