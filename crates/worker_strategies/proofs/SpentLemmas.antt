-- What the units of a test are when its budget is used up.
use Rattle.std.proofs.Common.{◌≡◌, ◌+◌, ℕ, List, [], ◌++◌, length}
use Rattle.std.proofs.Common.{refl, sym, ap, subst, arith, inl, inr, Some, None, Option, get_or}
use Rattle.std.specs.Prelude.{All, Contains}
use Rattle.std.proofs.lemmas.List.Elements.{All-append, All-weaker, All-contains_itself}
use Rattle.std.proofs.lemmas.List.Elements.{Contains-append_left, Contains-append_right}
use Rattle.clause_store.specs.declared.literal.Lit.{Lit}
use Rattle.clause_store.specs.Clause.{IsOver}
use Rattle.clause_store.specs.Counted.{Counted}
use Rattle.clause_store.specs.Entailment.{AreUnits}
use Rattle.clause_store.specs.History.{counted_clauses, given_clauses}
use Rattle.clause_store.specs.History.{AreRefutedWith}
use Rattle.clause_store.specs.Laws.{AreMoreClauses}
use Rattle.clause_store.proofs.lemmas.Units.HistoryLemmas.{history_has_units, history_is_refuted}
use Rattle.clause_store.proofs.lemmas.Units.HistoryLemmas.{refuted_of_kind}
use Rattle.clause_store.proofs.lemmas.Units.UnitLemmas.{units_among_fewer}
use Rattle.normal_program.specs.declared.normal.Normal.{Normal}
use Rattle.normal_program.specs.Normal.{greatest_body_var}
use Rattle.normal_program.specs.Clauses.{base_clauses, IsEntailed}
use Rattle.normal_program.specs.Loop.{IsLocal}
use Rattle.normal_program.specs.Spent.{IsSpentTest, IsWideSpentTest, selector_clauses}
use Rattle.normal_program.proofs.lemmas.Entailed.ChoiceLemmas.{entailed-without_selectors}
use Rattle.coherence_test.specs.Selectors.{IsInUse, MayAdd}
use Rattle.coherence_test.specs.Testing.{Testing, used_by}
use Rattle.worker_strategies.specs.Testing.{IsFrontOf, IsTestOf}
use Rattle.worker_strategies.proofs.TestLemmas.{front_among, tested_among}

module _ (normal : Normal) (any : Option (List Lit)) (begin : List (List Lit)) (tester : Testing)
    (counted : Counted) (test : IsTestOf normal any begin tester counted)
    (base : IsFrontOf (base_clauses normal) begin) where
  abbrev units_of : List (List Lit)
  units_of = counted_clauses test.tested.added.added

  -- all that was counted
  pub test_units : counted.units ≡ units_of
  test_units = ap (λ it. it.units) test.tested.added.counts

  -- the units are worth counting beside the clauses of the beginning
  pub test_are : AreUnits begin counted.units
  test_are =
      subst (λ all. AreUnits all counted.units) test.clauses
      (subst (AreUnits test.start.clauses) (sym test_units)
      (history_has_units test.start.clauses test.tested.added.added
      test.tested.added.history.history))

  -- and so beside the base clauses
  pub test_are_base : AreUnits (base_clauses normal) counted.units
  test_are_base =
      units_among_fewer (base_clauses normal) begin counted.units
      (front_among (base_clauses normal) begin base) test_are

  -- they stand among the clauses
  pub test_among : AreMoreClauses counted.units tester.clauses
  test_among =
      subst (λ all. AreMoreClauses all tester.clauses) (sym test_units)
      (tested_among any test.start tester (record { limit = counted.limit; units = [] }) counted
      test.tested)

  pub test_entailed : All (IsEntailed normal tester.disjunctions) counted.units
  test_entailed =
      subst (λ it. All (IsEntailed it tester.disjunctions) counted.units) test.of
      (subst (All (IsEntailed test.start.normal tester.disjunctions)) (sym test_units)
      test.tested.entailed)

  pub test_in_use : All (All (IsInUse normal (used_by any tester.disjunctions))) counted.units
  test_in_use =
      subst (λ it. All (All (IsInUse it (used_by any tester.disjunctions))) counted.units) test.of
      (subst (All (All (IsInUse test.start.normal (used_by any tester.disjunctions))))
      (sym test_units) test.tested.in_use)

  pub test_over :
      All (All (IsOver (greatest_body_var normal + used_by any tester.disjunctions))) counted.units
  test_over =
      All-weaker (All (IsInUse normal (used_by any tester.disjunctions)))
      (All (IsOver (greatest_body_var normal + used_by any tester.disjunctions)))
      (λ unit is.
      All-weaker (IsInUse normal (used_by any tester.disjunctions))
      (IsOver (greatest_body_var normal + used_by any tester.disjunctions))
      (λ lit one. one.over) unit is)
      counted.units test_in_use

  -- beside the clauses of selectors too
  pub test_beside :
      AreUnits (base_clauses normal ++ selector_clauses normal tester.disjunctions) counted.units
  test_beside =
      let base_ones = base_clauses normal in
      let ones = selector_clauses normal tester.disjunctions in
      let more : AreMoreClauses (base_ones ++ ones) (begin ++ ones) =
      All-append (Contains (begin ++ ones)) base_ones ones
      (All-weaker (Contains begin) (Contains (begin ++ ones))
      (λ clause here. Contains-append_left begin ones clause here) base_ones
      (front_among base_ones begin base))
      (All-weaker (Contains ones) (Contains (begin ++ ones))
      (λ clause here. Contains-append_right begin ones clause here) ones
      (All-contains_itself ones)) in
      units_among_fewer (base_ones ++ ones) (begin ++ ones) counted.units more
      (subst (λ all. AreUnits (all ++ ones) counted.units) test.clauses
      (subst (λ it. AreUnits (test.start.clauses ++ selector_clauses it tester.disjunctions)
      counted.units) test.of
      (subst
      (AreUnits (test.start.clauses ++ selector_clauses test.start.normal tester.disjunctions))
      (sym test_units) test.tested.beside)))

-- a test without a disjunction has no selectors
module _ (normal : Normal) (begin : List (List Lit)) (tester : Testing) (counted : Counted)
    (test : IsTestOf normal None begin tester counted)
    (base : IsFrontOf (base_clauses normal) begin) where
  pub plain_over : All (All (IsOver (greatest_body_var normal))) counted.units
  plain_over =
      All-weaker (All (IsOver (greatest_body_var normal + 0)))
      (All (IsOver (greatest_body_var normal)))
      (λ unit is.
      All-weaker (IsOver (greatest_body_var normal + 0)) (IsOver (greatest_body_var normal))
      (λ lit one.
      let first = one.first in
      let last = one.last in
      record { first = omega (arith, first); last = omega (arith, last) }) unit is)
      counted.units (test_over normal None begin tester counted test base)

  pub plain_entailed : All (IsEntailed normal []) counted.units
  plain_entailed k d within =
      (entailed-without_selectors normal tester.disjunctions (get_or counted.units k d)
      (plain_over k d within)).1
      (test_entailed normal None begin tester counted test base k d within)

  pub plain_spent : (literal : Option Lit) (by budget : ℕ) → length counted.units ≡ budget
      → IsSpentTest normal
      (record { literal = literal; by = by; budget = budget; units = counted.units; inside = None })
  plain_spent literal by budget all =
      record {
        all = all;
        over = plain_over;
        worth =
            record {
              units = test_are_base normal None begin tester counted test base;
              entailed = plain_entailed;
            };
      }

-- a clause that a test without disjunctions gives is local
local_kind : (normal : Normal) (clause : List Lit) → MayAdd normal [] clause → IsLocal normal clause
local_kind normal clause (inl local) = local.local
local_kind normal clause (inr here) = absurd (omega (arith, here.1))

-- a test for coherence began with the base clauses, and no disjunction came
pub coherence_grounded : (normal : Normal) (tester : Testing) (counted : Counted)
    → IsTestOf normal None (base_clauses normal) tester counted → tester.disjunctions ≡ []
    → AreRefutedWith (IsLocal normal) (base_clauses normal) counted.units
coherence_grounded normal tester counted test plain =
    let added = test.tested.added.added in
    let history = test.tested.added.history in
    subst (λ all. AreRefutedWith (IsLocal normal) all counted.units) test.clauses
    (subst (AreRefutedWith (IsLocal normal) test.start.clauses)
    (sym (ap (λ it. it.units) test.tested.added.counts))
    (refuted_of_kind (IsLocal normal) (given_clauses added) test.start.clauses
    (counted_clauses added)
    (All-weaker (MayAdd normal []) (IsLocal normal) (local_kind normal) (given_clauses added)
    (subst (λ all. All (MayAdd normal all) (given_clauses added)) plain
    (subst (λ it. All (MayAdd it tester.disjunctions) (given_clauses added)) test.of history.kind)))
    (history_is_refuted test.start.clauses added history.history)))

-- the test of a disjunction is a wide spent test
pub wide_spent : (normal : Normal) (any : List Lit) (begin : List (List Lit)) (tester : Testing)
    (counted : Counted) → IsTestOf normal (Some any) begin tester counted
    → IsFrontOf (base_clauses normal) begin → (by budget : ℕ) → length counted.units ≡ budget
    → IsWideSpentTest normal tester.disjunctions
    (record { literal = None; by = by; budget = budget; units = counted.units; inside = None })
wide_spent normal any begin tester counted test base by budget all =
    record {
      no_literal = refl;
      no_set = refl;
      all = all;
      over = test_over normal (Some any) begin tester counted test base;
      units = test_beside normal (Some any) begin tester counted test base;
      entailed = test_entailed normal (Some any) begin tester counted test base;
    }
