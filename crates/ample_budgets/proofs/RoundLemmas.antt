-- A round spends little.
use Rattle.std.proofs.Common.{◌≡◌, ◌≤◌, ◌<◌, ◌+◌, ◌^◌, ◌++◌, ◌∷◌, ℕ, Bool, List, [], Option, None}
use Rattle.std.proofs.Common.{Some, length, sym, subst, arith, inl, inr, length-append}
use Rattle.std.specs.Prelude.{Contains, IfSome, MatchOption, ◌⊎◌}
use Rattle.clause_store.specs.declared.literal.Lit.{Lit}
use Rattle.clause_store.specs.Entailment.{AreUnits}
use Rattle.clause_store.proofs.lemmas.Units.RowLemmas.{units_are_few}
use Rattle.normal_program.specs.declared.normal.Normal.{Normal}
use Rattle.normal_program.specs.declared.spent.SpentTest.{SpentTest}
use Rattle.normal_program.specs.Clauses.{base_clauses}
use Rattle.normal_program.specs.Normal.{greatest_body_var, variables}
use Rattle.normal_program.specs.Spent.{AreUnitsOfTest, AreUnitsWithin, IsSpentTest, IsWideSpentTest}
use Rattle.normal_program.specs.Spent.{inner_clauses, selector_clauses}
use Rattle.ground_program.specs.declared.program.Mode.{Mode}
use Rattle.coherence_test.specs.Selectors.{AreUsed}
use Rattle.coherence_test.specs.Testing.{selectors}
use Rattle.worker_jobs.specs.declared.job.Job.{Job}
use Rattle.worker_jobs.specs.declared.job.Job.TheVariants.{Idle, Coherence, Single, Reduce, Chunk}
use Rattle.worker_jobs.specs.declared.gain.RoundEnd.{RoundEnd}
use Rattle.worker_jobs.specs.declared.gain.RoundEnd.TheVariants.{Spent, SpentWide}
use Rattle.worker_jobs.specs.Spent.{IsSpentBy, IsSpentIn, IsSpentWideIn}
use Rattle.worker_strategies.specs.Disjunction.{disjunction_for}
use Rattle.worker_strategies.specs.Working.{EndsBy}
use Rattle.ample_budgets.specs.Laws.{EndsSpent, RoundSpendsLittle, RoundsKeepSelectors}
use Rattle.ample_budgets.proofs.BudgetLemmas.{inner_few, power_grows}

-- ---- selectors

used_within : (most : ℕ) (before after : List (List Lit)) (any : Option (List Lit))
    → length before ≤ most
    → IfSome any (λ one. Contains before one ⊎ (length before < most))
    → AreUsed before any after → length after ≤ most
used_within most before after None few room used =
    subst (λ all. length all ≤ most) (sym used) few
used_within most before after (Some any) few room (inl (here, same)) =
    subst (λ all. length all ≤ most) (sym same) few
used_within most before after (Some any) few (inl here) (inr (new, last)) = absurd (new here)
used_within most before after (Some any) few (inr less) (inr (new, last)) =
    subst (λ all. length all ≤ most) (sym last)
    (let long = length-append before (any ∷ []) in omega (arith, long, less))

pub rounds_keep_selectors : RoundsKeepSelectors
rounds_keep_selectors old new job slice gain few room round =
    subst (λ (n : Normal). length new.disjunctions ≤ selectors n) (sym round.same.normal)
    (used_within (selectors old.normal) old.disjunctions new.disjunctions
    (disjunction_for old.normal.names old.mode job) few room round.uses)

-- ---- spent tests

spent_few : (normal : Normal) (test : SpentTest) → IsSpentTest normal test
    → test.budget < 3 ^ variables normal
spent_few normal test spent = by_set test.inside spent.worth
  where
    few : (base : List (List Lit)) → AreUnits base test.units
        → test.budget < 3 ^ variables normal
    few base are =
        let less : length test.units < 3 ^ variables normal =
        inner_few normal base test.units spent.over are in
        let all : length test.units ≡ test.budget = spent.all in omega (arith, less, all)

    by_set : (inside : Option (List Bool))
        → MatchOption inside (AreUnitsOfTest normal test) (AreUnitsWithin normal test)
        → test.budget < 3 ^ variables normal
    by_set None own = few (base_clauses normal) own.units
    by_set (Some set) within = few (inner_clauses normal set) within.units

wide_few : (normal : Normal) (disjunctions : List (List Lit)) (test : SpentTest)
    → length disjunctions ≤ selectors normal → IsWideSpentTest normal disjunctions test
    → test.budget < 3 ^ variables normal
wide_few normal disjunctions test room spent =
    let less : length test.units < 3 ^ (greatest_body_var normal + length disjunctions) =
    units_are_few (greatest_body_var normal + length disjunctions)
    (base_clauses normal ++ selector_clauses normal disjunctions) test.units spent.over spent.units
    in
    let more : 3 ^ (greatest_body_var normal + length disjunctions) ≤ 3 ^ variables normal =
    power_grows (greatest_body_var normal + length disjunctions) (variables normal)
    (omega (arith, room)) in
    let all : length test.units ≡ test.budget = spent.all in omega (arith, less, more, all)

module _ (normal : Normal) (number budget : ℕ) (test : SpentTest) where
  by_few : (literal : Option Lit) → IsSpentBy normal number budget literal test
      → budget < 3 ^ variables normal
  by_few literal by =
      subst (λ n. n < 3 ^ variables normal) by.marked.budget (spent_few normal test by.spent)

  own_few : (mode : Mode) (job : Job) → IsSpentIn normal mode number budget job test
      → budget < 3 ^ variables normal
  own_few mode Idle spent = absurd spent
  own_few mode Coherence spent = by_few None spent.spent
  own_few mode (Single cand) spent = by_few _ spent
  own_few mode (Reduce cands) spent = absurd spent
  own_few mode (Chunk cands) spent = absurd spent

  several_few : (disjunctions : List (List Lit)) (job : Job)
      → length disjunctions ≤ selectors normal
      → IsSpentWideIn normal disjunctions number budget job test
      → budget < 3 ^ variables normal
  several_few disjunctions Idle room spent = absurd spent
  several_few disjunctions Coherence room spent = absurd spent
  several_few disjunctions (Single cand) room spent = absurd spent
  several_few disjunctions (Reduce cands) room spent =
      subst (λ n. n < 3 ^ variables normal) spent.marked.budget (either test.inside spent.spent)
    where
      either : (inside : Option (List Bool))
          → MatchOption inside (IsWideSpentTest normal disjunctions test)
          (λ set. IsSpentTest normal test)
          → test.budget < 3 ^ variables normal
      either None wide = wide_few normal disjunctions test room wide
      either (Some set) within = spent_few normal test within
  several_few disjunctions (Chunk cands) room spent = by_few None spent

pub round_spends_little : RoundSpendsLittle
round_spends_little old new job slice gain room round says = at gain.ended says round.ends
  where
    at : (end : RoundEnd) → EndsSpent end → EndsBy old job slice new gain end
        → old.budget < 3 ^ variables old.normal
    at (Spent test) says ends =
        own_few old.normal old.number old.budget test old.mode job ends.spent
    at (SpentWide test) says ends =
        several_few old.normal old.number old.budget test new.disjunctions job
        (subst (λ (n : Normal). length new.disjunctions ≤ selectors n) round.same.normal room)
        ends.spent
    at _ says ends = absurd says
