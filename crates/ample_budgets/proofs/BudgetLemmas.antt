-- What calls count is few.
use Rattle.std.proofs.Common.{◌≡◌, ◌≤◌, ◌<◌, ◌^◌, ◌++◌, ◌∷◌, ℕ, List, [], Option, None, Some}
use Rattle.std.proofs.Common.{length, refl, sym, ap, subst, ◌∙◌, arith, append_assoc, append-nil}
use Rattle.std.proofs.Math.Nat.{pow-le-pow_right}
use Rattle.std.proofs.lemmas.List.{append_cancel_left}
use Rattle.std.proofs.lemmas.List.Elements.{All-append, All-cons, All-contains_itself, All-nil}
use Rattle.std.proofs.lemmas.List.Elements.{All-weaker}
use Rattle.std.proofs.lemmas.List.Elements.{Contains-append_left, Contains-append_right}
use Rattle.std.specs.Prelude.{All, Contains}
use Rattle.clause_store.specs.declared.literal.Lit.{Lit}
use Rattle.clause_store.specs.Clause.{AreOver, IsOver}
use Rattle.clause_store.specs.Counted.{Counted}
use Rattle.clause_store.specs.Entailment.{AreUnits}
use Rattle.clause_store.specs.History.{Added, added_clauses, counted_clauses, given, counted}
use Rattle.clause_store.specs.Laws.{AreMoreClauses}
use Rattle.clause_store.proofs.lemmas.Units.HistoryLemmas.{history_has_units}
use Rattle.clause_store.proofs.lemmas.Units.RowLemmas.{units_are_few}
use Rattle.clause_store.proofs.lemmas.Units.UnitLemmas.{units_among_fewer, units_split}
use Rattle.normal_program.specs.declared.normal.Normal.{Normal}
use Rattle.normal_program.specs.Normal.{greatest_body_var, variables}
use Rattle.coherence_test.specs.Selectors.{IsInUse}
use Rattle.coherence_test.specs.Testing.{selectors, used_by}
use Rattle.coherence_test.specs.declared.asked.Tested.TheVariants as tested
use Rattle.ample_budgets.specs.Laws.{AskSpendsLittle, AsksCount, HaveCounted, NothingIsCounted}
use Rattle.ample_budgets.specs.Laws.{PartsSpendLittle, TestSpendsLittle, TestsCount}

-- ---- counting

pub nothing_counted : NothingIsCounted
nothing_counted vars limit base = record {
  units = tt;
  over = All-nil (All (IsOver vars));
  among =
      subst (λ all. AreMoreClauses all base) (sym (append-nil base)) (All-contains_itself base);
}

-- units beside the clauses that there are, which come, are counted too
count_more : (vars : ℕ) (base old new units : List (List Lit)) (before after : Counted)
    → HaveCounted vars base old before → AreUnits old units → AreOver vars units
    → after ≡ record before { units = before.units ++ units } → AreMoreClauses old new
    → AreMoreClauses units new → HaveCounted vars base new after
count_more vars base old new units before after have are over counts kept came =
    subst (HaveCounted vars base new) (sym counts)
    (record {
      units =
          (units_split base before.units units).1
          (have.units, units_among_fewer (base ++ before.units) old units have.among are);
      over = All-append (All (IsOver vars)) before.units units have.over over;
      among =
          subst (λ all. AreMoreClauses all new) (append_assoc base before.units units)
          (All-append (Contains new) (base ++ before.units) units
          (All-weaker (Contains old) (Contains new)
          (λ clause here. there clause here) (base ++ before.units) have.among)
          came);
    })
  where
    there : (clause : List Lit) → Contains old clause → Contains new clause
    there clause (k, within, is) = subst (Contains new) is (kept k clause within)

-- what is counted is few
few_counted : (vars : ℕ) (base clauses : List (List Lit)) (after : Counted)
    → HaveCounted vars base clauses after → length after.units ≡ after.limit
    → after.limit < 3 ^ vars
few_counted vars base clauses after have all =
    let few : length after.units < 3 ^ vars =
    units_are_few vars base after.units have.over have.units in
    omega (arith, few, all)

-- what was counted was added
counted_among : (added : List Added) → AreMoreClauses (counted_clauses added) (added_clauses added)
counted_among [] = All-nil (Contains [])
counted_among (given clause ∷ rest) =
    All-weaker (Contains (added_clauses rest)) (Contains (clause ∷ added_clauses rest))
    (λ one here. Contains-append_right (clause ∷ []) (added_clauses rest) one here)
    (counted_clauses rest) (counted_among rest)
counted_among (counted clause ∷ rest) =
    All-cons (Contains (clause ∷ added_clauses rest)) clause (counted_clauses rest)
    (0, omega arith, refl)
    (All-weaker (Contains (added_clauses rest)) (Contains (clause ∷ added_clauses rest))
    (λ one here. Contains-append_right (clause ∷ []) (added_clauses rest) one here)
    (counted_clauses rest) (counted_among rest))

module _ (old new : List (List Lit)) (added : List Added)
    (is : new ≡ old ++ added_clauses added) where
  still_there : AreMoreClauses old new
  still_there =
      subst (AreMoreClauses old) (sym is)
      (All-weaker (Contains old) (Contains (old ++ added_clauses added))
      (λ one here. Contains-append_left old (added_clauses added) one here) old
      (All-contains_itself old))

  counted_there : AreMoreClauses (counted_clauses added) new
  counted_there =
      subst (AreMoreClauses (counted_clauses added)) (sym is)
      (All-weaker (Contains (added_clauses added)) (Contains (old ++ added_clauses added))
      (λ one here. Contains-append_right old (added_clauses added) one here)
      (counted_clauses added) (counted_among added))

-- ---- an engine

pub asks_count : AsksCount
asks_count vars base old new added before after is counts history over have =
    let there = counted_there old new added is in
    count_more vars base old new (counted_clauses added) before after have
    (history_has_units old added history)
    (All-weaker (Contains new) (All (IsOver vars))
    (λ clause (k, within, is). subst (All (IsOver vars)) is (over k clause within))
    (counted_clauses added) there)
    counts (still_there old new added is) there

pub ask_spends_little : AskSpendsLittle
ask_spends_little vars stop base clauses after all have =
    few_counted vars base clauses after have all

-- ---- a tester

-- a variable of an atom, of a body or of a selector in use is a variable
in_use_over : (normal : Normal) (used : ℕ) (units : List (List Lit)) → used ≤ selectors normal
    → All (All (IsInUse normal used)) units → AreOver (variables normal) units
in_use_over normal used units few in_use =
    All-weaker (All (IsInUse normal used)) (All (IsOver (variables normal)))
    (λ unit all.
    All-weaker (IsInUse normal used) (IsOver (variables normal))
    (λ lit one. let last = one.over.last in
    record { first = one.over.first; last = omega (arith, last, few) }) unit all)
    units in_use

used_few : (any : Option (List Lit)) (disjunctions : List (List Lit))
    → used_by any disjunctions ≤ length disjunctions
used_few None disjunctions = omega arith
used_few (Some any) disjunctions = omega arith

pub tests_count : TestsCount
tests_count normal any disjunctions base old new before after added units few have =
    let both : before.units ++ units.units ≡ before.units ++ counted_clauses added.added =
    ap (λ it. it.units) (sym units.counts ∙ added.counts) in
    let same : units.units ≡ counted_clauses added.added =
    append_cancel_left before.units units.units (counted_clauses added.added) both in
    let used : used_by any disjunctions ≤ length disjunctions = used_few any disjunctions in
    count_more (variables normal) base old new units.units before after have units.are
    (in_use_over normal (used_by any disjunctions) units.units (omega (arith, used, few))
    units.in_use)
    units.counts (still_there old new added.added added.clauses)
    (subst (λ all. AreMoreClauses all new) (sym same)
    (counted_there old new added.added added.clauses))

-- fewer variables make a smaller power
pub power_grows : (few many : ℕ) → few ≤ many → 3 ^ few ≤ 3 ^ many
power_grows few many less = pow-le-pow_right (omega arith) less

-- units over atoms and bodies are few
pub inner_few : (normal : Normal) (base units : List (List Lit))
    → AreOver (greatest_body_var normal) units → AreUnits base units
    → length units < 3 ^ variables normal
inner_few normal base units over are =
    let few : length units < 3 ^ greatest_body_var normal =
    units_are_few (greatest_body_var normal) base units over are in
    let more : 3 ^ greatest_body_var normal ≤ 3 ^ variables normal =
    power_grows (greatest_body_var normal) (variables normal) (omega arith) in
    omega (arith, few, more)

pub test_spends_little : TestSpendsLittle
test_spends_little normal asked stop base clauses after tested.Spent says is at have =
    few_counted (variables normal) base clauses after have at
test_spends_little normal asked stop base clauses after (tested.SpentInside set units) says is at
    have =
    let few : length units < 3 ^ variables normal =
    inner_few normal _ units is.within.units_over is.within.are_units in
    let all : length units ≡ after.limit = at.1 in omega (arith, few, all)
test_spends_little normal asked stop base clauses after _ says is at have = absurd says

-- ---- the parts of a set

pub parts_spend_little : PartsSpendLittle
parts_spend_little normal set before after answered within =
    let few : length after.units < 3 ^ variables normal =
    inner_few normal _ after.units within.over within.units in
    let all : length after.units ≡ after.limit = answered in
    let limit : after.limit ≡ before.limit = within.limit in omega (arith, few, all, limit)
