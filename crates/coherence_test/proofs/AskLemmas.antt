-- What an engine's question adds to the clauses, and counts, in the words of a tester.
use Rattle.std.proofs.Common.{◌≡◌, ◌+◌, ◌%◌, ◌⊎◌, ℕ, true, List, [], ◌∷◌}
use Rattle.std.proofs.Common.{◌≢◌, get_or, sym, subst, arith, inl, inr}
use Rattle.std.specs.Prelude.{All, Contains}
use Rattle.std.proofs.lemmas.Bool.{cases_eq, cases_lt, cases_Bool, eqb-true, eqb-false}
use Rattle.std.proofs.lemmas.List.Elements.{All-nil, All-cons, All-head, All-tail, All-weaker}
use Rattle.std.proofs.lemmas.List.Elements.{All-append, All-contains, All-contains_itself}
use Rattle.clause_store.specs.declared.literal.Lit.{Lit}
use Rattle.clause_store.specs.Clause.{AreOver, IsOver, is_negated, variable}
use Rattle.clause_store.specs.Counted.{Counted}
use Rattle.clause_store.specs.History.{Added, given, counted, added_clauses, counted_clauses}
use Rattle.clause_store.specs.History.{given_clauses}
use Rattle.clause_store.proofs.LiteralLemmas.{lit_of_code}
use Rattle.normal_program.specs.declared.normal.Normal.{Normal}
use Rattle.normal_program.specs.Normal.{greatest_body_var}
use Rattle.normal_program.specs.Clauses.{negative}
use Rattle.search_state.specs.State.{Searched}
use Rattle.assumption_engine.specs.Engine.{GoesOn, HasCounted, IsModelOf}
use Rattle.assumption_engine.specs.Sided.{AreAsAssumed, positive}
use Rattle.assumption_engine.specs.Theory.{MeansTheSame}
use Rattle.assumption_engine.proofs.SidedLemmas.{sided_same}
use Rattle.coherence_test.specs.AnswerSets.{answer_sets}
use Rattle.normal_program.specs.Spent.{selector_clauses}
use Rattle.coherence_test.specs.Selectors.{IsInUse, MayAdd}
use Rattle.coherence_test.specs.Testing.{HasAdded, HasCountedUnits}
use Rattle.coherence_test.proofs.SelectorLemmas.{all_entailed, behind_is_sided, over_in_use}
use Rattle.coherence_test.proofs.SelectorLemmas.{IsBehind}

-- ---- variables of what was counted

-- a literal denies its variable, or is the variable
sides : (lit : Lit)
    → ((is_negated lit ≡ true) × (lit ≡ negative (variable lit))) ⊎ (lit ≡ positive (variable lit))
sides lit =
    elim (cases_Bool (is_negated lit)) [
      | inl odd ↦
          let e : lit.0 % 2 ≡ 1 = eqb-true (lit.0 % 2) 1 odd in
          inl (odd, lit_of_code lit (negative (variable lit)) (omega (arith, e)))
      | inr even ↦
          let e : lit.0 % 2 ≢ 1 = eqb-false (lit.0 % 2) 1 even in
          inr (lit_of_code lit (positive (variable lit)) (omega (arith, e)))
    ]

-- a variable is that of an atom or a body, or behind them
within_or_behind : (normal : Normal) (lit : Lit)
    → IsOver (greatest_body_var normal) lit ⊎ IsBehind normal (variable lit)
within_or_behind normal lit =
    elim (cases_eq (variable lit) 0) [
      | inl zero ↦ inr (inl zero)
      | inr some ↦
          elim (cases_lt (greatest_body_var normal) (variable lit)) [
            | inl high ↦ inr (inr high)
            | inr low ↦
                inl (record { first = omega (arith, some); last = omega (arith, low) })
          ]
    ]

module _ (normal theory : Normal) (total used : ℕ) (clauses : List (List Lit))
    (assumed unit : List Lit)
    (same : MeansTheSame (answer_sets normal) (answer_sets theory))
    (in_use : All (All (IsInUse normal total)) clauses)
    (over : All (IsOver (greatest_body_var normal + used)) assumed)
    (sided : AreAsAssumed (answer_sets theory).may_give clauses assumed unit) where
  lit_behind : (lit : Lit) → Contains unit lit → IsBehind normal (variable lit)
      → IsInUse normal used lit
  lit_behind lit here behind =
      let is =
      sided (variable lit)
      (sided_same (answer_sets normal) (answer_sets theory) clauses (variable lit) same
      (behind_is_sided normal total clauses (variable lit) in_use behind)) in
      elim (sides lit) [
        | inl denied ↦
            let there = is.assumed_so (subst (Contains unit) denied.1 here) in
            let low =
            All-contains (IsOver (greatest_body_var normal + used)) assumed
            (positive (variable lit)) over there in
            let first = low.first in
            let last = low.last in
            record {
              over = record { first = omega (arith, first); last = omega (arith, last) };
              denied = λ high. denied.0;
            }
        | inr plain ↦ absurd (is.negated (subst (Contains unit) plain here))
      ]

  -- a counted clause has of selectors only the negations of those that are assumed
  pub unit_in_use : All (IsInUse normal used) unit
  unit_in_use k d within =
      let lit = get_or unit k d in
      elim (within_or_behind normal lit) [
        | inl low ↦ over_in_use normal used lit low
        | inr behind ↦ lit_behind lit (All-contains_itself unit k d within) behind
      ]

-- what is true of the given and of the counted clauses is true of all that were added
pub added_all : (P : List Lit → Type 0) (added : List Added) → All P (given_clauses added)
    → All P (counted_clauses added) → All P (added_clauses added)
added_all P [] one two = All-nil P
added_all P (given clause ∷ rest) one two =
    All-cons P clause (added_clauses rest) (All-head P clause (given_clauses rest) one)
    (added_all P rest (All-tail P clause (given_clauses rest) one) two)
added_all P (counted clause ∷ rest) one two =
    All-cons P clause (added_clauses rest) (All-head P clause (counted_clauses rest) two)
    (added_all P rest one (All-tail P clause (counted_clauses rest) two))

-- ---- what was added

module _ (normal theory : Normal) (disjunctions : List (List Lit)) (assumed : List Lit)
    (old new : Searched) (before after : Counted)
    (same : MeansTheSame (answer_sets normal) (answer_sets theory))
    (on : GoesOn (answer_sets theory) assumed old new before after) where
  pub asked_added : HasAdded normal disjunctions old.clauses new.clauses before after
  asked_added =
      record {
        added = on.added;
        clauses = on.clauses;
        counts = on.counts;
        history =
            record {
              history = on.history.history;
              kind =
                  All-weaker (answer_sets theory).may_give (MayAdd normal disjunctions)
                  (λ clause is. inl ((same.may_give clause).1 is)) (given_clauses on.added)
                  on.history.kind;
            };
      }

  -- the selectors in use stay those that stand in clauses, and stand there negated
  pub asked_in_use : (total : ℕ) → All (All (IsInUse normal total)) old.clauses
      → All (IsOver (greatest_body_var normal + total)) assumed
      → All (All (IsInUse normal total)) new.clauses
  asked_in_use total in_use over =
      subst (All (All (IsInUse normal total))) (sym on.clauses)
      (All-append (All (IsInUse normal total)) old.clauses (added_clauses on.added) in_use
      (added_all (All (IsInUse normal total)) on.added
      (All-weaker (answer_sets theory).may_give (All (IsInUse normal total))
      (λ clause is.
      All-weaker (IsOver (greatest_body_var normal)) (IsInUse normal total)
      (over_in_use normal total) clause ((same.may_give clause).1 is).over)
      (given_clauses on.added) on.history.kind)
      (All-weaker (AreAsAssumed (answer_sets theory).may_give old.clauses assumed)
      (All (IsInUse normal total))
      (λ unit sided.
      unit_in_use normal theory total total old.clauses assumed unit same in_use over sided)
      (counted_clauses on.added) on.as_assumed)))

-- what was counted
pub asked_counted : (normal theory : Normal) (total used : ℕ)
    (disjunctions clauses defined : List (List Lit)) (assumed : List Lit)
    (before after : Counted) → MeansTheSame (answer_sets normal) (answer_sets theory)
    → All (All (IsInUse normal total)) clauses
    → AreOver (greatest_body_var normal) disjunctions
    → defined ≡ selector_clauses normal disjunctions
    → All (IsOver (greatest_body_var normal + used)) assumed
    → HasCounted (answer_sets theory) assumed defined clauses before after
    → HasCountedUnits normal disjunctions clauses used before after
asked_counted normal theory total used disjunctions clauses defined assumed before after same in_use
    are_over is over has =
    record {
      units = has.units;
      counts = has.counts;
      are = has.are;
      entailed =
          all_entailed normal theory disjunctions has.units same are_over
          (λ values model.
          has.hold values
          (subst (λ all. IsModelOf (answer_sets theory) all values) (sym is) model));
      in_use =
          All-weaker (AreAsAssumed (answer_sets theory).may_give clauses assumed)
          (All (IsInUse normal used))
          (λ unit sided.
          unit_in_use normal theory total used clauses assumed unit same in_use over sided)
          has.units
          has.sided;
    }
