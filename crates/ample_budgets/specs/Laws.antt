-- Laws of budgets, over what the calls of lower crates ensure. Each is a clause of a function in
-- src/laws.rt.
use Rattle.std.specs.Prelude.{◌≡◌, ◌≤◌, ◌<◌, ◌^◌, ◌++◌, ℕ, Bool, List, [], Option, length, ⊤}
use Rattle.clause_store.specs.declared.literal.Lit.{Lit}
use Rattle.clause_store.specs.Clause.{AreOver}
use Rattle.clause_store.specs.Counted.{Counted}
use Rattle.clause_store.specs.Entailment.{AreUnits}
use Rattle.clause_store.specs.History.{Added, IsHistory, added_clauses, counted_clauses}
use Rattle.clause_store.specs.Laws.{AreMoreClauses}
use Rattle.normal_program.specs.declared.normal.Normal.{Normal}
use Rattle.normal_program.specs.Normal.{variables}
use Rattle.assumption_engine.specs.Answer.{IsCountedRight}
use Rattle.assumption_engine.specs.declared.answer.Answer.TheVariants as answers
use Rattle.minimality_test.specs.Minimality.{HasAnswered, HasCountedWithin}
use Rattle.minimality_test.specs.declared.answer.Minimality.TheVariants as parts
use Rattle.coherence_test.specs.Asked.{IsTested, IsTestedAt}
use Rattle.coherence_test.specs.Testing.{HasAdded, HasCountedUnits, selectors, used_by}
use Rattle.coherence_test.specs.declared.asked.Asked.{Asked}
use Rattle.coherence_test.specs.declared.asked.Tested.{Tested}
use Rattle.coherence_test.specs.declared.asked.Tested.TheVariants.{Spent, SpentInside}
use Rattle.worker_jobs.specs.declared.job.Job.{Job}
use Rattle.worker_jobs.specs.declared.gain.Gain.{Gain}
use Rattle.worker_jobs.specs.declared.gain.RoundEnd.{RoundEnd}
use Rattle.worker_jobs.specs.declared.gain.RoundEnd.TheVariants as ends
use Rattle.worker_strategies.specs.Working.{HasRounded, HasSelectorFor, Working}

-- what the calls on one engine or tester alone have counted: units over the clauses `base` with
-- which it began and over so many variables, all of which stand among its clauses
pub record HaveCounted (vars : ℕ) (base clauses : List (List Lit)) (counted : Counted) :
    Type 0 where
  pub units : AreUnits base counted.units
  pub over : AreOver vars counted.units
  pub among : AreMoreClauses (base ++ counted.units) clauses

-- at first nothing was counted
abbrev pub NothingIsCounted : Type 0
NothingIsCounted =
    (vars limit : ℕ) (base : List (List Lit))
    → HaveCounted vars base base (record { limit = limit; units = [] })

-- ---- a question to an engine, whose clauses are over its variables

-- what came and what of it was counted, as its clause `on` says
abbrev pub AsksCount : Type 0
AsksCount =
    (vars : ℕ) (base old new : List (List Lit)) (added : List Added) (before after : Counted)
    → new ≡ old ++ added_clauses added
    → after ≡ record before { units = before.units ++ counted_clauses added }
    → IsHistory old added → AreOver vars new → HaveCounted vars base old before
    → HaveCounted vars base new after

-- how many were counted where the answer Spent comes, as its clause `answer` says
abbrev pub AskSpendsLittle : Type 0
AskSpendsLittle =
    (vars stop : ℕ) (base clauses : List (List Lit)) (after : Counted)
    → IsCountedRight stop after answers.Spent → HaveCounted vars base clauses after
    → after.limit < 3 ^ vars

-- ---- a test by a tester

abbrev pub TestsCount : Type 0
TestsCount =
    (normal : Normal) (any : Option (List Lit)) (disjunctions base old new : List (List Lit))
    (before after : Counted) → HasAdded normal disjunctions old new before after
    → HasCountedUnits normal disjunctions old (used_by any disjunctions) before after
    → length disjunctions ≤ selectors normal
    → HaveCounted (variables normal) base old before
    → HaveCounted (variables normal) base new after

-- the answers that say that a budget was spent
abbrev pub SaysSpent : Tested → Type 0
SaysSpent Spent = ⊤
SaysSpent (SpentInside set units) = ⊤
SaysSpent _ = ⊥

abbrev pub TestSpendsLittle : Type 0
TestSpendsLittle =
    (normal : Normal) (asked : Asked) (stop : ℕ) (base clauses : List (List Lit))
    (after : Counted) (tested : Tested) → SaysSpent tested → IsTested normal asked tested
    → IsTestedAt stop after tested → HaveCounted (variables normal) base clauses after
    → after.limit < 3 ^ variables normal

-- ---- the test whether a set is minimal, whose budget is its own

abbrev pub PartsSpendLittle : Type 0
PartsSpendLittle =
    (normal : Normal) (set : List Bool) (before after : Counted)
    → HasAnswered normal set after parts.Spent → HasCountedWithin normal set before after
    → before.limit < 3 ^ variables normal

-- ---- a round of a worker

-- the ends of a round that hand out a spent test
abbrev pub EndsSpent : RoundEnd → Type 0
EndsSpent (ends.Spent test) = ⊤
EndsSpent (ends.SpentWide test) = ⊤
EndsSpent _ = ⊥

-- there are no more disjunctions than selectors
abbrev pub HasRoom : Working → Type 0
HasRoom worker = length worker.disjunctions ≤ selectors worker.normal

-- a worker that was opened has none, and a round leaves it so
abbrev pub RoundsKeepSelectors : Type 0
RoundsKeepSelectors =
    (old new : Working) (job : Job) (slice : ℕ) (gain : Gain) → HasRoom old
    → HasSelectorFor old job → HasRounded old job slice new gain → HasRoom new

abbrev pub RoundSpendsLittle : Type 0
RoundSpendsLittle =
    (old new : Working) (job : Job) (slice : ℕ) (gain : Gain) → HasRoom new
    → HasRounded old job slice new gain → EndsSpent gain.ended
    → old.budget < 3 ^ variables old.normal
