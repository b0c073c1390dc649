-- Histories of a store: their units, what these rest on, and histories one after another.
use Rattle.std.proofs.Common.{Bool, List, [], ◌∷◌, ◌++◌, refl, sym, ap, subst}
use Rattle.std.proofs.Common.{inl, inr, append_assoc}
use Rattle.std.proofs.lemmas.List.{append-nil}
use Rattle.std.proofs.lemmas.List.Elements.{All-nil, All-head, All-tail}
use Rattle.std.proofs.lemmas.List.Elements.{All-push, All-weaker, All-contains_itself}
use Rattle.std.proofs.lemmas.List.Elements.{Contains-append_left, Contains-append_right}
use Rattle.std.proofs.lemmas.List.Elements.{Contains-append_cases, Contains-push}
use Rattle.std.specs.Prelude.{All, Contains}
use Rattle.clause_store.specs.declared.literal.Lit.{Lit}
use Rattle.clause_store.specs.Clause.{HoldsIn, Meets}
use Rattle.clause_store.specs.Entailment.{AreUnits, negations}
use Rattle.clause_store.specs.Laws.{AreMoreClauses}
use Rattle.clause_store.specs.History.{Added, given, counted, IsHistory, IsHistoryOf}
use Rattle.clause_store.specs.History.{added_clauses, counted_clauses, given_clauses}
use Rattle.clause_store.specs.History.{AreRefutedWith}
use Rattle.clause_store.specs.HistoryLaws.{HistoryHasUnits, HistoryIsRefuted, HistoryHolds}
use Rattle.clause_store.specs.HistoryLaws.{HistoriesCompose, HistoriesAdd, HistoryTakesGiven}
use Rattle.clause_store.specs.HistoryLaws.{HistoryTakesCounted}
use Rattle.clause_store.proofs.EntailmentLemmas.{refuting_grows, refuted_follows}
use Rattle.clause_store.proofs.LiteralLemmas.{all_through}
use Rattle.clause_store.proofs.lemmas.Units.UnitLemmas.{unit_among_fewer, more_clauses_push}

-- ---- units

-- one clause more on one side
more_clauses_one : (fewer more : List (List Lit)) (clause : List Lit)
    → AreMoreClauses fewer more → AreMoreClauses fewer (more ++ clause ∷ [])
more_clauses_one fewer more clause clauses =
    All-weaker (Contains more) (Contains (more ++ clause ∷ []))
    (λ one here. Contains-append_left more (clause ∷ []) one here) fewer clauses

units_within : (base before : List (List Lit)) (added : List Added) → AreMoreClauses base before
    → IsHistory before added → AreUnits base (counted_clauses added)
units_within base before [] more is = tt
units_within base before (given clause ∷ rest) more is =
    units_within base (before ++ clause ∷ []) rest (more_clauses_one base before clause more) is
units_within base before (counted clause ∷ rest) more is = (
  unit_among_fewer base before clause more is.0.unit,
  units_within (base ++ clause ∷ []) (before ++ clause ∷ []) rest
      (more_clauses_push base before clause more) is.1,
)

pub history_has_units : HistoryHasUnits
history_has_units before added is =
    units_within before before added (All-contains_itself before) is

-- ---- what the units rest on

-- a clause more among those in front
in_front_push : (base seen : List (List Lit)) (clause one : List Lit) → Contains (base ++ seen) one
    → Contains ((base ++ clause ∷ []) ++ seen) one
in_front_push base seen clause one here =
    elim (Contains-append_cases base seen one here) [
      | inl there ↦
          Contains-append_left (base ++ clause ∷ []) seen one
          (Contains-append_left base (clause ∷ []) one there)
      | inr there ↦ Contains-append_right (base ++ clause ∷ []) seen one there
    ]

counted_one_more : (base seen before : List (List Lit)) (clause : List Lit)
    → AreMoreClauses before (base ++ seen)
    → AreMoreClauses (before ++ clause ∷ []) ((base ++ clause ∷ []) ++ seen)
counted_one_more base seen before clause more =
    All-push (Contains ((base ++ clause ∷ []) ++ seen)) before clause
    (All-weaker (Contains (base ++ seen)) (Contains ((base ++ clause ∷ []) ++ seen))
    (in_front_push base seen clause) before more)
    (Contains-append_left (base ++ clause ∷ []) seen clause (Contains-push base clause))

given_one_more : (base seen before : List (List Lit)) (clause : List Lit)
    → AreMoreClauses before (base ++ seen)
    → AreMoreClauses (before ++ clause ∷ []) (base ++ (seen ++ clause ∷ []))
given_one_more base seen before clause more =
    subst (AreMoreClauses (before ++ clause ∷ [])) (append_assoc base seen (clause ∷ []))
    (more_clauses_push before (base ++ seen) clause more)

refuted_within : (all base seen before : List (List Lit)) (added : List Added)
    → AreMoreClauses before (base ++ seen) → All (Contains all) seen
    → All (Contains all) (given_clauses added) → IsHistory before added
    → AreRefutedWith (Contains all) base (counted_clauses added)
refuted_within all base seen before [] more known later is = tt
refuted_within all base seen before (given clause ∷ rest) more known later is =
    refuted_within all base (seen ++ clause ∷ []) (before ++ clause ∷ []) rest
    (given_one_more base seen before clause more)
    (All-push (Contains all) seen clause known
    (All-head (Contains all) clause (given_clauses rest) later))
    (All-tail (Contains all) clause (given_clauses rest) later) is
refuted_within all base seen before (counted clause ∷ rest) more known later is = (
  (
    seen,
    known,
    refuting_grows before (base ++ seen) (negations clause) (negations clause) more
        (All-contains_itself (negations clause)) is.0.refuted,
  ),
  refuted_within all (base ++ clause ∷ []) seen (before ++ clause ∷ []) rest
      (counted_one_more base seen before clause more) known later is.1,
)

pub history_is_refuted : HistoryIsRefuted
history_is_refuted before added is =
    refuted_within (given_clauses added) before [] before added
    (subst (AreMoreClauses before) (sym (append-nil before)) (All-contains_itself before))
    (All-nil (Contains (given_clauses added))) (All-contains_itself (given_clauses added)) is

-- what is refuted with clauses of a list is refuted with clauses of a kind that all of these are
-- of: so the units of a history are refuted with clauses of the kind that it gives
pub refuted_of_kind : (IsKind : List Lit → Type 0) (given_ones clauses units : List (List Lit))
    → All IsKind given_ones → AreRefutedWith (Contains given_ones) clauses units
    → AreRefutedWith IsKind clauses units
refuted_of_kind IsKind given_ones clauses [] kind are = tt
refuted_of_kind IsKind given_ones clauses (unit ∷ rest) kind are = (
  (are.0.0, all_through IsKind are.0.0 given_ones are.0.1 kind, are.0.2),
  refuted_of_kind IsKind given_ones (clauses ++ unit ∷ []) rest kind are.1,
)

-- the units of a history that gives clauses of a kind are refuted with clauses of that kind
pub history_is_refuted_by : (IsKind : List Lit → Type 0) (before : List (List Lit))
    (added : List Added) → IsHistoryOf IsKind before added
    → AreRefutedWith IsKind before (counted_clauses added)
history_is_refuted_by IsKind before added is =
    refuted_of_kind IsKind (given_clauses added) before (counted_clauses added) is.kind
    (history_is_refuted before added is.history)

-- ---- models

holds_next : (values : List Bool) (before : List (List Lit)) (clause : List Lit)
    (rest : List (List Lit)) → Meets values ((before ++ clause ∷ []) ++ rest)
    → Meets values (before ++ clause ∷ rest)
holds_next values before clause rest meets =
    subst (Meets values) (append_assoc before (clause ∷ []) rest) meets

pub history_holds : HistoryHolds
history_holds values before [] is meets given_meet =
    subst (Meets values) (sym (append-nil before)) meets
history_holds values before (given clause ∷ rest) is meets given_meet =
    holds_next values before clause (added_clauses rest)
    (history_holds values (before ++ clause ∷ []) rest is
    (All-push (HoldsIn values) before clause meets
    (All-head (HoldsIn values) clause (given_clauses rest) given_meet))
    (All-tail (HoldsIn values) clause (given_clauses rest) given_meet))
history_holds values before (counted clause ∷ rest) is meets given_meet =
    holds_next values before clause (added_clauses rest)
    (history_holds values (before ++ clause ∷ []) rest is.1
    (All-push (HoldsIn values) before clause meets
    (refuted_follows before clause is.0.refuted values meets)) given_meet)

-- ---- one after another

next_before : (before first : List (List Lit)) (clause : List Lit) (second : List Added)
    → IsHistory ((before ++ clause ∷ []) ++ first) second
    → IsHistory (before ++ clause ∷ first) second
next_before before first clause second =
    subst (λ clauses. IsHistory clauses second) (append_assoc before (clause ∷ []) first)

before_next : (before first : List (List Lit)) (clause : List Lit) (second : List Added)
    → IsHistory (before ++ clause ∷ first) second
    → IsHistory ((before ++ clause ∷ []) ++ first) second
before_next before first clause second =
    subst (λ clauses. IsHistory clauses second) (sym (append_assoc before (clause ∷ []) first))

pub histories_compose : HistoriesCompose
histories_compose before [] second = (
  λ is. (tt, subst (λ b. IsHistory b second) (sym (append-nil before)) is),
  λ is. subst (λ b. IsHistory b second) (append-nil before) is.1,
)
histories_compose before (given clause ∷ rest) second =
    let later = histories_compose (before ++ clause ∷ []) rest second in (
      λ is. let parts = later.0 is in (
        parts.0,
        next_before before (added_clauses rest) clause second parts.1,
      ),
      λ is. later.1 (is.0, before_next before (added_clauses rest) clause second is.1),
    )
histories_compose before (counted clause ∷ rest) second =
    let later = histories_compose (before ++ clause ∷ []) rest second in (
      λ is. let parts = later.0 is.1 in (
        (is.0, parts.0),
        next_before before (added_clauses rest) clause second parts.1,
      ),
      λ is. (
        is.0.0,
        later.1 (is.0.1, before_next before (added_clauses rest) clause second is.1),
      ),
    )

pub histories_add : HistoriesAdd
histories_add [] second = record { added_is = refl; counted_is = refl; given_is = refl }
histories_add (given clause ∷ rest) second =
    let later = histories_add rest second in
    record {
      added_is = ap (λ all. clause ∷ all) later.added_is;
      counted_is = later.counted_is;
      given_is = ap (λ all. clause ∷ all) later.given_is;
    }
histories_add (counted clause ∷ rest) second =
    let later = histories_add rest second in
    record {
      added_is = ap (λ all. clause ∷ all) later.added_is;
      counted_is = ap (λ all. clause ∷ all) later.counted_is;
      given_is = later.given_is;
    }

pub history_takes_given : HistoryTakesGiven
history_takes_given before added clause is =
    (histories_compose before added (given clause ∷ [])).1 (is, tt)

pub history_takes_counted : HistoryTakesCounted
history_takes_counted before added clause is new =
    (histories_compose before added (counted clause ∷ [])).1 (is, (new, tt))
