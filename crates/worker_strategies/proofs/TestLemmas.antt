-- How a test goes on, and what its units are.
use Rattle.std.proofs.Common.{◌≡◌, ◌∙◌, List, [], ◌∷◌, ◌++◌, length}
use Rattle.std.proofs.Common.{refl, sym, ap, subst, inl, inr, arith, Some, None, Option}
use Rattle.std.proofs.Common.{append_assoc, append-nil, take}
use Rattle.std.specs.Prelude.{All, Contains}
use Rattle.std.proofs.lemmas.List.Elements.{All-nil, All-cons, All-append, All-weaker}
use Rattle.std.proofs.lemmas.List.Elements.{All-contains_itself, Contains-append_left}
use Rattle.std.proofs.lemmas.List.Elements.{Contains-append_right, Contains-push}
use Rattle.std.proofs.Math.Seq.{take-append_seam}
use Rattle.clause_store.specs.declared.literal.Lit.{Lit}
use Rattle.clause_store.specs.Counted.{Counted}
use Rattle.clause_store.specs.Entailment.{AreUnits}
use Rattle.clause_store.specs.History.{Added, given, counted, added_clauses, counted_clauses}
use Rattle.clause_store.specs.History.{IsHistoryOf}
use Rattle.clause_store.specs.HistoryLaws.{AreAddedTogether}
use Rattle.clause_store.specs.Laws.{AreMoreClauses}
use Rattle.clause_store.proofs.lemmas.Units.HistoryLemmas.{histories_add}
use Rattle.clause_store.proofs.lemmas.Units.UnitLemmas.{units_among_fewer, units_split}
use Rattle.normal_program.specs.Clauses.{IsEntailed}
use Rattle.normal_program.specs.Spent.{selector_clauses}
use Rattle.coherence_test.specs.Selectors.{AreUsed, IsInUse, MayAdd}
use Rattle.coherence_test.specs.Testing.{Testing, used_by}
use Rattle.coherence_test.proofs.SoundLemmas.{history_then}
use Rattle.worker_strategies.specs.Testing.{HasTested, IsFrontOf}

-- ---- fronts

-- a list begins with itself
pub front_itself : (all : List (List Lit)) → IsFrontOf all all
front_itself all = record { rest = []; is = sym (append-nil all) }

-- the front of a front
pub front_then : (one two three : List (List Lit)) → IsFrontOf one two → IsFrontOf two three
    → IsFrontOf one three
front_then one two three first second =
    record {
      rest = first.rest ++ second.rest;
      is =
          second.is ∙ ap (λ all. all ++ second.rest) first.is
          ∙ append_assoc one first.rest second.rest;
    }

-- what it begins with it has
pub front_among : (front all : List (List Lit)) → IsFrontOf front all → AreMoreClauses front all
front_among front all is =
    subst (AreMoreClauses front) (sym is.is)
    (All-weaker (Contains front) (Contains (front ++ is.rest))
    (λ clause here. Contains-append_left front is.rest clause here) front
    (All-contains_itself front))

-- the first ones are the front
pub take_front : (front all : List (List Lit)) → IsFrontOf front all
    → take (length front) all ≡ front
take_front front all is =
    ap (λ list. take (length front) list) is.is ∙ take-append_seam front is.rest

-- ---- a test goes on

-- a disjunction that was used is in use
pub used_there : (before after : List (List Lit)) (any : List Lit) → AreUsed before (Some any) after
    → Contains after any
used_there before after any (inl (here, same)) = subst (λ all. Contains all any) (sym same) here
used_there before after any (inr (new, last)) =
    subst (λ all. Contains all any) (sym last) (Contains-push before any)

-- so the disjunctions stay when it is asked for again
pub used_again : (one two three : List (List Lit)) (any : Option (List Lit)) → AreUsed one any two
    → AreUsed two any three → three ≡ two
used_again one two three None first second = second
used_again one two three (Some any) first (inl (here, same)) = same
used_again one two three (Some any) first (inr (new, last)) =
    absurd (new (used_there one two any first))

-- what was counted was added
counted_among : (added : List Added) → All (Contains (added_clauses added)) (counted_clauses added)
counted_among [] = All-nil (Contains [])
counted_among (given clause ∷ rest) =
    All-weaker (Contains (added_clauses rest)) (Contains (clause ∷ added_clauses rest))
    (λ one here. Contains-append_right (clause ∷ []) (added_clauses rest) one here)
    (counted_clauses rest) (counted_among rest)
counted_among (counted clause ∷ rest) =
    All-cons (Contains (clause ∷ added_clauses rest)) clause (counted_clauses rest)
    (0, omega arith, refl)
    (All-weaker (Contains (added_clauses rest)) (Contains (clause ∷ added_clauses rest))
    (λ one here. Contains-append_right (clause ∷ []) (added_clauses rest) one here)
    (counted_clauses rest) (counted_among rest))

-- so it stands among the clauses
module _ (any : Option (List Lit)) (old new : Testing) (before after : Counted)
    (tested : HasTested any old new before after) where
  pub tested_front : IsFrontOf old.clauses new.clauses
  tested_front = record { rest = added_clauses tested.added.added; is = tested.added.clauses }

  pub tested_among : AreMoreClauses (counted_clauses tested.added.added) new.clauses
  tested_among =
      subst (AreMoreClauses (counted_clauses tested.added.added)) (sym tested.added.clauses)
      (All-weaker (Contains (added_clauses tested.added.added))
      (Contains (old.clauses ++ added_clauses tested.added.added))
      (λ clause here.
      Contains-append_right old.clauses (added_clauses tested.added.added) clause here)
      (counted_clauses tested.added.added) (counted_among tested.added.added))

-- units beside the clauses of the beginning, selectors and what came first
later_beside : (one two selectors counted_ones later : List (List Lit)) → AreMoreClauses one two
    → AreMoreClauses counted_ones two → AreUnits (two ++ selectors) later
    → AreUnits ((one ++ selectors) ++ counted_ones) later
later_beside one two selectors counted_ones later more among are =
    let all = two ++ selectors in
    let left : (some : List (List Lit)) → AreMoreClauses some two → AreMoreClauses some all =
    λ some there.
    All-weaker (Contains two) (Contains all)
    (λ clause here. Contains-append_left two selectors clause here) some there in
    units_among_fewer ((one ++ selectors) ++ counted_ones) all later
    (All-append (Contains all) (one ++ selectors) counted_ones
    (All-append (Contains all) one selectors (left one more)
    (All-weaker (Contains selectors) (Contains all)
    (λ clause here. Contains-append_right two selectors clause here) selectors
    (All-contains_itself selectors)))
    (left counted_ones among)) are

-- what tests did to their tester, one after another
module _ (any : Option (List Lit)) (old mid new : Testing) (before between after : Counted)
    (one : HasTested any old mid before between) (two : HasTested any mid new between after) where
  stays : new.disjunctions ≡ mid.disjunctions
  stays = used_again old.disjunctions mid.disjunctions new.disjunctions any one.uses two.uses

  abbrev first : List Added
  first = one.added.added

  abbrev second : List Added
  second = two.added.added

  abbrev Kind : List Lit → Type 0
  Kind = MayAdd old.normal new.disjunctions

  first_history : IsHistoryOf Kind old.clauses first
  first_history =
      subst (λ all. IsHistoryOf (MayAdd old.normal all) old.clauses first) (sym stays)
      one.added.history

  second_history : IsHistoryOf Kind (old.clauses ++ added_clauses first) second
  second_history =
      subst (λ all. IsHistoryOf Kind all second) one.added.clauses
      (subst (λ it. IsHistoryOf (MayAdd it new.disjunctions) mid.clauses second) one.same
      two.added.history)

  abbrev both : AreAddedTogether first second
  both = histories_add first second

  all_of : (P : List Lit → Type 0) → All P (counted_clauses first)
      → All P (counted_clauses second) → All P (counted_clauses (first ++ second))
  all_of P has_one has_two =
      subst (All P) (sym both.counted_is)
      (All-append P (counted_clauses first) (counted_clauses second) has_one has_two)

  abbrev Entailed : List Lit → Type 0
  Entailed = IsEntailed old.normal new.disjunctions

  abbrev InUse : List Lit → Type 0
  InUse = All (IsInUse old.normal (used_by any new.disjunctions))

  abbrev selectors_then : List (List Lit)
  selectors_then = selector_clauses old.normal new.disjunctions

  pub tested_then : HasTested any old new before after
  tested_then =
      record {
        added =
            record {
              added = first ++ second;
              clauses =
                  two.added.clauses ∙ ap (λ all. all ++ added_clauses second) one.added.clauses
                  ∙ append_assoc old.clauses (added_clauses first) (added_clauses second)
                  ∙ ap (λ all. old.clauses ++ all) (sym both.added_is);
              counts =
                  subst
                  (λ (it : Counted). after
                  ≡ record it { units = it.units ++ counted_clauses second })
                  one.added.counts two.added.counts
                  ∙ ap (λ units. record before { units = units })
                  (append_assoc before.units (counted_clauses first) (counted_clauses second)
                  ∙ ap (λ all. before.units ++ all) (sym both.counted_is));
              history = history_then Kind old.clauses first second first_history second_history;
            };
        entailed =
            all_of Entailed
            (subst (λ all. All (IsEntailed old.normal all) (counted_clauses first)) (sym stays)
            one.entailed)
            (subst (λ it. All (IsEntailed it new.disjunctions) (counted_clauses second)) one.same
            two.entailed);
        in_use =
            all_of InUse
            (subst
            (λ all. All (All (IsInUse old.normal (used_by any all))) (counted_clauses first))
            (sym stays) one.in_use)
            (subst
            (λ it. All (All (IsInUse it (used_by any new.disjunctions))) (counted_clauses second))
            one.same two.in_use);
        beside =
            subst (AreUnits (old.clauses ++ selectors_then)) (sym both.counted_is)
            ((units_split (old.clauses ++ selectors_then) (counted_clauses first)
            (counted_clauses second)).1 (
              subst
                  (λ all. AreUnits (old.clauses ++ selector_clauses old.normal all)
                  (counted_clauses first)) (sym stays) one.beside,
              later_beside old.clauses mid.clauses selectors_then (counted_clauses first)
                  (counted_clauses second)
                  (front_among old.clauses mid.clauses
                  (tested_front any old mid before between one))
                  (tested_among any old mid before between one)
                  (subst
                  (λ it. AreUnits (mid.clauses ++ selector_clauses it new.disjunctions)
                  (counted_clauses second)) one.same two.beside),
            ));
        uses =
            subst (AreUsed old.disjunctions any) (sym stays) one.uses;
        alive = two.alive;
        same = two.same ∙ one.same;
      }
