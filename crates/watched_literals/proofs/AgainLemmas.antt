-- Looks at pending clauses: which of them are quiet after each, and when one is pending no more.
use Rattle.std.proofs.Common.{◌≡◌, ◌≤◌, ◌<◌, ◌+◌, ◌*◌, ℕ, List, [], ◌∷◌, ◌++◌}
use Rattle.std.proofs.Common.{length, length-append, get_or, map, Some, sym, ap, subst}
use Rattle.std.proofs.Common.{◌∙◌, arith, inl, inr}
use Rattle.std.specs.Prelude.{slice_get, All}
use Rattle.std.proofs.lemmas.Bool.{cases_eq}
use Rattle.std.proofs.lemmas.List.{append-nil, get_or_default}
use Rattle.std.proofs.lemmas.List.Elements.{All-contains}
use Rattle.std.proofs.lemmas.Option.{same_Some}
use Rattle.clause_store.specs.declared.literal.Lit.{Lit}
use Rattle.clause_store.specs.declared.literal.ClauseRef.{ClauseRef}
use Rattle.clause_store.specs.declared.step.Step.{Step}
use Rattle.clause_store.specs.Clause.{IsOver}
use Rattle.clause_store.specs.Trail.{Assigned}
use Rattle.clause_store.specs.Standing.{as_followed, Followed}
use Rattle.propagator.specs.Fixpoint.{Extends, IsQuietOn}
use Rattle.propagator.specs.Watched.{Attached, AreNamed}
use Rattle.propagator.proofs.ExtendLemmas.{extends_longer}
use Rattle.watched_literals.specs.declared.tables.Tables.{Tables}
use Rattle.watched_literals.specs.Chains.{lit_of}
use Rattle.watched_literals.specs.Pends.{HasAllWaiting, IsLeftOut, Waited}
use Rattle.watched_literals.specs.Walking.{AreFirstQuiet, ArePendingQuiet, HasLooked, IsQuietAt}
use Rattle.watched_literals.specs.Walking.{IsRunning, IsSettledRow, SettlesAll}
use Rattle.watched_literals.specs.Watching.{AreNone, AreSettled, HoldsForGood, IsRow}
use Rattle.watched_literals.proofs.WatchingLemmas.{IsUnmarked, watching_unmarked}

-- ---- the place of the next look

-- a clause was taken out
pub looked_settled : (entries : List Attached) (steps : List Step) (old new : List ℕ) (at : ℕ)
    → at < length old → IsLeftOut at old new → HasLooked entries steps old new at at
looked_settled entries steps old new at within is = record {
  quiet =
      λ first here k d before. subst (λ row. IsQuietOn steps (get_or entries row d).lits)
      (sym (is.others k 0 (λ same. omega (arith, same, before))
      (omega (arith, before, within, is.count))))
      (first k d before);
  falls = omega (arith, is.count);
}

-- a clause stays pending
pub looked_kept : (entries : List Attached) (steps : List Step) (stack : List ℕ) (at : ℕ)
    → HasLooked entries steps stack stack at (at + 1)
looked_kept entries steps stack at = record {
  quiet =
      λ first here k d before. elim (cases_eq k at) [
        | inl same ↦
            subst (λ n. IsQuietOn steps (get_or entries (get_or stack n 0) d).lits) (sym same)
            (here d)
        | inr other ↦ first k d (omega (arith, before, other))
      ];
  falls = omega arith;
}

-- ---- what was seen so far

added_none : (old : List Step) (added : List Step) → length (old ++ added) ≡ length old
    → old ++ added ≡ old
added_none old [] same = append-nil old
added_none old (step ∷ added) same =
    absurd (omega (arith, same, length-append old (step ∷ added)))

same_steps : (old new : Assigned) → Extends old new → length new.steps ≡ length old.steps
    → new.steps ≡ old.steps
same_steps old new is same =
    is.steps ∙ added_none old.steps is.added (sym (ap length is.steps) ∙ same)

-- after a look at one more clause all that were looked at are quiet, if nothing was assigned
pub look_step : (clauses : List (List Lit)) (entries : List Attached)
    (first now new : Assigned) (old_stack new_stack : List ℕ) (at next : ℕ)
    (number : ClauseRef) → AreNamed clauses entries
    → (length now.steps ≡ length first.steps → AreFirstQuiet now.steps entries old_stack at)
    → Extends first now → Extends now new
    → (length new.steps ≡ length now.steps → IsQuietAt clauses new.steps number)
    → HasLooked entries new.steps old_stack new_stack at next
    → get_or old_stack at 0 < length entries
    → ((d : Attached) → (get_or entries (get_or old_stack at 0) d).at ≡ number)
    → length new.steps ≡ length first.steps
    → AreFirstQuiet new.steps entries new_stack next
look_step clauses entries first now new old_stack new_stack at next number named quiet one two
    here looked within numbered equal =
    looked.quiet
    (subst (λ steps. AreFirstQuiet steps entries old_stack at) (sym steps_are)
    (quiet (omega (arith, equal, two_longer, one_longer))))
    (λ d. let it = here (omega (arith, equal, two_longer, one_longer)) in
    subst (IsQuietOn new.steps)
    (same_Some it.clause (get_or entries (get_or old_stack at 0) d).lits
    (sym it.named
    ∙ ap (λ (ref : ClauseRef). slice_get clauses ref.0) (sym (numbered d))
    ∙ named (get_or old_stack at 0) d within))
    it.quiet)
  where
    one_longer : length first.steps ≤ length now.steps
    one_longer = extends_longer first now one

    two_longer : length now.steps ≤ length new.steps
    two_longer = extends_longer now new two

    steps_are : new.steps ≡ now.steps
    steps_are = same_steps now new two (omega (arith, equal, two_longer, one_longer))

-- once all were looked at, all pending clauses are quiet
pub pending_quiet : (entries : List Attached) (steps : List Step) (pending : Waited) (count : ℕ)
    → HasAllWaiting pending → length pending.stack ≤ count
    → AreFirstQuiet steps entries pending.stack count
    → ArePendingQuiet steps entries pending.waits
pending_quiet entries steps pending count waiting all quiet row d within on =
    let some = waiting.has row on in
    let here : get_or pending.stack some.0 0 ≡ row =
    get_or_default pending.stack some.0 0 some.1 some.2 ∙ some.3 ∙ some.4 in
    subst (λ r. IsQuietOn steps (get_or entries r d).lits) here
    (quiet some.0 d (omega (arith, some.2, all)))

-- ---- a clause is pending no more

pub run_unmarked : (clauses : List (List Lit)) (entries : List Attached) (trail : Assigned)
    (old new : Tables) (next row : ℕ) (lits : List Lit)
    → IsRunning clauses entries trail old next
    → IsUnmarked row old new
    → ((d : Attached) → (get_or entries row d).lits ≡ lits)
    → IsSettledRow (map as_followed trail.steps) lits
    (lit_of old.chains.nodes.items (2 * row)) (lit_of old.chains.nodes.items (2 * row + 1))
    → IsRunning clauses entries trail new next
run_unmarked clauses entries trail old new next row lits was is lits_are settled = record {
  named = was.named;
  over = was.over;
  of_store = was.of_store;
  is_trail = was.is_trail;
  watching =
      watching_unmarked trail.vars entries old new (map as_followed trail.steps) next row
      was.watching is (settled.both next)
      (λ d none_is. subst (λ clause. HoldsForGood (map as_followed trail.steps) clause)
      (sym (lits_are d)) (settled.good none_is));
}

-- both watched literals are settled, as they were read
pub both_settled : (known : List Followed) (first second one two : Lit) → first ≡ one
    → second ≡ two → SettlesAll known first second → SettlesAll known second first → (next : ℕ)
    → AreSettled known next one two
both_settled known first second one two one_is two_is settles back next =
    subst (λ lit. AreSettled known next lit two) one_is
    (subst (λ lit. AreSettled known next first lit) two_is
    (record { first = settles next; second = back next }))

-- the clause of a pending one, as the store has it
pub again_lits : (clauses : List (List Lit)) (entries : List Attached) (row : ℕ)
    (entry : Attached) (why : ClauseRef) (lits : List Lit) → AreNamed clauses entries
    → row < length entries → entry ≡ get_or entries row entry → why ≡ entry.at
    → slice_get clauses why.0 ≡ Some lits → (d : Attached) → (get_or entries row d).lits ≡ lits
again_lits clauses entries row entry why lits named within entry_is why_is is d =
    same_Some (get_or entries row d).lits lits
    (sym (named row d within)
    ∙ ap (λ (it : Attached). slice_get clauses it.at.0)
    (get_or_default entries row d entry within ∙ sym entry_is)
    ∙ ap (λ (ref : ClauseRef). slice_get clauses ref.0) (sym why_is)
    ∙ is)

-- the number of a pending clause, as it was read
pub numbered : (entries : List Attached) (row : ℕ) (entry : Attached) (number : ClauseRef)
    → row < length entries → entry ≡ get_or entries row entry → number ≡ entry.at
    → (d : Attached) → (get_or entries row d).at ≡ number
numbered entries row entry number within entry_is number_is d =
    ap (λ (it : Attached). it.at) (get_or_default entries row d entry within ∙ sym entry_is)
    ∙ sym number_is

-- a clause that isn't watched at a literal of its own is watched at none
pub none_of_row : (known : List Followed) (vars : ℕ) (lits : List Lit) (saved : ℕ)
    (one two : Lit) → All (IsOver vars) lits → IsRow known lits saved one two → one.0 ≡ 0
    → AreNone one two
none_of_row known vars lits saved one two over (inl is) zero =
    let here : IsOver vars one = All-contains (IsOver vars) lits one over is.pair.one_here in
    absurd (omega (arith, here.first, zero))
none_of_row known vars lits saved one two over (inr none_is) zero = none_is
