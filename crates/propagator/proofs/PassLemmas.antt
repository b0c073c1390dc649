-- One pass over the attached clauses, a clause at a time.
use Rattle.std.proofs.Common.{◌≡◌, ℕ, ◌+◌, ◌<◌, ◌≤◌, List, [], ◌∷◌, ◌++◌, Option, Some, None}
use Rattle.std.proofs.Common.{length, take, get_or, refl, sym, ap, ◌∙◌, subst, arith, length-append}
use Rattle.std.specs.Prelude.{All, IfNone, slice_get}
use Rattle.std.proofs.lemmas.List.{take_all}
use Rattle.std.proofs.lemmas.List.Elements.{All-more}
use Rattle.std.proofs.lemmas.Option.{same_Some}
use Rattle.clause_store.specs.declared.literal.Lit.{Lit}
use Rattle.clause_store.specs.declared.literal.ClauseRef.{ClauseRef}
use Rattle.clause_store.specs.declared.step.Step.{Step}
use Rattle.clause_store.specs.Trail.{Assigned, IsTrailOf, present_level}
use Rattle.propagator.specs.Watched.{Attached, AreNamed}
use Rattle.propagator.specs.Fixpoint.{Extends, IsQuietOn}
use Rattle.propagator.proofs.ExtendLemmas.{extends_longer, extends_push}

-- the first clauses were visited: as long as nothing was assigned, they are quiet
abbrev pub IsPassed : List (List Lit) → List Attached → Assigned → ℕ → Assigned → Type 0
IsPassed clauses entries old count now =
    Extends old now
    × IsTrailOf now.steps clauses
    × (length now.steps ≡ length old.steps
    → All (λ it. IsQuietOn now.steps it.lits) (take count entries))

-- the next clause is quiet
pub passes_quiet : (clauses : List (List Lit)) (entries : List Attached) (old now : Assigned)
    (i : ℕ) (it : Attached) (at : ClauseRef) (lits : List Lit)
    → AreNamed clauses entries → i < length entries → it ≡ get_or entries i it → at ≡ it.at
    → slice_get clauses at.0 ≡ Some lits → IsQuietOn now.steps lits
    → IsPassed clauses entries old i now → IsPassed clauses entries old (i + 1) now
passes_quiet clauses entries old now i it at lits named within is same here quiet passed = (
  passed.0,
  passed.1,
  λ equal. All-more (λ e. IsQuietOn now.steps e.lits) entries i it within
      (passed.2 equal) quiet_there,
)
  where
    there : slice_get clauses (get_or entries i it).at.0 ≡ Some lits
    there =
        ap (λ e. slice_get clauses e.at.0) (sym is) ∙ ap (λ a. slice_get clauses a.0) (sym same)
        ∙ here

    quiet_there : IsQuietOn now.steps (get_or entries i it).lits
    quiet_there =
        subst (IsQuietOn now.steps)
        (same_Some lits (get_or entries i it).lits (sym there ∙ named i it within)) quiet

-- the next clause forced a literal
pub passes_forced : (clauses : List (List Lit)) (entries : List Attached) (old now : Assigned)
    (count : ℕ) (lit : Lit) (why : ClauseRef) (later : Assigned)
    → later
    ≡ record now {
      steps =
          now.steps
          ++ record { lit = lit; reason = Some why; level = present_level now.steps }
          ∷ [];
    }
    → IsTrailOf later.steps clauses → Extends old now → IsPassed clauses entries old count later
passes_forced clauses entries old now count lit why later is of extends = (
  subst (Extends old) (sym is) (extends_push old now step extends refl refl),
  of,
  λ equal. absurd (omega (arith, longer, equal)),
)
  where
    step : Step
    step = record { lit = lit; reason = Some why; level = present_level now.steps }

    longer : length old.steps + 1 ≤ length later.steps
    longer =
        let one : length later.steps ≡ length (now.steps ++ step ∷ []) =
        ap (λ trail. length trail.steps) is in
        omega (arith, one, length-append now.steps (step ∷ []), extends_longer old now extends)

-- all clauses were visited
pub passed_all : (clauses : List (List Lit)) (entries : List Attached) (old now : Assigned)
    (count : ℕ) → length entries ≤ count → IsPassed clauses entries old count now
    → length now.steps ≡ length old.steps → All (λ it. IsQuietOn now.steps it.lits) entries
passed_all clauses entries old now count all passed equal =
    subst (All (λ it. IsQuietOn now.steps it.lits)) (take_all count entries all) (passed.2 equal)

-- a fact of None passes on
pub if_none_then : {X : Type 0} {P Q : Type 0} (o : Option X) → IfNone o P → (P → Q) → IfNone o Q
if_none_then None is implies = implies is
if_none_then (Some x) is implies = is
