-- That a listed theory keeps its laws.
use Rattle.std.proofs.Common.{◌≡◌, ◌≢◌, ◌≤◌, ℕ, List, refl, sym, subst, ◌∙◌, arith, inl, inr}
use Rattle.std.specs.Prelude.{All, Contains, IfOk, Result, Ok, Err}
use Rattle.std.proofs.lemmas.List.Elements.{All-contains, All-weaker}
use Rattle.clause_store.specs.declared.literal.Lit.{Lit}
use Rattle.clause_store.specs.declared.literal.Value.TheVariants.{No, Unset}
use Rattle.clause_store.specs.declared.step.Step.{Step}
use Rattle.clause_store.specs.Clause.{AreOver, HoldsIn, IsOver, Meets}
use Rattle.clause_store.specs.Standing.{IsFalse, IsFalseOn}
use Rattle.clause_store.specs.Trail.{Assigned, IsTotal, value_of, values_of}
use Rattle.clause_store.proofs.LiteralLemmas.{cases_lit}
use Rattle.propagator.specs.Fixpoint.{IsQuietOn}
use Rattle.propagator.proofs.TotalLemmas.{total_fixpoint_meets}
use Rattle.clause_store.specs.declared.theory_says.Says.{Says}
use Rattle.clause_store.specs.declared.theory_says.Says.TheVariants.{Quiet, Clause}
use Rattle.assumption_engine.specs.declared.check.Check.{Check}
use Rattle.assumption_engine.specs.declared.check.Check.TheVariants.{Accept, Clause as Given}
use Rattle.assumption_engine.specs.declared.check.Check.TheVariants.{Spent, NoMemory}
use Rattle.assumption_engine.specs.Theory.{IsChecked, IsGiven}
use Rattle.trial_engine.specs.Told.{HasFound, IsClauseOver, IsEndOf, IsToldModel, Told}
use Rattle.trial_engine.specs.Told.{meaning_of}

unset_not_false : Unset ≢ No
unset_not_false e = cc

-- ---- clauses that don't act

-- a clause whose literals are all set, and not all false
pub quiet_of_set : (steps : List Step) (clause : List Lit)
    → All (λ lit. value_of steps lit ≢ Unset) clause → ¬ IsFalseOn steps clause
    → IsQuietOn steps clause
quiet_of_set steps clause set not_false =
    record {
      not_false = not_false;
      not_unit =
          λ lit forces.
          All-contains (λ (other : Lit). value_of steps other ≢ Unset) clause lit set forces.here
          forces.unset;
    }

-- a clause with an unset literal, whose others aren't all false
pub quiet_of_unset : (steps : List Step) (clause : List Lit) (lit : Lit)
    → Contains clause lit → value_of steps lit ≡ Unset
    → ¬ All (λ other. other ≢ lit → IsFalse steps other) clause → IsQuietOn steps clause
quiet_of_unset steps clause lit here unset others =
    record {
      not_false =
          λ all. unset_not_false
          (sym unset ∙ All-contains (IsFalse steps) clause lit all here);
      not_unit =
          λ other forces.
          elim (cases_lit lit other) [
            | inl same ↦ others
                (subst (λ (l : Lit). All (λ one. one ≢ l → IsFalse steps one) clause) (sym same)
                forces.others)
            | inr differs ↦ unset_not_false
                (sym unset
                ∙ All-contains (λ (one : Lit). one ≢ other → IsFalse steps one) clause lit
                forces.others here differs)
          ];
    }

-- ---- what a theory says

-- clauses over the variables are over more of them
pub are_over : (vars more : ℕ) (clauses : List (List Lit)) → vars ≤ more
    → All (IsClauseOver vars) clauses → AreOver more clauses
are_over vars more clauses low =
    All-weaker (IsClauseOver vars) (All (IsOver more))
    (λ clause is. All-weaker (IsOver vars) (IsOver more)
    (λ lit over. record { first = over.first; last = omega (arith, over.last, low) })
    clause is.over)
    clauses

-- a clause that acts may be given
gives : (told : Told) (trail : Assigned) (out : List Lit)
    → All (IsClauseOver told.vars) told.clauses → told.vars ≤ trail.vars → HasFound told.clauses trail.steps out Clause
    → IsGiven (meaning_of told) trail out
gives told trail out over low found =
    let one = found.one refl in
    let is = All-contains (IsClauseOver told.vars) told.clauses out over one in
    record {
      may = one;
      holds = λ values model. All-contains (HoldsIn values) told.clauses out model.clauses one;
      once = is.allowed.once;
      over =
          All-contains (All (IsOver trail.vars)) told.clauses out
          (are_over told.vars trail.vars told.clauses low over) one;
      standing = found.acts refl;
    }

-- what is found where it is asked
pub said : {E : Type 0} (told : Told) (trail : Assigned) (out : List Lit) (result : Result Says E)
    → All (IsClauseOver told.vars) told.clauses → told.vars ≤ trail.vars
    → IfOk result (HasFound told.clauses trail.steps out)
    → IfOk result (λ says. says ≡ Clause → IsGiven (meaning_of told) trail out)
said told trail out (Ok Clause) over low found = λ e. gives told trail out over low found
said told trail out (Ok Quiet) over low found = λ e. cc
said told trail out (Err cause) over low found = tt

-- where none acts, a total trail is a model
accepts : (told : Told) (trail : Assigned) (out : List Lit)
    → All (IsClauseOver told.vars) told.clauses → told.vars ≤ trail.vars → IsTotal trail → Meets (values_of trail) told.base
    → HasFound told.clauses trail.steps out Quiet → IsToldModel told (values_of trail)
accepts told trail out over low total base found =
    record {
      base = base;
      clauses =
          total_fixpoint_meets trail told.clauses total
          (are_over told.vars trail.vars told.clauses low over) (found.none refl);
    }

-- what is answered of a model
ended : (told : Told) (trail : Assigned) (out : List Lit) (limit : ℕ) (check : Check)
    → IsToldModel told (values_of trail) → IsEndOf told.spends limit check
    → IsChecked (meaning_of told) trail limit out check
ended told trail out limit Accept model is = model
ended told trail out limit Given model is = absurd is
ended told trail out limit (Spent set units) model is =
    record { spent = is.0; as_many = is.1 }
ended told trail out limit NoMemory model is = tt

-- how a check ends for each that may be said
abbrev pub IsEnd : Told → ℕ → Says → Check → Type 0
IsEnd told limit Clause check = check ≡ Given
IsEnd told limit Quiet check = IsEndOf told.spends limit check

pub checked : (told : Told) (trail : Assigned) (out : List Lit) (limit : ℕ) (says : Says)
    (check : Check) → All (IsClauseOver told.vars) told.clauses → told.vars ≤ trail.vars
    → IsTotal trail → Meets (values_of trail) told.base
    → HasFound told.clauses trail.steps out says → IsEnd told limit says check
    → IsChecked (meaning_of told) trail limit out check
checked told trail out limit Clause check over low total base found is =
    subst (IsChecked (meaning_of told) trail limit out) (sym is)
    (gives told trail out over low found)
checked told trail out limit Quiet check over low total base found is =
    ended told trail out limit check (accepts told trail out over low total base found) is

-- the same of clauses that were read
pub checked_at : (inside told : Told) (trail : Assigned) (out : List Lit) (limit : ℕ)
    (read : List (List Lit)) → inside ≡ told → read ≡ inside.clauses
    → All (IsClauseOver inside.vars) inside.clauses → told.vars ≤ trail.vars → IsTotal trail
    → Meets (values_of trail) told.base
    → (says : Says) (check : Check) → HasFound read trail.steps out says
    → IsEnd inside limit says check → IsChecked (meaning_of told) trail limit out check
checked_at inside told trail out limit read same is_read over low total base says check found is =
    subst (λ (it : Told). IsChecked (meaning_of it) trail limit out check) same
    (checked inside trail out limit says check over
    (subst (λ (it : Told). it.vars ≤ trail.vars) (sym same) low) total
    (subst (λ (it : Told). Meets (values_of trail) it.base) (sym same) base)
    (subst (λ clauses. HasFound clauses trail.steps out says) is_read found) is)
