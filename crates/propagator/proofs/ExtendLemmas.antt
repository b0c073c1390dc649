-- Runs of propagation: each puts forced assignments of the present level last.
use Rattle.std.proofs.Common.{◌≡◌, ℕ, ◌≤◌, max, List, [], ◌∷◌, ◌++◌, length, refl, sym, ap, ◌∙◌}
use Rattle.std.proofs.Common.{arith, length-append, append_assoc}
use Rattle.std.specs.Prelude.{All, IsSome}
use Rattle.std.proofs.lemmas.List.{append-nil}
use Rattle.std.proofs.lemmas.List.Elements.{All-append, All-cons, All-head, All-nil, All-tail}
use Rattle.std.proofs.lemmas.List.Elements.{All-weaker}
use Rattle.clause_store.specs.declared.step.Step.{Step}
use Rattle.clause_store.specs.Trail.{Assigned, present_level}
use Rattle.propagator.specs.Fixpoint.{Extends}
use Rattle.propagator.specs.Laws.{ExtendingGoesOn}

present_level-append : (steps added : List Step)
    → present_level (steps ++ added) ≡ max (present_level steps) (present_level added)
present_level-append [] added = omega arith
present_level-append (step ∷ steps) added =
    let rest : present_level (steps ++ added) ≡ max (present_level steps) (present_level added) =
    present_level-append steps added in omega arith

present_level-le : (level : ℕ) (steps : List Step) → All (λ step. step.level ≡ level) steps
    → present_level steps ≤ level
present_level-le level [] all = omega arith
present_level-le level (step ∷ steps) all =
    let first : step.level ≡ level = All-head (λ s. s.level ≡ level) step steps all in
    let rest : present_level steps ≤ level =
    present_level-le level steps (All-tail (λ s. s.level ≡ level) step steps all) in
    omega arith

-- the present level stays
pub same_level : (old new : Assigned) → Extends old new
    → present_level new.steps ≡ present_level old.steps
same_level old new is =
    let below : present_level is.added ≤ present_level old.steps =
    present_level-le (present_level old.steps) is.added is.present in
    let whole : present_level (old.steps ++ is.added)
    ≡ max (present_level old.steps) (present_level is.added) =
    present_level-append old.steps is.added in
    ap present_level is.steps ∙ omega arith

-- a run that assigns nothing
pub extends_nothing : (trail : Assigned) → Extends trail trail
extends_nothing trail =
    record {
      vars = refl;
      added = [];
      steps = sym (append-nil trail.steps);
      forced = All-nil (λ step. IsSome step.reason);
      present = All-nil (λ step. step.level ≡ present_level trail.steps);
    }

pub extending_goes_on : ExtendingGoesOn
extending_goes_on first second third one two =
    record {
      vars = two.vars ∙ one.vars;
      added = one.added ++ two.added;
      steps =
          two.steps ∙ ap (λ steps. steps ++ two.added) one.steps
          ∙ append_assoc first.steps one.added two.added;
      forced = All-append (λ step. IsSome step.reason) one.added two.added one.forced two.forced;
      present =
          All-append (λ step. step.level ≡ present_level first.steps) one.added two.added
          one.present
          (All-weaker (λ step. step.level ≡ present_level second.steps)
          (λ step. step.level ≡ present_level first.steps)
          (λ step is. is ∙ same_level first second one) two.added two.present);
    }

-- one more forced assignment
pub extends_push : (old now : Assigned) (step : Step) → Extends old now → IsSome step.reason
    → step.level ≡ present_level now.steps
    → Extends old (record now { steps = now.steps ++ step ∷ [] })
extends_push old now step is some level =
    extending_goes_on old now (record now { steps = now.steps ++ step ∷ [] }) is
    (record {
      vars = refl;
      added = step ∷ [];
      steps = refl;
      forced = All-cons (λ s. IsSome s.reason) step [] some (All-nil (λ s. IsSome s.reason));
      present =
          All-cons (λ s. s.level ≡ present_level now.steps) step [] level
          (All-nil (λ s. s.level ≡ present_level now.steps));
    })

-- no assignment goes
pub extends_longer : (old new : Assigned) → Extends old new → length old.steps ≤ length new.steps
extends_longer old new is = omega (arith, ap length is.steps, length-append old.steps is.added)
