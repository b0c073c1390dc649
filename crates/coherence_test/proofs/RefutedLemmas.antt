-- The literal that an assignment of level 0 makes false.
use Rattle.std.proofs.Common.{◌≡◌, ◌∙◌, ◌∷◌, [], ◌++◌, ℕ, List, Option, None, Some, ap, arith}
use Rattle.std.proofs.Common.{cond}
use Rattle.std.specs.Prelude.{IfSome, option_and_then, option_map, slice_get}
use Rattle.std.proofs.lemmas.Bool.{ne_eqb}
use Rattle.std.proofs.lemmas.List.Elements.{All-cons, All-nil}
use Rattle.clause_store.specs.declared.literal.Lit.{Lit}
use Rattle.clause_store.specs.declared.literal.Value.TheVariants.{Yes, No}
use Rattle.clause_store.specs.declared.step.Step.{Step}
use Rattle.clause_store.specs.Clause.{IsTrueIn, negation, variable}
use Rattle.clause_store.specs.Trail.{Assigned, IsTrail, IsTrailOf, step_of, value_by}
use Rattle.clause_store.proofs.ArrayLemmas.{negation_differs}
use Rattle.clause_store.proofs.LiteralLemmas.{has_first, variable-negation}
use Rattle.clause_store.proofs.PlaceLemmas.{place_of_at, step_of_is}
use Rattle.normal_program.specs.declared.normal.Normal.{Normal}
use Rattle.normal_program.specs.Normal.{extension}
use Rattle.normal_program.proofs.lemmas.Entailed.ChoiceLemmas.{length-extension}
use Rattle.assumption_engine.specs.declared.engine.Engine.{Engine}
use Rattle.coherence_test.specs.AnswerSets.{Theorised}
use Rattle.coherence_test.specs.Asked.{IsRefuted}
use Rattle.coherence_test.specs.Searching.{IsFalseAtZero}
use Rattle.coherence_test.specs.Testing.{IsSound}
use Rattle.coherence_test.proofs.SelectorLemmas.{chosen_model}
use Rattle.coherence_test.proofs.TellLemmas.{choices, choices_fit, makes_true_front}
use Rattle.coherence_test.proofs.ZeroLemmas.{zero_says}

-- the assignment at a place is that of its variable
step_at : (trail : Assigned) (place : ℕ) (step : Step) → IsTrail trail
    → slice_get trail.steps place ≡ Some step
    → step_of trail.steps (variable step.lit) ≡ Some step
step_at trail place step is there =
    step_of_is trail.steps (variable step.lit)
    ∙ ap (option_and_then (slice_get trail.steps)) (place_of_at trail place step is there)
    ∙ there

-- the negation of its literal is false, at level 0 if the assignment is
pub false_there : (trail : Assigned) (place : ℕ) (step : Step) → IsTrail trail
    → slice_get trail.steps place ≡ Some step → step.level ≡ 0
    → IsFalseAtZero trail.steps (negation step.lit)
false_there trail place step is there level =
    let found : step_of trail.steps (variable (negation step.lit)) ≡ Some step =
    ap (step_of trail.steps) (variable-negation step.lit)
    ∙ step_at trail place step is there in
    record {
      is_false =
          ap (λ o. value_by o (negation step.lit)) found
          ∙ ap (λ b. cond b Yes No)
          (ne_eqb step.lit.0 (negation step.lit).0 (negation_differs step.lit));
      at_zero = ap (option_map (λ s. s.level)) found ∙ ap Some level;
    }

-- what is false at level 0 is true in no answer set
pub refuted_is : (normal : Normal) (engine : Engine Theorised) (disjunctions : List (List Lit))
    (lit : Lit) → IsSound normal engine disjunctions → IsTrail engine.state.trail
    → IsTrailOf engine.state.trail.steps engine.state.clauses
    → IsFalseAtZero engine.state.trail.steps lit → IsRefuted normal lit
refuted_is normal engine disjunctions lit sound is of at set answers low is_true =
    let ext = extension normal set set in
    let size = length-extension normal set set answers.over in
    let says =
    zero_says normal engine disjunctions (lit ∷ []) lit sound is of
    (record { among = has_first lit []; refused = at }) in
    let chosen = choices ext disjunctions in
    says.1.unmet (ext ++ chosen)
    (chosen_model normal disjunctions set chosen answers sound.over (choices_fit ext disjunctions))
    (All-cons (IsTrueIn (ext ++ chosen)) lit []
    (makes_true_front ext chosen lit (omega (arith, low, size)) ∙ is_true)
    (All-nil (IsTrueIn (ext ++ chosen))))

-- so it is with a literal that there may be
pub refuted_if : (normal : Normal) (engine : Engine Theorised) (disjunctions : List (List Lit))
    (some : Option Lit) → IsSound normal engine disjunctions → IsTrail engine.state.trail
    → IsTrailOf engine.state.trail.steps engine.state.clauses
    → IfSome some (IsFalseAtZero engine.state.trail.steps) → IfSome some (IsRefuted normal)
refuted_if normal engine disjunctions None sound is of at = tt
refuted_if normal engine disjunctions (Some lit) sound is of at =
    refuted_is normal engine disjunctions lit sound is of at
