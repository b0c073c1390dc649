use Rattle.std.proofs.Common.{ap, Some, subst, sym, ◌∙◌}
use Rattle.std.specs.Prelude.{◌≡◌, slice_get}
use Rattle.std.proofs.lemmas.Option.{slice_get-get_or}
use Rattle.coherence_test.specs.Searching.{IsFalseAtZero}
use Rattle.coherence_test.proofs.RefutedLemmas.{false_there}
use Rattle.coherence_test.proofs.telling.refuted_on.Goals as goal

pub returns-then-step-eq0 : goal.returns-then-step-eq0
returns-then-step-eq0 c =
    let step = c.in_ok-step.step.now in
    let place = c.args.place in
    let within = c.in_ok-step.ensures.lookup.3 in
    subst (IsFalseAtZero c.args.trail.now.steps) (sym c.negated.ensures)
    (false_there c.args.trail.now place step c.steps.ensures.trail
    (subst (λ all. slice_get all place ≡ Some step) c.steps.ensures.steps
    (slice_get-get_or c.steps.result.now place step within.0 ∙ ap Some (sym (within.1 step))))
    c.if-step-eq0.true)
