use Rattle.std.proofs.Common.{ap}
use Rattle.coherence_test.specs.Testing.{Testing}
use Rattle.trial_openings.proofs.trials.pairs.TwoTesters.open.Goals as goal

pub invariant_of-result : goal.invariant_of-result
invariant_of-result c = (
  c.requires,
  ap (λ (it : Testing). it.normal) c.in_ok-first.ensures,
  ap (λ (it : Testing). it.normal) c.in_ok-second.ensures,
)
