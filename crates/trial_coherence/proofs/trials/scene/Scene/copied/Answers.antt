use Rattle.std.proofs.Common.{ap}
use Rattle.coherence_test.specs.Testing.{Testing}
use Rattle.trial_coherence.proofs.trials.scene.Scene.copied.Goals as goal

pub with-requires : goal.with-requires
with-requires c = record {
  is_normal = c.requires.ready.is_normal;
  form = c.requires.ready.form;
  same = ap (λ (it : Testing). it.normal) c.in_ok-tester.ensures;
}
