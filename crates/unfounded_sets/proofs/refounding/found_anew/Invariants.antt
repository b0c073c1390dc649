use Rattle.std.proofs.Common.{◌≡◌}
use Rattle.unfounded_sets.specs.Sources.{AreSources}
use Rattle.unfounded_sets.proofs.refounding.found_anew.Given as goal

abbrev pub invariant-loop-place : goal.invariant-loop-place
invariant-loop-place l = record {
  sources : AreSources l.normal l.trail.steps l.sources;
  doubted : l.sources.doubted ≡ l.initial.sources.doubted;
}

abbrev pub invariant-loop-atom : goal.invariant-loop-atom
invariant-loop-atom l = record {
  sources : AreSources l.normal l.trail.steps l.sources;
  doubted : l.sources.doubted ≡ l.initial.sources.doubted;
}
