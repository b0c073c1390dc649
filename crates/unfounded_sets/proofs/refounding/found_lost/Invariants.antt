use Rattle.std.proofs.Common.{◌≡◌}
use Rattle.unfounded_sets.specs.Sources.{AreSources}
use Rattle.unfounded_sets.proofs.refounding.found_lost.Given as goal

abbrev pub invariant-loop-body : goal.invariant-loop-body
invariant-loop-body l = record {
  sources : AreSources l.normal l.trail.steps l.sources;
  doubted : l.sources.doubted ≡ l.initial.sources.doubted;
}
