use Rattle.std.proofs.Common.{◌≡◌}
use Rattle.unfounded_sets.specs.Sources.{AreSources}
use Rattle.unfounded_sets.proofs.refounding.one_lost.Given as goal

abbrev pub invariant-lost : goal.invariant-lost
invariant-lost l = record {
  sources : AreSources l.normal l.trail.steps l.sources;
  doubted : l.sources.doubted ≡ l.initial.sources.doubted;
}

abbrev pub decreases-lost : goal.decreases-lost
decreases-lost l = l.sources.lost.left
