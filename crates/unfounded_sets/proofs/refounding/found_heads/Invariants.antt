use Rattle.std.proofs.Common.{◌≡◌}
use Rattle.unfounded_sets.specs.Sources.{AreSources, Fires, earlier}
use Rattle.unfounded_sets.proofs.refounding.found_heads.Given as goal

abbrev pub invariant-loop-head : goal.invariant-loop-head
invariant-loop-head l = record {
  sources : AreSources l.normal l.trail.steps l.sources;
  fires : Fires l.normal l.trail.steps (earlier l.sources.next l.sources.ranks.items) l.body;
  doubted : l.sources.doubted ≡ l.initial.sources.doubted;
}
