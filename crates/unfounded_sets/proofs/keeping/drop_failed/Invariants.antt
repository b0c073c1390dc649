use Rattle.unfounded_sets.specs.Sources.{AreSources, work}
use Rattle.unfounded_sets.proofs.keeping.drop_failed.Given as goal

abbrev pub invariant-doubts : goal.invariant-doubts
invariant-doubts l = AreSources l.normal l.trail.steps l.sources

abbrev pub decreases-doubts : goal.decreases-doubts
decreases-doubts l = work l.sources
