use Rattle.ground_program.specs.Meaning.{missing}
use Rattle.unfounded_sets.specs.Rounds.{IsBelow}
use Rattle.unfounded_sets.proofs.founding.found_all.Given as goal

abbrev pub invariant-rounds : goal.invariant-rounds
invariant-rounds l = IsBelow l.normal l.trail.steps l.founded

abbrev pub decreases-rounds : goal.decreases-rounds
decreases-rounds l = missing l.founded
