use Rattle.weight_propagator.specs.Sums.{IsInStep}
use Rattle.weight_propagator.proofs.settling.settle.Given as goal

abbrev pub invariant-loop-number : goal.invariant-loop-number
invariant-loop-number l = IsInStep l.rows l.trail.steps l.tally

abbrev pub decreases-loop-number : goal.decreases-loop-number
decreases-loop-number l = l.tally.waiting.left
