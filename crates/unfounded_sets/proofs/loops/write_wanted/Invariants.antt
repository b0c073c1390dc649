use Rattle.std.proofs.Common.{◌≤◌}
use Rattle.unfounded_sets.specs.Wanted.{AreWritten}
use Rattle.unfounded_sets.proofs.loops.write_wanted.Given as goal

abbrev pub invariant-loop-var : goal.invariant-loop-var
invariant-loop-var l = (1 ≤ l.var) × AreWritten l.trail.steps l.wanted l.var l.out
