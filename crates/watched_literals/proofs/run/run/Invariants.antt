use Rattle.std.proofs.Common.{◌-◌, length}
use Rattle.propagator.specs.Fixpoint.{Extends}
use Rattle.watched_literals.specs.Walking.{IsRunning}
use Rattle.watched_literals.proofs.run.run.Given as goal

abbrev pub invariant-passes : goal.invariant-passes
invariant-passes l = record {
  running : IsRunning l.store l.entries l.trail l.tables l.next;
  extends : Extends l.initial.trail l.trail;
}

abbrev pub decreases-passes : goal.decreases-passes
decreases-passes l = l.trail.vars - length l.trail.steps
