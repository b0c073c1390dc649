use Rattle.std.proofs.Common.{◌-◌}
use Rattle.propagator.specs.Fixpoint.{Extends}
use Rattle.watched_literals.specs.Walking.{IsRunning}
use Rattle.watched_literals.proofs.run.follow.Given as goal

abbrev pub invariant-loop-next : goal.invariant-loop-next
invariant-loop-next l = record {
  running : IsRunning l.store l.entries l.trail l.tables l.next;
  extends : Extends l.initial.trail l.trail;
}

abbrev pub decreases-loop-next : goal.decreases-loop-next
decreases-loop-next l = l.trail.vars - l.next
