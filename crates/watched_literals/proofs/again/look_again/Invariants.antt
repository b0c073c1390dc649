use Rattle.std.proofs.Common.{◌≡◌, ◌-◌, length}
use Rattle.propagator.specs.Fixpoint.{Extends}
use Rattle.watched_literals.specs.Walking.{AreFirstQuiet, IsRunning}
use Rattle.watched_literals.proofs.again.look_again.Given as goal

abbrev pub invariant-loop-at : goal.invariant-loop-at
invariant-loop-at l = record {
  running : IsRunning l.store l.entries l.trail l.tables l.next;
  extends : Extends l.initial.trail l.trail;
  quiet :
      length l.trail.steps ≡ length l.initial.trail.steps
      → AreFirstQuiet l.trail.steps l.entries l.tables.pending.stack l.at;
}

abbrev pub decreases-loop-at : goal.decreases-loop-at
decreases-loop-at l = length l.tables.pending.stack - l.at
