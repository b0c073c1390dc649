use Rattle.std.proofs.Common.{◌≡◌, length}
use Rattle.propagator.specs.Fixpoint.{Extends}
use Rattle.watched_literals.specs.Chains.{nodes_left}
use Rattle.watched_literals.specs.Walking.{IsWalking}
use Rattle.watched_literals.proofs.walk.walk.Given as goal

abbrev pub invariant-loop-cursor : goal.invariant-loop-cursor
invariant-loop-cursor l = record {
  walking : IsWalking l.store l.entries l.trail l.tables l.cursor;
  extends : Extends l.initial.trail l.trail;
  same_place : l.cursor.place ≡ l.place;
}

abbrev pub decreases-loop-cursor : goal.decreases-loop-cursor
decreases-loop-cursor l =
    nodes_left (length l.tables.chains.nodes.items) l.tables.chains.nodes.items l.cursor.at
