use Rattle.watched_literals.specs.Visits.{AreFalseWithin}
use Rattle.watched_literals.proofs.visit.place_to_watch.Given as goal

abbrev pub invariant-loop-at : goal.invariant-loop-at
invariant-loop-at l = AreFalseWithin l.trail.steps l.other l.clause l.from l.at
