use Rattle.std.proofs.Common.{◌<◌, ◌≢◌, length}
use Rattle.watched_literals.proofs.choosing.best_place.Given as goal

abbrev pub invariant-loop-at : goal.invariant-loop-at
invariant-loop-at l = record { within : l.best < length l.clause; other : l.best ≢ l.but }
