use Rattle.watched_literals.specs.Laying.{AreLaid}
use Rattle.watched_literals.proofs.laying.choose_all.Given as goal

abbrev pub invariant-loop-row : goal.invariant-loop-row
invariant-loop-row l = AreLaid l.entries l.trail l.tables l.row
