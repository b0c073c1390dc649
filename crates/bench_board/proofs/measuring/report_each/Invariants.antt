use Rattle.bounds_board.specs.Board.{IsSeatOf}
use Rattle.bench_board.proofs.measuring.report_each.Given as goal

abbrev pub invariant-loop-at : goal.invariant-loop-at
invariant-loop-at l = IsSeatOf l.board l.seat
