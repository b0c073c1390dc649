use Rattle.bounds_board.specs.Board.{IsSeatOf}
use Rattle.bench_board.proofs.measuring.reports_alone.Given as goal

abbrev pub invariant-loop : goal.invariant-loop
invariant-loop g l = IsSeatOf l.board l.seat
