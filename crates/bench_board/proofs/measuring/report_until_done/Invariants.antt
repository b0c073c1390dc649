use Rattle.bounds_board.specs.Board.{IsSeatOf}
use Rattle.bench_board.proofs.measuring.report_until_done.Given as goal

abbrev pub invariant-loop : goal.invariant-loop
invariant-loop l = IsSeatOf l.board l.seat
