use Rattle.std.proofs.Common.{length}
use Rattle.ground_program.specs.Bounds.{IsPairOver}
use Rattle.bounds_board.specs.Board.{IsSeatOf, normal_of}
use Rattle.bench_board.proofs.measuring.whole_reads_alone.Given as goal

abbrev pub invariant-loop : goal.invariant-loop
invariant-loop g l =
    IsSeatOf l.board l.seat × IsPairOver (length (normal_of l.board).names) l.pair
