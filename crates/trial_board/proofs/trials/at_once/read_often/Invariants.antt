use Rattle.std.proofs.Common.{length}
use Rattle.ground_program.specs.Bounds.{IsPairOver}
use Rattle.bounds_board.specs.Board.{IsSeatOf, normal_of}
use Rattle.trial_board.proofs.trials.at_once.read_often.Given as goal

abbrev pub invariant-loop : goal.invariant-loop
invariant-loop l =
    IsSeatOf l.board l.seat × IsPairOver (length (normal_of l.board).names) l.pair
