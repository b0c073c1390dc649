use Rattle.std.proofs.Common.{◌≡◌, length}
use Rattle.ground_program.specs.Bounds.{IsPairOver}
use Rattle.bounds_board.specs.Board.{IsSeatOf, normal_of}
use Rattle.trial_board.proofs.trials.again.stay_same.Given as goal

abbrev pub invariant-loop-turn : goal.invariant-loop-turn
invariant-loop-turn l =
    IsSeatOf l.board l.readers.seat
    × IsPairOver (length (normal_of l.board).names) l.readers.pair
    × IsSeatOf l.board l.readers.again
    × IsPairOver (length (normal_of l.board).names) l.readers.last
    × (l.client.program ≡ l.program)
