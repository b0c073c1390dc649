-- What a scene of the board is.
use Rattle.std.specs.Prelude.{◌≡◌, length}
use Rattle.ground_program.specs.declared.program.Program.{Program}
use Rattle.ground_program.specs.declared.program.Mode.{Mode}
use Rattle.ground_program.specs.declared.pair.Pair.{Pair}
use Rattle.ground_program.specs.Program.{IsProgram}
use Rattle.ground_program.specs.Bounds.{IsPairOver}
use Rattle.normal_program.specs.declared.normal.Normal.{Normal}
use Rattle.normal_program.specs.Limit.{IsNormal}
use Rattle.normal_program.specs.Normal.{IsNormalFormOf}
use Rattle.bounds_board.specs.declared.board.Board.{Board}
use Rattle.bounds_board.specs.Board.{IsSeatOf, mode_of, normal_of}
use Rattle.bounds_board.specs.Rule.{Place}

-- a board of a program's normal form in this mode, a seat of it, and a pair for its candidates
pub record IsReady (mode : Mode) (program : Program) (normal : Normal) (board : Board)
    (seat : Place) (pair : Pair) : Type 0 where
  pub valid : IsProgram program
  pub is_normal : IsNormal normal
  pub form : IsNormalFormOf normal program
  pub about : normal_of board ≡ normal
  pub asked : mode_of board ≡ mode
  pub of_board : IsSeatOf board seat
  pub over : IsPairOver (length (normal_of board).names) pair
