-- What contracts see of a client.
use Rattle.std.specs.Prelude.{◌≡◌}
use Rattle.ground_program.specs.declared.program.Program.{Program}
use Rattle.ground_program.specs.declared.pair.Pair.{Pair}
use Rattle.ground_program.specs.Program.{IsProgram}
use Rattle.ground_program.specs.Bounds.{Encloses}
use Rattle.normal_program.specs.declared.normal.Normal.{Normal}
use Rattle.normal_program.specs.Limit.{IsNormal}
use Rattle.normal_program.specs.Normal.{IsNormalFormOf}
use Rattle.bounds_board.specs.declared.board.Board.{Board}
use Rattle.bounds_board.specs.Rule.{Place}
use Rattle.bounds_board.specs.Board.{IsSeatOf, normal_of, mode_of}

-- the program with its normal form and its board, the client's seat, and the pair of its last read
pub record Watch : Type 0 where
  pub program : Program
  pub normal : Normal
  pub board : Board
  pub seat : Place
  pub pair : Pair

-- the normal form is the program's, the board is of it, the seat is one of the board, and the pair
-- encloses the consequences
pub record IsWatch (program : Program) (normal : Normal) (board : Board) (seat : Place)
    (pair : Pair) : Type 0 where
  pub valid : IsProgram program
  pub normal_form : IsNormal normal
  pub form : IsNormalFormOf normal program
  pub about : normal_of board ≡ normal
  pub of_board : IsSeatOf board seat
  pub encloses : Encloses program (mode_of board) pair
