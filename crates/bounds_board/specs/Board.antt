-- Boards and their seats.
use Rattle.std.specs.Prelude.{◌≡◌, ℕ, List, length}
use Rattle.ground_program.specs.declared.program.Mode.{Mode}
use Rattle.normal_program.specs.declared.normal.Normal.{Normal}
use Rattle.anytime_core.specs.Bits.{all_words}
use Rattle.anytime_core.specs.Knowing.{newcomer}
use Rattle.bounds_board.specs.declared.view.View.{View}
use Rattle.bounds_board.specs.declared.board.Board.{Board}
use Rattle.bounds_board.specs.Rule.{Place}

-- the normal form that a board is about
abbrev pub normal_of : Board → Normal
normal_of board = board.table.shared.key.normal.value

-- which consequences it is about
abbrev pub mode_of : Board → Mode
mode_of board = board.table.shared.key.mode

-- what a seat knows
abbrev pub view_of : Place → View
view_of seat = seat.view

-- the words that a seat has seen
abbrev pub seen_of : Place → List ℕ
seen_of seat = (view_of seat).actor.seen

-- the board is about this normal form and mode
pub record IsBoardOf (normal : Normal) (mode : Mode) (board : Board) : Type 0 where
  pub about : normal_of board ≡ normal
  pub asked : mode_of board ≡ mode

-- the seat belongs to the board
pub record IsSeatOf (board : Board) (seat : Place) : Type 0 where
  pub same_table : seat.table ≡ board.table.shared.table_id
  pub about : (view_of seat).normal ≡ normal_of board
  pub asked : (view_of seat).mode ≡ mode_of board

-- a seat of the board that has seen nothing and made no step
pub record IsFirstSeat (board : Board) (seat : Place) : Type 0 where
  pub of_board : IsSeatOf board seat
  pub fresh : (view_of seat).actor ≡ newcomer (all_words (length (normal_of board).names))
