-- The empty set as an answer set, on a board.
use Rattle.std.proofs.Common.{List, Bool, sym, subst}
use Rattle.ground_program.specs.declared.program.Mode.TheVariants.{Cautious}
use Rattle.normal_program.specs.declared.normal.Normal.{Normal}
use Rattle.normal_program.specs.Normal.{IsAnswerSetN}
use Rattle.bounds_board.specs.declared.board.Board.{Board}
use Rattle.bounds_board.specs.Board.{IsBoardOf, normal_of, mode_of}
use Rattle.bench_board.specs.Blank.{IsBlank, IsEmpty}

-- an empty answer set of the normal form is one of the board's
pub blank_on : (normal : Normal) (board : Board) (set : List Bool)
    → IsBoardOf normal Cautious board → IsAnswerSetN normal set → IsEmpty set
    → IsBlank (normal_of board) (mode_of board) set
blank_on normal board set made answer empty = record {
  asked = made.asked;
  answer = subst (λ form. IsAnswerSetN form set) (sym made.about) answer;
  empty = empty;
}
