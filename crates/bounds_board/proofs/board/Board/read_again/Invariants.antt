use Rattle.bounds_board.specs.Board.{view_of}
use Rattle.bounds_board.proofs.ReadLemmas.{HasRead}
use Rattle.bounds_board.proofs.board.Board.read_again.Given as goal

abbrev pub invariant-loop-at : goal.invariant-loop-at
invariant-loop-at l = HasRead l.self (view_of l.fn.seat) l.seat l.last l.at
