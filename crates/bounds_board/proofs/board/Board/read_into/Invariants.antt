use Rattle.bounds_board.specs.Board.{view_of}
use Rattle.bounds_board.proofs.ReadLemmas.{HasRead}
use Rattle.bounds_board.proofs.board.Board.read_into.Given as goal

abbrev pub invariant-loop-word : goal.invariant-loop-word
invariant-loop-word l = HasRead l.self (view_of l.fn.seat) l.seat l.pair l.word
