use Rattle.bounds_board.proofs.MaskLemmas.{HasMask}
use Rattle.bounds_board.proofs.board.Board.shown_mask.Given as goal

abbrev pub invariant-loop-place : goal.invariant-loop-place
invariant-loop-place l = HasMask l.self.mode l.set l.atoms l.first l.place l.mask
