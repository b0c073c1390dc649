use Rattle.bounds_board.specs.Board.{view_of}
use Rattle.bounds_board.proofs.ReportLemmas.{HasReported}
use Rattle.bounds_board.proofs.board.Board.report_set.Given as goal

abbrev pub invariant-loop-word : goal.invariant-loop-word
invariant-loop-word l = HasReported l.self l.set (view_of l.fn.seat) l.seat l.word
