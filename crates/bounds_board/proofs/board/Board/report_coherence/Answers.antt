use Rattle.std.proofs.Common.{arith}
use Rattle.anytime_core.specs.Machine.{flag_of}
use Rattle.std.specs.Prelude.{if◌then◌else◌}
use Rattle.bounds_board.specs.Board.{view_of}
use Rattle.bounds_board.proofs.ReportLemmas.{holds_mask, flag_bit}
use Rattle.bounds_board.proofs.board.Board.report_coherence.Goals as goal

pub returns-clause-reported : goal.returns-clause-reported
returns-clause-reported c =
    let met = c.put_state.ensures.met in
    holds_mask (view_of c.args.seat.now) (view_of c.put_state.new.seat) _ 0 met.0
    (flag_of c.args.coherent) (if c.args.coherent then 0 else 1) met.1 c.put_state.ensures.viewed.0
    (omega arith) (flag_bit c.args.coherent)
