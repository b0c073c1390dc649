use Rattle.std.proofs.Common.{subst}
use Rattle.anytime_core.specs.Bits.{HasBit, in_place}
use Rattle.bounds_board.specs.Board.{normal_of, mode_of, view_of}
use Rattle.bounds_board.proofs.ReportLemmas.{holds_candidate, mask_is, one_in, in_within}
use Rattle.bounds_board.proofs.board.Board.report_in.Goals as goal

pub put_in-requires-clause-bits : goal.put_in-requires-clause-bits
put_in-requires-clause-bits c bit has =
    one_in (normal_of c.args.self.now) (mode_of c.args.self.now) c.args.cand c.requires.cand
    c.requires.holds bit (subst (λ n. HasBit n bit) (mask_is c.args.cand) has)

pub returns-clause-reported : goal.returns-clause-reported
returns-clause-reported c =
    let met = c.put_in.ensures.met in
    holds_candidate (normal_of c.args.self.now) (view_of c.args.seat.now)
    (view_of c.put_in.new.seat) _ (in_place c.args.cand) met.0 c.args.cand
    met.1 c.put_in.ensures.viewed.0 c.requires.seat.about
    (in_within (normal_of c.args.self.now).names c.args.cand c.requires.cand)
