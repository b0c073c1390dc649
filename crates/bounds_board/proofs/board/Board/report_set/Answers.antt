use Rattle.std.proofs.Common.{◌<◌, ◌+◌, ℕ, length, sym, subst, ◌∙◌, arith}
use Rattle.std.specs.Prelude.{bit_or}
use Rattle.ground_program.specs.declared.program.Mode.{Mode}
use Rattle.anytime_core.specs.declared.event.Event.TheVariants.{ReportIn, ReportOut}
use Rattle.anytime_core.specs.Bits.{words_for}
use Rattle.bounds_board.specs.Rule.{Place}
use Rattle.bounds_board.specs.Plays.{Met}
use Rattle.bounds_board.specs.Board.{normal_of, view_of}
use Rattle.bounds_board.proofs.ReportLemmas.{HasReported, reported_start, reported_next, side_place}
use Rattle.bounds_board.proofs.board.Board.report_set.Goals.{in-Cautious, in-Brave}
use Rattle.bounds_board.proofs.board.Board.report_set.Goals as goal

pub loop-word-init : goal.loop-word-init
loop-word-init c =
    let met = c.put_state.ensures.met in
    reported_start c.args.self.now c.args.set.now c.args.seat.now c.put_state.new.seat _ met.0 met.1
    c.put_state.ensures.seat c.put_state.ensures.viewed.0

pub shown_mask-mask-requires-clause-front : goal.shown_mask-mask-requires-clause-front
shown_mask-mask-requires-clause-front c =
    let count : ℕ = length (normal_of c.args.self.now).names in
    let word : ℕ = c.loop-word.word in
    let less : word < words_for count =
    subst (λ n. word < n) c.args.self.now.halves c.loop-word-test.true in
    omega arith

pub loop-word-preserved : goal.loop-word-preserved
loop-word-preserved c =
    let board = c.args.self.now in
    let members = c.args.set.now in
    let first = view_of c.args.seat.now in
    let word : ℕ = c.loop-word.word in
    let less : word < words_for (length (normal_of board).names) =
    subst (λ n. word < n) board.halves c.loop-word-test.true in
    let mask : ℕ = c.shown_mask-mask.result in
    elim c.match-self.branch [
      | in-Cautious w ↦ subst (λ (p : Place). HasReported board members first p (word + 1))
          (sym w.seat-is)
          (reported_next board members first c.loop-word.seat w.put_out.new.seat
          (ReportOut 0 word mask) w.put_out.ensures.met.0 mask word c.loop-word.invariant less
          c.shown_mask-mask.ensures
          (subst (λ (m : Mode). Met (view_of c.loop-word.seat) (view_of w.put_out.new.seat)
          (ReportOut 0 word mask) (side_place (normal_of board) m word)
          (bit_or w.put_out.ensures.met.0 mask))
          (sym w.in-Cautious.is ∙ board.same_mode) w.put_out.ensures.met.1)
          w.put_out.ensures.seat w.put_out.ensures.viewed.0)
      | in-Brave w ↦ subst (λ (p : Place). HasReported board members first p (word + 1))
          (sym w.seat-is)
          (reported_next board members first c.loop-word.seat w.put_in.new.seat
          (ReportIn 0 word mask) w.put_in.ensures.met.0 mask word c.loop-word.invariant less
          c.shown_mask-mask.ensures
          (subst (λ (m : Mode). Met (view_of c.loop-word.seat) (view_of w.put_in.new.seat)
          (ReportIn 0 word mask) (side_place (normal_of board) m word)
          (bit_or w.put_in.ensures.met.0 mask))
          (sym w.in-Brave.is ∙ board.same_mode) w.put_in.ensures.met.1)
          w.put_in.ensures.seat w.put_in.ensures.viewed.0)
    ]
