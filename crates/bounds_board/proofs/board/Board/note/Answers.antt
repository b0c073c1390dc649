use Rattle.std.proofs.Common.{◌<◌, ◌∙◌, length, sym, ap, subst, arith}
use Rattle.anytime_core.specs.Bits.{all_words}
use Rattle.bounds_board.specs.Rule.{IsView, Place}
use Rattle.bounds_board.specs.Board.{IsSeatOf, normal_of}
use Rattle.bounds_board.proofs.RuleLemmas.{notes}
use Rattle.bounds_board.proofs.ViewLemmas.{note_is, both_zeros}
use Rattle.bounds_board.proofs.board.Board.note.Goals as goal

pub split_seat-noted-requires : goal.split_seat-noted-requires
split_seat-noted-requires c =
    let board = c.args.self.now in
    let own = subst (IsSeatOf board) (sym c.seat.view_is) c.requires in
    let some : 0 < all_words (length (normal_of board).names) = omega arith in (
      own.same_table,
      subst (λ n. 0 < n) (sym board.counts) some,
      notes board.table.shared.key c.seat.inside.seat.id c.seat.inside.seat.me.0
          c.seat.invariant.1.is_live,
    )

pub invariant_of-result : goal.invariant_of-result
invariant_of-result c =
    let me = c.split_seat-noted.ensures.4 in (
      ap (λ m. m.1) me,
      subst IsView (sym (ap (λ m. m.0) me))
          (note_is c.seat.inside.seat.me.0 c.seat.invariant.1),
    )

pub returns-clause-same : goal.returns-clause-same
returns-clause-same c =
    ap (λ m. m.0.actor.seen) c.split_seat-noted.ensures.4
    ∙ both_zeros c.seat.inside.seat.me.0.actor.seen
    ∙ ap (λ (p : Place). p.view.actor.seen) c.seat.view_is
