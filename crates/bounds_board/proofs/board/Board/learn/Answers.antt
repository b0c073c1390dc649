use Rattle.std.proofs.Common.{◌<◌, ◌∙◌, length, sym, ap, subst, arith}
use Rattle.anytime_core.specs.Bits.{all_words}
use Rattle.bounds_board.specs.Rule.{IsView}
use Rattle.bounds_board.specs.Board.{IsSeatOf, normal_of}
use Rattle.bounds_board.proofs.RuleLemmas.{learns}
use Rattle.bounds_board.proofs.ViewLemmas.{learner_is}
use Rattle.bounds_board.proofs.board.Board.learn.Goals as goal

pub join_seat-requires : goal.join_seat-requires
join_seat-requires c =
    let board = c.args.self.now in
    let own = subst (IsSeatOf board) (sym c.seat.view_is) c.requires.seat in
    let theirs = subst (IsSeatOf board) (sym c.noted.view_is) c.requires.noted in
    let some : 0 < all_words (length (normal_of board).names) = omega arith in (
      own.same_table,
      theirs.same_table,
      c.noted.invariant.0,
      subst (λ n. 0 < n) (sym board.counts) some,
      learns board.table.shared.key c.seat.inside.seat.id c.seat.inside.seat.me.0
          c.noted.inside.seat.id c.noted.inside.seat.me.0 c.seat.invariant.1.is_live
          c.noted.invariant.1.is_live,
    )

pub invariant_of-seat : goal.invariant_of-seat
invariant_of-seat c =
    let board = c.args.self.now in
    let own = subst (IsSeatOf board) (sym c.seat.view_is) c.requires.seat in
    let theirs = subst (IsSeatOf board) (sym c.noted.view_is) c.requires.noted in
    let me = c.join_seat.ensures.2 in (
      ap (λ m. m.1) me ∙ c.seat.invariant.0,
      subst IsView (sym (ap (λ m. m.0) me))
          (learner_is c.seat.inside.seat.me.0 c.noted.inside.seat.me.0 c.seat.invariant.1
          c.noted.invariant.1 (own.about ∙ sym theirs.about) (own.asked ∙ sym theirs.asked)),
    )
