use Rattle.std.proofs.Common.{◌<◌, length, sym, subst}
use Rattle.normal_program.specs.declared.normal.Normal.{Normal}
use Rattle.anytime_core.specs.declared.event.Event.TheVariants.{ReadWord}
use Rattle.anytime_core.specs.Bits.{all_words}
use Rattle.bounds_board.specs.Board.{IsSeatOf}
use Rattle.bounds_board.proofs.RuleLemmas.{teaches}
use Rattle.bounds_board.proofs.board.Board.load.Goals as goal

pub load-requires : goal.load-requires
load-requires c =
    let board = c.args.self.now in
    let own = subst (IsSeatOf board) (sym c.seat.view_is) c.requires.seat in (
      own.same_table,
      subst (λ n. c.args.place < n) (sym board.counts) c.requires.place,
      teaches board.table.shared.key _ c.seat.inside.seat.id c.seat.inside.seat.me c.args.place
          (ReadWord 0 c.args.place) (λ n. n) c.seat.invariant.1.is_live
          (subst (λ (n : Normal). c.args.place < all_words (length n.names)) (sym own.about)
          c.requires.place)
          (λ n bit has. has) (λ n trues. trues),
    )
