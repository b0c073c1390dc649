use Rattle.std.proofs.Common.{◌≡◌, ◌<◌, ◌+◌, ◌-◌, ℕ, length, sym, subst, inr, arith}
use Rattle.std.specs.Prelude.{bit_or}
use Rattle.normal_program.specs.declared.normal.Normal.{Normal}
use Rattle.anytime_core.specs.declared.event.Event.TheVariants.{ReportOut}
use Rattle.anytime_core.specs.Bits.{words_for, all_words}
use Rattle.anytime_core.specs.Truth.{IsTrueWord}
use Rattle.anytime_core.proofs.BitLemmas.{bit_or_left}
use Rattle.anytime_core.proofs.TruthLemmas.{true_or}
use Rattle.bounds_board.specs.Board.{IsSeatOf, normal_of, mode_of}
use Rattle.bounds_board.proofs.RuleLemmas.{teaches, true_word_of}
use Rattle.bounds_board.proofs.board.Board.put_out.Goals as goal

pub fetch_or-requires : goal.fetch_or-requires
fetch_or-requires c =
    let board = c.args.self.now in
    let own = subst (IsSeatOf board) (sym c.seat.view_is) c.requires.seat in
    let view = c.seat.inside.seat.me.0 in
    let side : ℕ = words_for (length (normal_of board).names) in
    let place : ℕ = 1 + board.side + c.args.word in
    let halves : board.side ≡ side = board.halves in
    let within : place < all_words (length (normal_of board).names) =
    subst (λ n. 1 + n + c.args.word < all_words (length (normal_of board).names)) (sym halves)
    (let less : c.args.word < side = c.requires.word in omega arith) in
    let trues : IsTrueWord (normal_of board) (mode_of board) place c.args.mask =
    subst (λ n. IsTrueWord (normal_of board) (mode_of board) (1 + n + c.args.word) c.args.mask)
    (sym halves) (λ bit has. inr (inr (c.requires.bits bit has))) in (
      own.same_table,
      subst (λ n. place < n) (sym board.counts) within,
      teaches board.table.shared.key _ c.seat.inside.seat.id c.seat.inside.seat.me place
          (ReportOut 0 (place - (1 + words_for (length view.normal.names))) c.args.mask)
          (λ n. bit_or n c.args.mask)
          c.seat.invariant.1.is_live
          (subst (λ (n : Normal). place < all_words (length n.names)) (sym own.about) within)
          (λ n bit has. bit_or_left n c.args.mask bit has)
          (λ n known. true_or view.normal view.mode place n c.args.mask known
          (true_word_of (normal_of board) view.normal (mode_of board) view.mode place c.args.mask
          own.about own.asked trues)),
    )
