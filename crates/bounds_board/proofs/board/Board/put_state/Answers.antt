use Rattle.std.proofs.Common.{◌≡◌, ◌<◌, ℕ, length, sym, subst, arith, rules}
use Rattle.std.specs.Prelude.{bit_or, nat_eq}
use Rattle.normal_program.specs.declared.normal.Normal.{Normal}
use Rattle.anytime_core.specs.declared.event.Event.TheVariants.{ReportState}
use Rattle.anytime_core.specs.Bits.{all_words}
use Rattle.anytime_core.specs.Truth.{IsTrueWord}
use Rattle.anytime_core.specs.Machine.{flag_of}
use Rattle.anytime_core.proofs.BitLemmas.{bit_or_left}
use Rattle.anytime_core.proofs.TruthLemmas.{true_or, true_flag}
use Rattle.bounds_board.specs.Board.{IsSeatOf, normal_of, mode_of}
use Rattle.bounds_board.proofs.RuleLemmas.{teaches, true_word_of}
use Rattle.bounds_board.proofs.board.Board.put_state.Goals as goal

pub fetch_or-requires : goal.fetch_or-requires
fetch_or-requires c =
    let board = c.args.self.now in
    let own = subst (IsSeatOf board) (sym c.seat.view_is) c.requires.seat in
    let view = c.seat.inside.seat.me.0 in
    let mask : ℕ = c.if-coherent.mask in
    let mask_is : mask ≡ flag_of c.args.coherent = search rules in
    let trues : IsTrueWord (normal_of board) (mode_of board) 0 mask =
    subst (λ n. IsTrueWord (normal_of board) (mode_of board) 0 n) (sym mask_is)
    (true_flag (normal_of board) (mode_of board) c.args.coherent c.requires.holds) in
    let within : 0 < all_words (length (normal_of board).names) = omega arith in (
      own.same_table,
      subst (λ n. 0 < n) (sym board.counts) within,
      teaches board.table.shared.key _ c.seat.inside.seat.id c.seat.inside.seat.me 0
          (ReportState 0 (nat_eq mask 1)) (λ n. bit_or n mask)
          c.seat.invariant.1.is_live
          (subst (λ (n : Normal). 0 < all_words (length n.names)) (sym own.about) within)
          (λ n bit has. bit_or_left n mask bit has)
          (λ n known. true_or view.normal view.mode 0 n mask known
          (true_word_of (normal_of board) view.normal (mode_of board) view.mode 0 mask
          own.about own.asked trues)),
    )
