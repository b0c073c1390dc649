-- What is true of a normal form and asked in cautious mode is true for a board of it.
use Rattle.std.proofs.Common.{◌≡◌, ◌∙◌, ℕ, List, Bool, true, false, length, replicate, sym, ap}
use Rattle.std.proofs.Common.{subst}
use Rattle.std.proofs.lemmas.List.{length-replicate}
use Rattle.ground_program.specs.declared.pair.Pair.{Pair}
use Rattle.ground_program.specs.declared.program.Mode.{Mode}
use Rattle.ground_program.specs.declared.program.Mode.TheVariants.{Cautious}
use Rattle.ground_program.specs.Bounds.{IsCandidate, IsPairOver}
use Rattle.normal_program.specs.declared.normal.Normal.{Normal}
use Rattle.normal_program.specs.Normal.{IsAnswerSetN}
use Rattle.anytime_core.specs.Truth.{IsConsequenceN}
use Rattle.bounds_board.specs.declared.board.Board.{Board}
use Rattle.bounds_board.specs.Board.{mode_of, normal_of}

module _ (board : Board) (normal : Normal) (about : normal_of board ≡ normal) where
  pub candidate_for_board : (cand : ℕ) → IsCandidate normal.names cand
      → IsCandidate (normal_of board).names cand
  candidate_for_board cand =
      subst (λ (n : Normal). IsCandidate n.names cand) (sym about)

  pub consequence_for_board : mode_of board ≡ Cautious → (cand : ℕ)
      → IsConsequenceN normal Cautious cand
      → IsConsequenceN (normal_of board) (mode_of board) cand
  consequence_for_board asked cand holds =
      subst (λ (n : Normal). IsConsequenceN n (mode_of board) cand) (sym about)
      (subst (λ (mode : Mode). IsConsequenceN normal mode cand) (sym asked) holds)

  pub answer_for_board : (set : List Bool) → IsAnswerSetN normal set
      → IsAnswerSetN (normal_of board) set
  answer_for_board set = subst (λ (n : Normal). IsAnswerSetN n set) (sym about)

-- a pair that was opened for the candidates of a board is one for them
pub opened_pair : (candidates count : ℕ) (pair : Pair) → count ≡ candidates
    → pair.lower ≡ replicate count false → pair.upper ≡ replicate count true
    → IsPairOver candidates pair
opened_pair candidates count pair is lower upper = record {
  lower = ap length lower ∙ length-replicate count false ∙ is;
  upper = ap length upper ∙ length-replicate count true ∙ is;
}
