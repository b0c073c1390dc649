-- True words stay true where only true bits are added.
use Rattle.std.proofs.Common.{ℕ, Bool, true, false, List, replicate, set, refl}
use Rattle.std.proofs.Common.{sym, subst, inl, inr, ⊎_elim, ◌↔◌, true≢false}
use Rattle.std.specs.Int.{bit_at}
use Rattle.std.specs.Prelude.{IsTrue}
use Rattle.std.specs.Prelude.{bit_or}
use Rattle.std.proofs.lemmas.Bool.{cases_eq}
use Rattle.std.proofs.lemmas.Nat.Bits.{bit_at-pow_other}
use Rattle.ground_program.specs.declared.program.Mode.{Mode}
use Rattle.normal_program.specs.declared.normal.Normal.{Normal}
use Rattle.anytime_core.specs.Bits.{HasBit, IsPartOf}
use Rattle.anytime_core.specs.Truth.{IsTrueBit, IsTrueWord, AreTrue, IsCoherent}
use Rattle.anytime_core.specs.Machine.{flag_of}
use Rattle.anytime_core.proofs.BitLemmas.{bit_from_or, bit_from_set, zeros_at, no_bit_of_zero}
use Rattle.anytime_core.proofs.BitLemmas.{not_both}

module _ (normal : Normal) (mode : Mode) where
  -- the bits of a joined word are true where those of both are
  pub true_or : (place a b : ℕ) → IsTrueWord normal mode place a → IsTrueWord normal mode place b
      → IsTrueWord normal mode place (bit_or a b)
  true_or place a b one other bit has = ⊎_elim (one bit) (other bit) (bit_from_or a b bit has)

  -- a row of true words in which one becomes another true word
  pub true_set : (words : List ℕ) (place word : ℕ) → AreTrue normal mode words
      → IsTrueWord normal mode place word → AreTrue normal mode (set words place word)
  true_set words place word trues holds other bit has =
      ⊎_elim
      (λ t. subst (λ p. IsTrueBit normal mode p bit) (sym t.0) (holds bit t.1))
      (λ old. trues other bit old)
      (bit_from_set words place word other bit has)

  -- a part of true words is true
  pub true_part : (part whole : List ℕ) → IsPartOf part whole → AreTrue normal mode whole
      → AreTrue normal mode part
  true_part part whole inside trues place bit has = trues place bit (inside place bit has)

  -- where nothing is set, all is true
  pub true_zeros : (count : ℕ) → AreTrue normal mode (replicate count 0)
  true_zeros count place bit has =
      absurd (no_bit_of_zero bit (subst (λ n. HasBit n bit) (zeros_at count place) has))

  -- the flag of what is true of the program is true
  pub true_flag : (coherent : Bool) → IsTrue coherent ↔ IsCoherent normal
      → IsTrueWord normal mode 0 (flag_of coherent)
  true_flag true holds bit has =
      ⊎_elim (λ first. inl (refl, inl (first, holds.0 refl)))
      (λ other. absurd (not_both (bit_at 1 bit) (bit_at-pow_other 0 bit other) has))
      (cases_eq bit 0)
  true_flag false holds bit has =
      ⊎_elim
      (λ second. inl (refl, inr (second, λ coherent. true≢false (sym (holds.1 coherent)))))
      (λ other. absurd (not_both (bit_at 2 bit) (bit_at-pow_other 1 bit other) has))
      (cases_eq bit 1)
