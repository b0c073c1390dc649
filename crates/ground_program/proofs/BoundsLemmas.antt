-- The opening pair, and pairs within pairs.
use Rattle.std.proofs.Common.{◌≡◌, ◌≤◌, ◌-◌, ℕ, true, false, length, replicate, arith, sym, ap, ◌∙◌}
use Rattle.std.proofs.Common.{subst, true≢false}
use Rattle.std.proofs.lemmas.Bool.{cases_lt}
use Rattle.std.proofs.Common.{inl, inr}
use Rattle.std.proofs.lemmas.List.{length-replicate, get_or-replicate}
use Rattle.std.proofs.Math.ListN.{get_or-eq_default}
use Rattle.ground_program.specs.declared.program.Mode.{Mode}
use Rattle.ground_program.specs.declared.program.Program.{Program}
use Rattle.ground_program.specs.declared.pair.Pair.{Pair}
use Rattle.ground_program.specs.Bounds.{Encloses, HasCandidate}

-- a list of false values has no candidate
none-of : (n cand : ℕ) → ¬ HasCandidate (replicate n false) cand
none-of n cand has =
    elim (cases_lt (cand - 1) n) [
      | inl below ↦ true≢false (sym has ∙ get_or-replicate n (cand - 1) false false below)
      | inr past ↦ true≢false
          (sym has ∙ get_or-eq_default (replicate n false) false
          (omega (arith, past, length-replicate n false)))
    ]

-- a list of true values has each candidate
all-of : (n cand : ℕ) → 1 ≤ cand → cand ≤ n → HasCandidate (replicate n true) cand
all-of n cand first last = get_or-replicate n (cand - 1) true false (omega arith)

pub opening-encloses : (program : Program) (mode : Mode) (pair : Pair)
    → pair.lower ≡ replicate (length program.names) false
    → pair.upper ≡ replicate (length program.names) true
    → Encloses program mode pair
opening-encloses program mode pair lower upper = record {
  over = record {
    lower = ap length lower ∙ length-replicate (length program.names) false;
    upper = ap length upper ∙ length-replicate (length program.names) true;
  };
  lower = λ cand _ has.
      absurd
      (none-of (length program.names) cand (subst (λ bits. HasCandidate bits cand) lower has));
  upper = λ cand is _.
      subst (λ bits. HasCandidate bits cand) (sym upper)
      (all-of (length program.names) cand is.first is.last);
}
