-- The place of a literal in the order of bodies.
use Rattle.std.proofs.Common.{◌≡◌, ◌+◌, ℕ, Bool, true, false, refl, sym, ap, ◌∙◌, arith}
use Rattle.std.proofs.Common.{if◌then◌else◌}
use Rattle.ground_program.specs.declared.program.AtomLit.{AtomLit}
use Rattle.normal_program.specs.Body.{rank}

-- literals of one rank are the same
pub rank-injective : (one two : AtomLit) → rank one ≡ rank two → one ≡ two
rank-injective one two same = by one.negated two.negated refl refl
  where
    with : AtomLit → Bool → ℕ
    with lit negated = lit.atom + lit.atom + (if negated then 0 else 1)

    by : (a b : Bool) → one.negated ≡ a → two.negated ≡ b → one ≡ two
    by true true p q =
        let e : one.atom + one.atom + 0 ≡ two.atom + two.atom + 0 =
        sym (ap (λ b. one.atom + one.atom + (if b then 0 else 1)) p) ∙ same
        ∙ ap (λ b. two.atom + two.atom + (if b then 0 else 1)) q in
        let h : one.atom ≡ two.atom = omega (arith, e) in
        λ i. record { atom = h i; negated = (p ∙ sym q) i }
    by false false p q =
        let e : one.atom + one.atom + 1 ≡ two.atom + two.atom + 1 =
        sym (ap (λ b. one.atom + one.atom + (if b then 0 else 1)) p) ∙ same
        ∙ ap (λ b. two.atom + two.atom + (if b then 0 else 1)) q in
        let h : one.atom ≡ two.atom = omega (arith, e) in
        λ i. record { atom = h i; negated = (p ∙ sym q) i }
    by true false p q =
        let e : one.atom + one.atom + 0 ≡ two.atom + two.atom + 1 =
        sym (ap (λ b. one.atom + one.atom + (if b then 0 else 1)) p) ∙ same
        ∙ ap (λ b. two.atom + two.atom + (if b then 0 else 1)) q in
        absurd (omega (arith, e))
    by false true p q =
        let e : one.atom + one.atom + 1 ≡ two.atom + two.atom + 0 =
        sym (ap (λ b. one.atom + one.atom + (if b then 0 else 1)) p) ∙ same
        ∙ ap (λ b. two.atom + two.atom + (if b then 0 else 1)) q in
        absurd (omega (arith, e))
