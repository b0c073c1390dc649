-- When literals, clauses and lists of clauses are true.
use Rattle.std.proofs.Common.{◌≡◌, ◌<◌, ◌+◌, ◌*◌, ◌/◌, ◌%◌, ◌⊎◌, ℕ, Bool, true, false, not, eqb}
use Rattle.std.proofs.Common.{List, ◌∷◌, zero, suc, length, get_or, Contains, refl, sym, ap, subst}
use Rattle.std.proofs.Common.{◌∙◌, arith, if◌then◌else◌, inl, inr}
use Rattle.std.proofs.lemmas.Bool.{eq-eqb, ne_eqb}
use Rattle.ground_program.specs.declared.program.AtomLit.{AtomLit}
use Rattle.clause_store.specs.declared.literal.Lit.{Lit}
use Rattle.clause_store.specs.Clause.{variable, is_negated, negation, truth, makes_true, IsTrueIn}
use Rattle.clause_store.specs.Clause.{HoldsIn}
use Rattle.clause_store.proofs.LiteralLemmas.{variable-negation, is_negated-negation, any_from}
use Rattle.normal_program.specs.Clauses.{positive, negative, literal_of}

-- the parts of a literal's code
yes_even : (var : ℕ) → (2 * var) % 2 ≡ 0
yes_even var = omega arith

yes_half : (var : ℕ) → (2 * var) / 2 ≡ var
yes_half var = omega arith

no_odd : (var : ℕ) → (2 * var + 1) % 2 ≡ 1
no_odd var = omega arith

no_half : (var : ℕ) → (2 * var + 1) / 2 ≡ var
no_half var = omega arith

-- the variables of literals
pub variable-positive : (var : ℕ) → variable (positive var) ≡ var
variable-positive var = omega arith

-- the variable of a denied variable
pub variable-negative : (var : ℕ) → variable (negative var) ≡ var
variable-negative var = omega arith

-- the variable of a literal of an atom is the atom
pub variable-literal_of : (lit : AtomLit) → variable (literal_of lit) ≡ lit.atom
variable-literal_of lit = by lit.negated
  where
    by : (b : Bool) → variable (if b then negative lit.atom else positive lit.atom) ≡ lit.atom
    by true = variable-negative lit.atom
    by false = variable-positive lit.atom

module _ (values : List Bool) where
  -- the literals of a variable
  pub makes_true-positive : (var : ℕ) → makes_true values (positive var) ≡ truth values var
  makes_true-positive var =
      let even : eqb ((2 * var) % 2) 1 ≡ false =
      ne_eqb ((2 * var) % 2) 1 (λ e. omega (arith, e, yes_even var)) in
      ap (λ b. if b then not (truth values ((2 * var) / 2)) else truth values ((2 * var) / 2)) even
      ∙ ap (truth values) (yes_half var)

  -- a denied variable is true where the variable is false
  pub makes_true-negative : (var : ℕ) → makes_true values (negative var) ≡ not (truth values var)
  makes_true-negative var =
      let odd : eqb ((2 * var + 1) % 2) 1 ≡ true = eq-eqb ((2 * var + 1) % 2) 1 (no_odd var) in
      ap (λ b. if b then not (truth values ((2 * var + 1) / 2))
      else truth values ((2 * var + 1) / 2)) odd ∙ ap (λ v. not (truth values v)) (no_half var)

  flipped : (b t : Bool) → (if not b then not t else t) ≡ not (if b then not t else t)
  flipped true true = refl
  flipped true false = refl
  flipped false true = refl
  flipped false false = refl

  -- a literal or its negation is true
  pub makes_true-negation : (lit : Lit)
      → makes_true values (negation lit) ≡ not (makes_true values lit)
  makes_true-negation lit =
      ap (λ v. if is_negated (negation lit) then not (truth values v) else truth values v)
      (variable-negation lit)
      ∙ ap (λ b. if b then not (truth values (variable lit)) else truth values (variable lit))
      (is_negated-negation lit)
      ∙ flipped (is_negated lit) (truth values (variable lit))

  -- a literal of a body
  pub makes_true-literal_of : (lit : AtomLit)
      → makes_true values (literal_of lit)
      ≡ (if lit.negated then not (truth values lit.atom) else truth values lit.atom)
  makes_true-literal_of lit = by lit.negated
    where
      by : (b : Bool) → makes_true values (if b then negative lit.atom else positive lit.atom)
          ≡ (if b then not (truth values lit.atom) else truth values lit.atom)
      by true = makes_true-negative lit.atom
      by false = makes_true-positive lit.atom

  -- a clause holds by any of its literals
  pub HoldsIn-by : (clause : List Lit) (lit : Lit) → Contains clause lit
      → makes_true values lit ≡ true → HoldsIn values clause
  HoldsIn-by clause lit here true_one = any_from (IsTrueIn values) clause lit here true_one

  -- a clause holds by its first literal
  pub HoldsIn-here : (lit : Lit) (rest : List Lit) → makes_true values lit ≡ true
      → HoldsIn values (lit ∷ rest)
  HoldsIn-here lit rest true_one = (0, lit, omega arith, refl, true_one)

  -- or by one behind it
  pub HoldsIn-there : (lit : Lit) (rest : List Lit) → HoldsIn values rest
      → HoldsIn values (lit ∷ rest)
  HoldsIn-there lit rest some = (suc some.0, some.1, omega (arith, some.2), some.3, some.4)

  -- a clause holds by its first literal or by the rest
  pub HoldsIn-cases : (lit : Lit) (rest : List Lit) → HoldsIn values (lit ∷ rest)
      → (makes_true values lit ≡ true) ⊎ HoldsIn values rest
  HoldsIn-cases lit rest some = by some.0 some.2 some.3
    where
      by : (k : ℕ) → k < length (lit ∷ rest) → get_or (lit ∷ rest) k some.1 ≡ some.1
          → (makes_true values lit ≡ true) ⊎ HoldsIn values rest
      by zero within here = inl (subst (λ one. makes_true values one ≡ true) (sym here) some.4)
      by (suc k) within here = inr (k, some.1, omega (arith, within), here, some.4)
