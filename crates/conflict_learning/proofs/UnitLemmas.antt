-- A learned clause forces its asserting literal after going back.
use Rattle.std.proofs.Common.{◌≡◌, ◌≢◌, ◌<◌, ◌≤◌, ℕ, List, [], ◌∷◌, true, ap, sym, ◌∙◌, subst, inl}
use Rattle.std.proofs.Common.{inr, arith, eqb, not, get_or}
use Rattle.std.specs.Prelude.{All, Contains, IsSomeAnd}
use Rattle.std.proofs.lemmas.Bool.{eq-eqb, ne_eqb, false≢true, not_from_false}
use Rattle.std.proofs.lemmas.List.Elements.{All-contains_itself, All-filter, All-head, All-tail}
use Rattle.std.proofs.lemmas.List.Elements.{filter_passes}
use Rattle.clause_store.specs.declared.literal.Lit.{Lit}
use Rattle.clause_store.specs.declared.step.Step.{Step}
use Rattle.clause_store.specs.Entailment.{others}
use Rattle.clause_store.specs.Standing.{IsFalse}
use Rattle.clause_store.specs.Trail.{present_level}
use Rattle.clause_store.specs.Laws.{IsAssignedBy}
use Rattle.clause_store.proofs.BackLemmas.{values_after_back}
use Rattle.clause_store.proofs.LiteralLemmas.{first_or_later, has_kept, lit_of_code}
use Rattle.conflict_learning.specs.Analysis.{level_at, greatest_level}
use Rattle.conflict_learning.specs.Laws.{BackIsLower, LearnedIsAUnit}
use Rattle.conflict_learning.proofs.AssignedLemmas.{refuter, level_found}

-- no literal is above the greatest level
at_most_greatest : (steps : List Step) (lits : List Lit) (lit : Lit) → Contains lits lit
    → level_at steps lit ≤ greatest_level steps lits
at_most_greatest steps [] lit here = absurd (omega (arith, here.1))
at_most_greatest steps (first ∷ rest) lit here =
    elim (first_or_later first lit rest here) [
      | inl same ↦ let e : level_at steps first ≡ level_at steps lit = ap (level_at steps) same in
          omega (arith, e)
      | inr later ↦ omega (arith, at_most_greatest steps rest lit later)
    ]

-- where all are below a level, so is the greatest
greatest_below : (steps : List Step) (lits : List Lit) (level : ℕ) → 0 < level
    → All (λ lit. level_at steps lit < level) lits → greatest_level steps lits < level
greatest_below steps [] level some below = some
greatest_below steps (first ∷ rest) level some below =
    omega (
      arith,
      All-head (λ lit. level_at steps lit < level) first rest below,
      greatest_below steps rest level some
          (All-tail (λ lit. level_at steps lit < level) first rest below),
    )

-- a literal beside another differs from it
pub beside_differs : (other lit : Lit) → not (eqb other.0 lit.0) ≡ true → other ≢ lit
beside_differs other lit passes same =
    false≢true (sym (ap not (eq-eqb other.0 lit.0 (ap (λ l. l.0) same))) ∙ passes)

-- the level to go back to is below the present one
pub back_is_lower : BackIsLower
back_is_lower steps clause lit above asserts =
    greatest_below steps (others clause lit) (present_level steps) above
    (λ k d inside.
    All-filter (λ other. not (eqb other.0 lit.0))
    (λ other. other ≢ lit → level_at steps other < present_level steps) clause asserts.others k
    d inside
    (beside_differs (get_or (others clause lit) k d) lit
    (filter_passes (λ other. not (eqb other.0 lit.0)) clause k d inside)))

-- a false literal was assigned at its level
assigned_by : (steps : List Step) (lit : Lit) (level : ℕ) → IsFalse steps lit
    → level_at steps lit ≤ level → IsAssignedBy level steps lit
assigned_by steps lit level wrong below =
    let by = refuter steps lit wrong in
    let found = level_found steps lit by.step by.found in
    subst (λ o. IsSomeAnd o (λ at. at ≤ level)) (sym found.1) (subst (λ n. n ≤ level) found.0 below)

-- after going back the learned clause is a unit, of its asserting literal
pub learned_is_a_unit : LearnedIsAUnit
learned_is_a_unit trail clause lit back is above wrong asserts back_is =
    record {
      here = asserts.here;
      unset = (values_after_back trail back lit is).unset
          (λ by.
          let low : present_level trail.steps ≤ back =
          subst (λ o. IsSomeAnd o (λ at. at ≤ back)) asserts.present by in
          absurd (omega (arith, low, back_is, back_is_lower trail.steps clause lit above asserts)));
      others = λ k d inside differs.
          let beside : Contains (others clause lit) (get_or clause k d) =
          has_kept (λ other. not (eqb other.0 lit.0)) clause (get_or clause k d)
          (All-contains_itself clause k d inside)
          (not_from_false (eqb (get_or clause k d).0 lit.0)
          (ne_eqb (get_or clause k d).0 lit.0
          (λ same. differs (lit_of_code (get_or clause k d) lit same)))) in
          let low : level_at trail.steps (get_or clause k d) ≤ back =
          omega (
            arith,
            back_is,
            at_most_greatest trail.steps (others clause lit) (get_or clause k d)
                beside,
          ) in
          (values_after_back trail back (get_or clause k d) is).kept
          (assigned_by trail.steps (get_or clause k d) back (wrong k d inside) low)
          ∙ wrong k d inside;
    }
