-- A clause that is false at a fixpoint is new there, and values stay under propagation.
use Rattle.std.proofs.Common.{◌≡◌, ◌⊎◌, not, eqb, List, [], ◌∷◌, get_or}
use Rattle.std.proofs.Common.{sym, subst, inl, inr, arith}
use Rattle.std.specs.Prelude.{All}
use Rattle.std.proofs.lemmas.List.Elements.{All-contains, All-filter, All-map}
use Rattle.clause_store.specs.declared.literal.Lit.{Lit}
use Rattle.clause_store.specs.declared.literal.Value.TheVariants.{Yes, No}
use Rattle.clause_store.specs.declared.step.Step.{Step}
use Rattle.clause_store.specs.Clause.{negation}
use Rattle.clause_store.specs.Entailment.{InClosure, Refutes, negations, others}
use Rattle.clause_store.specs.Laws.{IsStill}
use Rattle.clause_store.specs.Standing.{IsFalse, IsFalseOn}
use Rattle.clause_store.specs.Trail.{value_of}
use Rattle.clause_store.proofs.LiteralLemmas.{has_first}
use Rattle.clause_store.proofs.lemmas.Trails.StillLemmas.{values_stay}
use Rattle.propagator.specs.Laws.{FixpointAbsorbsNoFalse, PropagationKeepsValues}
use Rattle.propagator.proofs.ClosureLemmas.{fixpoint_has_closure, fixpoint_refutes_none, no_negated}

-- the negations of the literals of a false clause are true
negations_true : (steps : List Step) (clause : List Lit) (lit : Lit) → IsFalseOn steps clause
    → All (λ it. value_of steps it ≡ Yes) (negations (others clause lit))
negations_true steps clause lit wrong =
    All-map (λ it. value_of steps it ≡ Yes) negation (others clause lit)
    (λ k d within. no_negated steps (get_or (others clause lit) k d)
    (All-filter (λ other. not (eqb other.0 lit.0)) (IsFalse steps) clause wrong k d within))

-- no false clause is absorbed at a fixpoint
pub fixpoint_absorbs_no_false : FixpointAbsorbsNoFalse
fixpoint_absorbs_no_false trail clauses [] is fixpoint some wrong absorbed =
    absurd (omega (arith, some))
fixpoint_absorbs_no_false trail clauses (lit ∷ rest) is fixpoint some wrong absorbed =
    let true_ones = negations_true trail.steps (lit ∷ rest) lit wrong in
    let is_no : value_of trail.steps lit ≡ No =
    All-contains (IsFalse trail.steps) (lit ∷ rest) lit wrong (has_first lit rest) in
    elim
    (All-contains
    (λ it. Refutes clauses (negations (others (lit ∷ rest) it))
    ⊎ InClosure clauses (negations (others (lit ∷ rest) it)) it) (lit ∷ rest) lit absorbed
    (has_first lit rest)) [
      | inl refuted ↦ fixpoint_refutes_none trail clauses (negations (others (lit ∷ rest) lit)) is
          fixpoint true_ones refuted
      | inr drawn ↦
          (let is_yes : value_of trail.steps lit ≡ Yes =
          fixpoint_has_closure trail clauses (negations (others (lit ∷ rest) lit)) lit is fixpoint
          true_ones drawn in
          cc (is_yes, is_no))
    ]

pub propagation_keeps_values : PropagationKeepsValues
propagation_keeps_values old new lit extends set =
    subst (λ steps. IsStill old.steps steps lit) (sym extends.steps)
    (values_stay old.steps extends.added lit set)
