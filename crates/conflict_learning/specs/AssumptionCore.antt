-- What a core says.
use Rattle.std.specs.Prelude.{◌≡◌, Bool, List, ◌∷◌, All, Any, None}
use Rattle.clause_store.specs.declared.literal.Lit.{Lit}
use Rattle.clause_store.specs.declared.step.Step.{Step}
use Rattle.clause_store.specs.Clause.{IsTrueIn, Meets}

-- a literal was decided
abbrev pub IsDecision : List Step → Lit → Type 0
IsDecision steps lit = Any (λ step. (step.lit ≡ lit) × (step.reason ≡ None)) steps

-- a core is the failed literal and then decisions
pub record IsCore (steps : List Step) (failed : Lit) (core : List Lit) : Type 0 where
  pub decisions : List Lit
  pub is : core ≡ failed ∷ decisions
  pub decided : All (IsDecision steps) decisions

-- no assignment that meets the clauses makes all the literals true
abbrev pub CannotMeet : List (List Lit) → List Lit → Type 0
CannotMeet clauses lits =
    (values : List Bool) → Meets values clauses → All (IsTrueIn values) lits → ⊥
