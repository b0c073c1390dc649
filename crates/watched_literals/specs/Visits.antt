-- What becomes of a clause one of whose watched literals is false. No public clause cites this
-- module.
use Rattle.std.specs.Prelude.{◌≡◌, ◌≢◌, ◌≤◌, ◌<◌, ℕ, List, get_or, slice_get, Some, All, Contains}
use Rattle.clause_store.specs.declared.literal.Lit.{Lit}
use Rattle.clause_store.specs.declared.step.Step.{Step}
use Rattle.clause_store.specs.Standing.{IsFalse, IsFalseOn}
use Rattle.watched_literals.specs.Chains.{none}
use Rattle.watched_literals.specs.declared.visit.Visit.{Visit}
use Rattle.watched_literals.specs.declared.visit.Visit.TheVariants.{Stays, Moves, Implies}
use Rattle.watched_literals.specs.declared.visit.Visit.TheVariants.{IsFalse as IsFalseClause}

-- the literal at a place isn't false and isn't the other one
pub record IsOpenAt (steps : List Step) (other : Lit) (clause : List Lit) (at : ℕ) : Type 0 where
  pub lit : Lit
  pub here : slice_get clause at ≡ Some lit
  pub differs : lit ≢ other
  pub not_false : ¬ IsFalse steps lit

-- a literal of a clause isn't false and isn't the other one
pub record IsOpenLit (steps : List Step) (other : Lit) (clause : List Lit) (to : Lit) :
    Type 0 where
  pub contained : Contains clause to
  pub differs : to ≢ other
  pub not_false : ¬ IsFalse steps to

-- all literals but the other one are false
abbrev pub AreFalseBut : List Step → Lit → List Lit → Type 0
AreFalseBut steps other clause = All (λ lit. lit ≢ other → IsFalse steps lit) clause

-- and so from one place to another
abbrev pub AreFalseWithin : List Step → Lit → List Lit → ℕ → ℕ → Type 0
AreFalseWithin steps other clause from end =
    (at : ℕ) (d : Lit) → from ≤ at → at < end → get_or clause at d ≢ other
    → IsFalse steps (get_or clause at d)

-- all literals but the other one are false, and it isn't
pub record ForcesOther (steps : List Step) (other : Lit) (clause : List Lit) : Type 0 where
  pub falses : AreFalseBut steps other clause
  pub not_false : ¬ IsFalse steps other

-- what the other literal says where all others are false
abbrev pub IsByOther : List Step → Lit → Visit → Type 0
IsByOther steps other Stays = ⊥
IsByOther steps other (Moves to place) = ⊥
IsByOther steps other Implies = ¬ IsFalse steps other
IsByOther steps other IsFalseClause = IsFalse steps other

-- what each case that comes of a look at all its literals says of the clause
abbrev pub IsVisited : List Step → List Lit → Lit → Visit → Type 0
IsVisited steps clause other Stays = ⊥
IsVisited steps clause other (Moves to place) =
    IsOpenLit steps other clause to × (place ≢ none)
IsVisited steps clause other Implies = ForcesOther steps other clause
IsVisited steps clause other IsFalseClause = IsFalseOn steps clause
