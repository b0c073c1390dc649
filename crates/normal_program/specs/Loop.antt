-- Local clauses: loop clauses, and clauses that speak of one weight body alone.
use Rattle.std.specs.Prelude.{◌≡◌, ◌≤◌, ◌<◌, ◌⊎◌, ◌||◌, not, false, ℕ, Bool, if◌then◌else◌, List}
use Rattle.std.specs.Prelude.{length, All, Any, Contains, sum_by, Some, slice_get, IsSomeAnd}
use Rattle.ground_program.specs.declared.program.Kind.TheVariants.{Disjunctive}
use Rattle.ground_program.specs.Meaning.{IsSetOver, IsPart}
use Rattle.clause_store.specs.declared.literal.Lit.{Lit}
use Rattle.clause_store.specs.Clause.{variable, HoldsIn}
use Rattle.normal_program.specs.declared.normal.Part.{Part}
use Rattle.normal_program.specs.declared.normal.BodyOf.{BodyOf}
use Rattle.normal_program.specs.declared.normal.NormalRule.{NormalRule}
use Rattle.normal_program.specs.declared.normal.Normal.{Normal}
use Rattle.normal_program.specs.Body.{IsWeightBody}
use Rattle.normal_program.specs.Normal.{body_var, extension}
use Rattle.normal_program.specs.Clauses.{positive, negative, literal_of, has_lit, has_atom}

-- whether a part counts beside a clause and an atom set: its literal doesn't stand in the clause
-- and is no atom of the set
abbrev pub is_beside : List ℕ → List Lit → Part → Bool
is_beside atoms clause part =
    not
    (has_lit clause (literal_of part.lit)
    || (if part.lit.negated then false else has_atom atoms part.lit.atom))

-- the weight that a body can still reach beside a clause and an atom set
abbrev pub weight_beside : List ℕ → List Lit → BodyOf → ℕ
weight_beside atoms clause body =
    sum_by (λ part. if is_beside atoms clause part then part.weight else 0) body.parts

-- the clause has the negation of a head outside the atom set
abbrev pub DeniesOtherHead : List ℕ → List Lit → List ℕ → Type 0
DeniesOtherHead atoms clause heads =
    Any (λ head. (¬ Contains atoms head) × Contains clause (negative head)) heads

-- a loop clause answers for a rule: with the body's variable, by too little weight, or with another
-- head
abbrev pub AnswersFor : Normal → List ℕ → List Lit → NormalRule → Type 0
AnswersFor normal atoms clause rule =
    Contains clause (positive (body_var normal rule.body))
    ⊎ (IsSomeAnd (slice_get normal.bodies rule.body)
    (λ body. weight_beside atoms clause body < body.bound)
    ⊎ ((rule.kind ≡ Disjunctive) × DeniesOtherHead atoms clause rule.heads))

-- an atom of a normal form
pub record IsAtomOf (normal : Normal) (atom : ℕ) : Type 0 where
  pub first : 1 ≤ atom
  pub last : atom ≤ normal.atoms

-- a loop clause for an atom set
pub record IsLoopClauseFor (normal : Normal) (atoms : List ℕ) (clause : List Lit) : Type 0 where
  pub over : All (IsAtomOf normal) atoms
  pub denies : Any (λ atom. Contains clause (negative atom)) atoms
  pub rules : All (λ rule. Any (Contains atoms) rule.heads → AnswersFor normal atoms clause rule)
      normal.rules

-- a loop clause
abbrev pub IsLoopClause : Normal → List Lit → Type 0
IsLoopClause normal clause = (atoms : List ℕ) × IsLoopClauseFor normal atoms clause

-- the clause has only the variable and the atoms of the weight body of this number
pub record SpeaksOf (normal : Normal) (clause : List Lit) (number : ℕ) (body : BodyOf) :
    Type 0 where
  pub here : slice_get normal.bodies number ≡ Some body
  pub weight : IsWeightBody body
  pub only :
      All
      (λ lit. (variable lit ≡ body_var normal number)
      ⊎ Any (λ part. variable lit ≡ part.lit.atom) body.parts)
      clause

-- the clause speaks of some weight body alone
abbrev pub SpeaksOfOne : Normal → List Lit → Type 0
SpeaksOfOne normal clause = (number : ℕ) × (body : BodyOf) × SpeaksOf normal clause number body

-- a clause that speaks of one weight body and holds by its meaning
pub record FollowsFromBody (normal : Normal) (clause : List Lit) : Type 0 where
  pub one : SpeaksOfOne normal clause
  pub holds : (set : List Bool) → IsSetOver normal.atoms set
      → HoldsIn (extension normal set set) clause

-- a local clause
abbrev pub IsLocal : Normal → List Lit → Type 0
IsLocal normal clause = IsLoopClause normal clause ⊎ FollowsFromBody normal clause

-- a clause local within a set: it speaks of one weight body and holds for each part of the set
pub record IsLocalWithin (normal : Normal) (set : List Bool) (clause : List Lit) : Type 0 where
  pub one : SpeaksOfOne normal clause
  pub holds :
      (part : List Bool) → length part ≡ length set → IsPart part set
      → HoldsIn (extension normal set part) clause
