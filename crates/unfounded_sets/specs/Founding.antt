-- Which atoms are founded on a trail. Founding adds the heads of rules whose bodies can still hold
-- and are reached by what is founded already.
use Rattle.std.specs.Prelude.{◌≡◌, ◌≤◌, ◌⊎◌, ℕ, Bool, true, false, not, if◌then◌else◌, List}
use Rattle.std.specs.Prelude.{All, Any, sum_by, slice_get, IsSomeAnd}
use Rattle.ground_program.specs.declared.program.AtomLit.{AtomLit}
use Rattle.ground_program.specs.declared.program.Kind.TheVariants.{Disjunctive}
use Rattle.ground_program.specs.Meaning.{has, IsIn}
use Rattle.clause_store.specs.declared.literal.Lit.{Lit}
use Rattle.clause_store.specs.declared.literal.Value.{Value}
use Rattle.clause_store.specs.declared.literal.Value.TheVariants.{Yes, No, Unset}
use Rattle.clause_store.specs.declared.step.Step.{Step}
use Rattle.clause_store.specs.Trail.{value_of}
use Rattle.clause_store.specs.Standing.{IsFalse}
use Rattle.normal_program.specs.declared.normal.Part.{Part}
use Rattle.normal_program.specs.declared.normal.NormalRule.{NormalRule}
use Rattle.normal_program.specs.declared.normal.Normal.{Normal}
use Rattle.normal_program.specs.Normal.{body_var}
use Rattle.normal_program.specs.Clauses.{positive, negative, literal_of}
use Rattle.normal_program.specs.Loop.{IsAtomOf}

-- whether a value is false
abbrev pub is_no : Value → Bool
is_no Yes = false
is_no No = true
is_no Unset = false

-- whether a literal is false
abbrev pub is_false : List Step → Lit → Bool
is_false steps lit = is_no (value_of steps lit)

-- whether a literal of a body counts: a negative one unless it is false, a positive one where its
-- atom is in the set
abbrev pub counts_with : List Step → List Bool → AtomLit → Bool
counts_with steps set lit =
    if lit.negated then not (is_false steps (literal_of lit)) else has set lit.atom

-- the weights of the literals that count
abbrev pub founding_weight : List Step → List Bool → List Part → ℕ
founding_weight steps set parts =
    sum_by (λ part. if counts_with steps set part.lit then part.weight else 0) parts

-- a rule is reached with a set: the variable of its body isn't false, and the weights of the
-- literals that count reach the bound
pub record IsReached (normal : Normal) (steps : List Step) (set : List Bool) (rule : NormalRule) :
    Type 0 where
  pub possible : ¬ IsFalse steps (positive (body_var normal rule.body))
  pub enough :
      IsSomeAnd (slice_get normal.bodies rule.body)
      (λ body. body.bound ≤ founding_weight steps set body.parts)

-- the set has all heads that aren't false
abbrev pub HasHeads : List Step → List Bool → List ℕ → Type 0
HasHeads steps set heads = All (λ head. ¬ IsFalse steps (positive head) → IsIn set head) heads

-- where the rule is reached with the set, the set has its heads that aren't false
abbrev pub Founds : Normal → List Step → List Bool → NormalRule → Type 0
Founds normal steps set rule =
    IsReached normal steps set rule → HasHeads steps set rule.heads

-- founding adds nothing to the set
abbrev pub IsClosed : Normal → List Step → List Bool → Type 0
IsClosed normal steps set = All (Founds normal steps set) normal.rules

-- the atom is in the least set to which founding adds nothing
abbrev pub IsFounded : Normal → List Step → ℕ → Type 0
IsFounded normal steps atom = (set : List Bool) → IsClosed normal steps set → IsIn set atom

-- a disjunctive rule has a true head in the set
abbrev pub HasTrueHead : List Step → List Bool → NormalRule → Type 0
HasTrueHead steps set rule =
    (rule.kind ≡ Disjunctive)
    × Any (λ head. IsIn set head × IsFalse steps (negative head)) rule.heads

-- where the rule is reached with the set, the set has its heads that aren't false or, of a
-- disjunctive rule, a true one
abbrev pub KeepsOn : Normal → List Step → List Bool → NormalRule → Type 0
KeepsOn normal steps set rule =
    IsReached normal steps set rule
    → HasHeads steps set rule.heads ⊎ HasTrueHead steps set rule

-- the set keeps each rule so
abbrev pub KeepsAllOn : Normal → List Step → List Bool → Type 0
KeepsAllOn normal steps set = All (KeepsOn normal steps set) normal.rules

-- an atom that isn't false and isn't in the set
pub record IsOpen (normal : Normal) (steps : List Step) (set : List Bool) (atom : ℕ) : Type 0
  where
    pub is_atom : IsAtomOf normal atom
    pub possible : ¬ IsFalse steps (positive atom)
    pub outside : ¬ IsIn set atom

-- the set lacks such an atom
abbrev pub LacksOne : Normal → List Step → List Bool → Type 0
LacksOne normal steps set = (atom : ℕ) × IsOpen normal steps set atom
