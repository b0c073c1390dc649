-- Which false literals a loop clause wants. No public clause cites this module.
use Rattle.std.specs.Prelude.{◌≡◌, ◌≤◌, ◌<◌, ◌+◌, ◌⊎◌, ◌&&◌, ◌||◌, ◌↔◌, ℕ, Bool, false}
use Rattle.std.specs.Prelude.{if◌then◌else◌, List, [], ◌∷◌, ◌++◌, All, Any, Contains, length}
use Rattle.std.specs.Prelude.{sum_by, slice_get, IsSomeAnd}
use Rattle.ground_program.specs.declared.program.AtomLit.{AtomLit}
use Rattle.ground_program.specs.declared.program.Kind.TheVariants.{Disjunctive}
use Rattle.ground_program.specs.Meaning.{has, IsIn, IsPart}
use Rattle.clause_store.specs.declared.literal.Lit.{Lit}
use Rattle.clause_store.specs.declared.step.Step.{Step}
use Rattle.clause_store.specs.Clause.{variable, HasNoVariableTwice}
use Rattle.clause_store.specs.Standing.{IsFalse}
use Rattle.normal_program.specs.declared.normal.Part.{Part}
use Rattle.normal_program.specs.declared.normal.NormalRule.{NormalRule}
use Rattle.normal_program.specs.declared.normal.Normal.{Normal}
use Rattle.normal_program.specs.Normal.{body_var}
use Rattle.normal_program.specs.Clauses.{positive, negative, literal_of}
use Rattle.normal_program.specs.Loop.{IsAtomOf}
use Rattle.unfounded_sets.specs.Founding.{is_false, IsOpen}
use Rattle.unfounded_sets.specs.Rounds.{IsSettled}

-- whether a literal is a positive one over the part
abbrev pub is_over : List Bool → AtomLit → Bool
is_over part lit = if lit.negated then false else has part lit.atom

-- whether a literal is false and wanted
abbrev pub is_wanted : List Step → List Bool → AtomLit → Bool
is_wanted steps wanted lit = is_false steps (literal_of lit) && has wanted lit.atom

-- the weight of the literals that aren't over the part, of those that aren't false either, and of
-- those that aren't false and wanted
abbrev pub weight_off : List Bool → List Part → ℕ
weight_off part parts = sum_by (λ it. if is_over part it.lit then 0 else it.weight) parts

abbrev pub weight_possible : List Step → List Bool → List Part → ℕ
weight_possible steps part parts =
    sum_by
    (λ it. if is_false steps (literal_of it.lit) || is_over part it.lit then 0 else it.weight) parts

abbrev pub weight_left : List Step → List Bool → List Bool → List Part → ℕ
weight_left steps part wanted parts =
    sum_by (λ it. if is_wanted steps wanted it.lit || is_over part it.lit then 0 else it.weight)
    parts

-- a true atom outside the part
pub record IsTrueOutside (steps : List Step) (part : List Bool) (atom : ℕ) : Type 0 where
  pub denied : IsFalse steps (negative atom)
  pub outside : ¬ IsIn part atom

-- a head of a disjunctive rule is one
pub record IsOther (steps : List Step) (part : List Bool) (rule : NormalRule) (head : ℕ) : Type 0
  where
    pub disjunctive : rule.kind ≡ Disjunctive
    pub among : Contains rule.heads head
    pub other : IsTrueOutside steps part head

abbrev pub HasOther : List Step → List Bool → NormalRule → Type 0
HasOther steps part rule = (head : ℕ) × IsOther steps part rule head

-- a rule can't derive an atom of the part first: the variable of its body is false, what is
-- possible outside the part stays below the bound, or it is disjunctive and another head is true
abbrev pub IsBlocked : Normal → List Step → List Bool → NormalRule → Type 0
IsBlocked normal steps part rule =
    IsFalse steps (positive (body_var normal rule.body))
    ⊎ (IsSomeAnd (slice_get normal.bodies rule.body)
    (λ body. weight_possible steps part body.parts < body.bound)
    ⊎ HasOther steps part rule)

-- where a rule has a head in the part it is blocked
abbrev pub BlocksIn : Normal → List Step → List Bool → NormalRule → Type 0
BlocksIn normal steps part rule = Any (IsIn part) rule.heads → IsBlocked normal steps part rule

-- an unfounded set of atoms, none of which is false, with this atom
pub record IsLoopPart (normal : Normal) (steps : List Step) (part : List Bool) (atom : ℕ) :
    Type 0 where
  pub places : length part ≡ normal.atoms + 1
  pub here : IsIn part atom
  pub is_atom : (one : ℕ) → IsIn part one → IsAtomOf normal one
  pub possible : (one : ℕ) → IsIn part one → ¬ IsFalse steps (positive one)
  pub blocked : All (BlocksIn normal steps part) normal.rules

-- each atom that isn't false is in the set
abbrev pub HasOpen : Normal → List Step → List Bool → Type 0
HasOpen normal steps founded =
    (atom : ℕ) → IsAtomOf normal atom → ¬ IsFalse steps (positive atom) → IsIn founded atom

-- founding is at its end, and this atom is left over
pub record IsLeft (normal : Normal) (steps : List Step) (founded : List Bool) (atom : ℕ) : Type 0
  where
    pub settled : IsSettled normal steps founded
    pub left : IsOpen normal steps founded atom

-- the part has just the atoms that aren't false and aren't in the set
pub record IsOpenPart (normal : Normal) (steps : List Step) (founded part : List Bool) : Type 0
  where
    pub places : length part ≡ normal.atoms + 1
    pub just : (atom : ℕ) → IsIn part atom ↔ IsOpen normal steps founded atom

-- the wanted literals answer for a rule
abbrev pub IsAnswered : Normal → List Step → List Bool → List Bool → NormalRule → Type 0
IsAnswered normal steps part wanted rule =
    (IsFalse steps (positive (body_var normal rule.body)) × IsIn wanted (body_var normal rule.body))
    ⊎ (IsSomeAnd (slice_get normal.bodies rule.body)
    (λ body. weight_left steps part wanted body.parts < body.bound)
    ⊎ ((head : ℕ) × IsOther steps part rule head × IsIn wanted head))

-- and for each rule with a head in the part
abbrev pub AreAnswered : Normal → List Step → List Bool → List Bool → List NormalRule → Type 0
AreAnswered normal steps part wanted rules =
    All (λ rule. Any (IsIn part) rule.heads → IsAnswered normal steps part wanted rule) rules

-- more is wanted
pub record Wants (normal : Normal) (steps : List Step) (part : List Bool)
    (rules : List NormalRule) (before after : List Bool) : Type 0 where
  pub places : length after ≡ length before
  pub more : IsPart before after
  pub answered : AreAnswered normal steps part after rules

-- the false literals of a body are wanted
pub record MarksFalse (steps : List Step) (parts : List Part) (before after : List Bool) : Type 0
  where
    pub places : length after ≡ length before
    pub more : IsPart before after
    pub marked :
        All (λ it. IsFalse steps (literal_of it.lit) → IsIn after it.lit.atom) parts

-- the one false literal of a variable, if it has one
pub record IsFalseOf (steps : List Step) (var : ℕ) (lit : Lit) : Type 0 where
  pub denied : IsFalse steps lit
  pub of : variable lit ≡ var

abbrev pub HasNoFalse : List Step → ℕ → Type 0
HasNoFalse steps var = (lit : Lit) → variable lit ≡ var → ¬ IsFalse steps lit

-- the false literal of a variable was put last, if it has one
abbrev pub PutsFalse : List Step → ℕ → List Lit → List Lit → Type 0
PutsFalse steps var before after =
    ((after ≡ before) × HasNoFalse steps var)
    ⊎ ((lit : Lit) × (after ≡ before ++ lit ∷ []) × IsFalseOf steps var lit)

-- the false literals of wanted variables up to one
pub record AreWritten (steps : List Step) (wanted : List Bool) (to : ℕ) (lits : List Lit) :
    Type 0 where
  pub falses : All (IsFalse steps) lits
  pub over : All (λ lit. (1 ≤ variable lit) × (variable lit < to)) lits
  pub once : HasNoVariableTwice lits
  pub complete :
      (lit : Lit) → IsFalse steps lit → IsIn wanted (variable lit) → 1 ≤ variable lit
      → variable lit < to → Contains lits lit
