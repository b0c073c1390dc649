-- What a program means: its answer sets and consequences, after Gelfond and Lifschitz, with weights
-- and choices after Simons, Niemelä and Soininen. An atom set has a truth value for each position
-- from 0.
use Rattle.std.specs.Prelude.{◌≡◌, ◌≢◌, ◌≤◌, ◌+◌, ℕ, Bool, false, not, if◌then◌else◌, List, length}
use Rattle.std.specs.Prelude.{All, Any, Some, slice_get, slice_index_or, sum_by, count_by}
use Rattle.std.specs.Prelude.{IsTrue}
use Rattle.ground_program.specs.declared.program.Kind.{Kind}
use Rattle.ground_program.specs.declared.program.Kind.TheVariants.{Basic, Constraint, Choice}
use Rattle.ground_program.specs.declared.program.Kind.TheVariants.{Weight, Disjunctive}
use Rattle.ground_program.specs.declared.program.AtomLit.{AtomLit}
use Rattle.ground_program.specs.declared.program.Weighted.{Weighted}
use Rattle.ground_program.specs.declared.program.Rule.{Rule}
use Rattle.ground_program.specs.declared.program.Program.{Program}

-- whether the atom is in the set
abbrev pub has : List Bool → ℕ → Bool
has set atom = slice_index_or set atom false

-- the number of positions that are still false
abbrev pub missing : List Bool → ℕ
missing set = count_by not set

-- the atom is in the set
abbrev pub IsIn : List Bool → ℕ → Type 0
IsIn set atom = IsTrue (has set atom)

-- whether a literal counts in `set` by `by`: a negative one by the set `by`, a positive one in
-- `set`
abbrev pub counts : List Bool → List Bool → AtomLit → Bool
counts by set lit = if lit.negated then not (has by lit.atom) else has set lit.atom

-- what a literal adds to its body in `set` by `by`
abbrev pub weight_in : List Bool → List Bool → Weighted → ℕ
weight_in by set part = if counts by set part.lit then part.weight else 0

-- a body holds in `set` by `by`: the weights of the literals that count reach the bound
abbrev pub BodyHolds : List Bool → List Bool → Rule → Type 0
BodyHolds by set rule = rule.bound ≤ sum_by (weight_in by set) rule.body

-- the heads of a rule hold in `set` by `by`
abbrev pub HeadHolds : Kind → List Bool → List Bool → List ℕ → Type 0
HeadHolds Basic by set heads = All (IsIn set) heads
HeadHolds Constraint by set heads = All (IsIn set) heads
HeadHolds Choice by set heads = All (λ atom. IsIn by atom → IsIn set atom) heads
HeadHolds Weight by set heads = All (IsIn set) heads
HeadHolds Disjunctive by set heads = Any (IsIn set) heads

-- `set` keeps the rule of the reduct by `by`
abbrev pub Keeps : List Bool → List Bool → Rule → Type 0
Keeps by set rule = BodyHolds by set rule → HeadHolds rule.kind by set rule.heads

-- `set` keeps every rule of the reduct by `by`
abbrev pub KeepsAll : List Bool → List Bool → List Rule → Type 0
KeepsAll by set rules = All (Keeps by set) rules

-- some rule of the reduct by `by` fails in `set`
abbrev pub SomeFails : List Bool → List Bool → List Rule → Type 0
SomeFails by set rules = Any (λ rule. ¬ Keeps by set rule) rules

-- the compute statement: the set has each atom of the first list and none of the second
pub record MeetsCompute (program : Program) (set : List Bool) : Type 0 where
  pub must : All (IsIn set) program.must
  pub must_not : All (λ atom. ¬ IsIn set atom) program.must_not

-- a set over the atoms 1 to `atoms`: position 0 belongs to no atom and is false
pub record IsSetOver (atoms : ℕ) (set : List Bool) : Type 0 where
  pub positions : length set ≡ atoms + 1
  pub no_atom : slice_get set 0 ≡ Some false

-- one set is part of another, and isn't the same
pub record IsProperSubset (part whole : List Bool) : Type 0 where
  pub positions : length part ≡ length whole
  pub inside : (atom : ℕ) → IsIn part atom → IsIn whole atom
  pub other : part ≢ whole

-- an answer set: it meets the compute statement, keeps the rules of its own reduct, and no proper
-- subset does
pub record IsAnswerSet (program : Program) (set : List Bool) : Type 0 where
  pub over : IsSetOver program.atoms set
  pub compute : MeetsCompute program set
  pub keeps : KeepsAll set set program.rules
  pub least : (smaller : List Bool) → IsProperSubset smaller set
      → SomeFails set smaller program.rules

-- each atom of one set is in the other
abbrev pub IsPart : List Bool → List Bool → Type 0
IsPart part whole = (atom : ℕ) → IsIn part atom → IsIn whole atom

-- no rule is a choice rule
abbrev pub HasNoChoice : List Rule → Type 0
HasNoChoice rules = All (λ rule. rule.kind ≢ Choice) rules
