-- The normal form of a program: which one it is, what its rules mean, and its variables.
use Rattle.std.specs.Prelude.{◌≡◌, ◌≢◌, ◌<◌, ◌+◌, ◌↔◌, ℕ, Bool, List, ◌++◌, length, map, take, All}
use Rattle.std.specs.Prelude.{Any, AllPairs, Some, slice_get, IsSomeAnd}
use Rattle.std.specs.List.{AllZip}
use Rattle.ground_program.specs.declared.program.Rule.{Rule}
use Rattle.ground_program.specs.declared.program.Program.{Program}
use Rattle.ground_program.specs.Meaning.{IsIn, HeadHolds, IsSetOver, IsProperSubset, IsAnswerSet}
use Rattle.ground_program.specs.Meaning.{BodyHolds}
use Rattle.normal_program.specs.declared.normal.BodyOf.{BodyOf}
use Rattle.normal_program.specs.declared.normal.NormalRule.{NormalRule}
use Rattle.normal_program.specs.declared.normal.Normal.{Normal}
use Rattle.normal_program.specs.Body.{IsMerged, body_holds, BodyHoldsN}

-- the body is that of the rule, merged
pub record IsBodyOf (rule : Rule) (body : BodyOf) : Type 0 where
  pub bound : body.bound ≡ rule.bound
  pub parts : IsMerged rule.body body.parts

-- a normal rule stands for a rule: the kind and the heads are the same, and its number is that of
-- the merged body
pub record StandsFor (bodies : List BodyOf) (normal : NormalRule) (rule : Rule) : Type 0 where
  pub kind : normal.kind ≡ rule.kind
  pub heads : normal.heads ≡ rule.heads
  pub body : IsSomeAnd (slice_get bodies normal.body) (IsBodyOf rule)

-- some rule has the body of this number
abbrev pub HasNumber : List NormalRule → ℕ → Type 0
HasNumber rules number = Any (λ rule. rule.body ≡ number) rules

-- bodies are numbered in order of first occurrence: a rule's number is new only where all smaller
-- ones occurred
abbrev pub AreInOrder : List NormalRule → Type 0
AreInOrder rules =
    (at : ℕ) (rule : NormalRule) → slice_get rules at ≡ Some rule →
    (number : ℕ) → number < rule.body → HasNumber (take at rules) number

-- the numbering of the bodies of rules: each body has one number, and each number is that of some
-- rule's body
pub record AreNumbered (bodies : List BodyOf) (normals : List NormalRule) (rules : List Rule) :
    Type 0 where
  pub each : AllZip (StandsFor bodies) normals rules
  pub differ : AllPairs (λ earlier later. earlier ≢ later) bodies
  pub used : (number : ℕ) → number < length bodies → HasNumber normals number
  pub order : AreInOrder normals

-- the normal form of a program
pub record IsNormalFormOf (normal : Normal) (program : Program) : Type 0 where
  pub atoms : normal.atoms ≡ program.atoms
  pub names : normal.names ≡ program.names
  pub must : normal.must ≡ program.must
  pub must_not : normal.must_not ≡ program.must_not
  pub rules : AreNumbered normal.bodies normal.rules program.rules

-- the variable of the body of a number; that of an atom is the atom
abbrev pub body_var : Normal → ℕ → ℕ
body_var normal number = normal.atoms + 1 + number

-- the greatest variable of an atom or a body
abbrev pub greatest_body_var : Normal → ℕ
greatest_body_var normal = normal.atoms + length normal.bodies

-- the first selector; the selectors are the variables behind the bodies
abbrev pub first_selector : Normal → ℕ
first_selector normal = greatest_body_var normal + 1

-- the number of variables: those of the atoms, the bodies and the selectors
abbrev pub variables : Normal → ℕ
variables normal = normal.atoms + length normal.bodies + length normal.names + 1

-- the body of a rule holds in `set` by `by`
abbrev pub RuleBodyHolds : List BodyOf → List Bool → List Bool → NormalRule → Type 0
RuleBodyHolds bodies by set rule = IsSomeAnd (slice_get bodies rule.body) (BodyHoldsN by set)

-- `set` keeps the rule of the reduct by `by`
abbrev pub KeepsN : List BodyOf → List Bool → List Bool → NormalRule → Type 0
KeepsN bodies by set rule = RuleBodyHolds bodies by set rule → HeadHolds rule.kind by set rule.heads

-- `set` keeps every rule of the reduct by `by`
abbrev pub KeepsAllN : Normal → List Bool → List Bool → Type 0
KeepsAllN normal by set = All (KeepsN normal.bodies by set) normal.rules

-- some rule of the reduct by `by` fails in `set`
abbrev pub SomeFailsN : Normal → List Bool → List Bool → Type 0
SomeFailsN normal by set = Any (λ rule. ¬ KeepsN normal.bodies by set rule) normal.rules

-- the compute statement: the set has each atom of the first list and none of the second
pub record MeetsComputeN (normal : Normal) (set : List Bool) : Type 0 where
  pub must : All (IsIn set) normal.must
  pub must_not : All (λ atom. ¬ IsIn set atom) normal.must_not

-- an answer set of a normal form
pub record IsAnswerSetN (normal : Normal) (set : List Bool) : Type 0 where
  pub over : IsSetOver normal.atoms set
  pub compute : MeetsComputeN normal set
  pub keeps : KeepsAllN normal set set
  pub least : (smaller : List Bool) → IsProperSubset smaller set → SomeFailsN normal set smaller

-- the bodies of the rules hold for the same pairs of sets
abbrev pub SameBodies : Normal → Program → Type 0
SameBodies normal program =
    (by set : List Bool)
    → AllZip (λ rule source. RuleBodyHolds normal.bodies by set rule ↔ BodyHolds by set source)
    normal.rules program.rules

-- the answer sets are the same
abbrev pub SameAnswerSets : Normal → Program → Type 0
SameAnswerSets normal program =
    (set : List Bool) → IsAnswerSetN normal set ↔ IsAnswerSet program set

-- the extension: the truth values of the atoms of `set`, then for each body whether it holds in
-- `set` by `by`
abbrev pub extension : Normal → List Bool → List Bool → List Bool
extension normal by set = set ++ map (body_holds by set) normal.bodies
