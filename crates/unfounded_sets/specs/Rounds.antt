-- What the rounds over the rules do to the founded atoms. No public clause cites this module.
use Rattle.std.specs.Prelude.{◌≡◌, ◌≤◌, ◌<◌, ◌+◌, ℕ, Bool, false, List, All, length}
use Rattle.std.specs.Bool.{OnTrue, OnFalse}
use Rattle.ground_program.specs.Meaning.{IsIn, IsPart, missing}
use Rattle.clause_store.specs.declared.step.Step.{Step}
use Rattle.clause_store.specs.declared.literal.Value.{Value}
use Rattle.clause_store.specs.Trail.{value_of}
use Rattle.normal_program.specs.declared.normal.NormalRule.{NormalRule}
use Rattle.normal_program.specs.declared.normal.BodyOf.{BodyOf}
use Rattle.normal_program.specs.declared.normal.Normal.{Normal}
use Rattle.normal_program.specs.Normal.{greatest_body_var}
use Rattle.normal_program.specs.Clauses.{positive}
use Rattle.normal_program.specs.Loop.{IsAtomOf}
use Rattle.normal_program.specs.Range.{IsInRange}
use Rattle.unfounded_sets.specs.Founding.{Founds, HasHeads, IsClosed}

-- the variables of atoms and bodies are in range
pub record IsCovered (normal : Normal) (vars : ℕ) : Type 0 where
  pub range : IsInRange normal
  pub over : greatest_body_var normal ≤ vars

-- the atoms of a body are those of the normal form
abbrev pub HasAtoms : Normal → BodyOf → Type 0
HasAtoms normal body = All (λ part. IsAtomOf normal part.lit.atom) body.parts

-- the heads of a rule are atoms, and its body is one of the bodies
pub record IsRuleIn (normal : Normal) (rule : NormalRule) : Type 0 where
  pub heads : All (IsAtomOf normal) rule.heads
  pub number : rule.body < length normal.bodies

-- a set of so many places, all false
pub record IsEmpty (places : ℕ) (set : List Bool) : Type 0 where
  pub count : length set ≡ places
  pub none : All (λ bit. bit ≡ false) set

-- a try at some heads: those that aren't false were added
pub record AddsHeads (steps : List Step) (heads : List ℕ) (before after : List Bool) (grew : Bool) :
    Type 0 where
  pub places : length after ≡ length before
  pub more : IsPart before after
  pub within : (set : List Bool) → HasHeads steps set heads → IsPart before set → IsPart after set
  pub has : HasHeads steps after heads
  pub nearer : OnTrue grew (missing after < missing before)
  pub same : OnFalse grew (after ≡ before)

-- a try at some rules: what was added is in each set to which they add nothing, and where nothing
-- was added they add nothing
pub record Tries (normal : Normal) (steps : List Step) (rules : List NormalRule)
    (before after : List Bool) (grew : Bool) : Type 0 where
  pub places : length after ≡ length before
  pub within : (set : List Bool) → All (Founds normal steps set) rules → IsPart before set
      → IsPart after set
  pub nearer : OnTrue grew (missing after < missing before)
  pub same : OnFalse grew (after ≡ before)
  pub closed : OnFalse grew (All (Founds normal steps after) rules)

-- a set over the atoms that has founded ones alone
pub record IsBelow (normal : Normal) (steps : List Step) (founded : List Bool) : Type 0 where
  pub places : length founded ≡ normal.atoms + 1
  pub within : (set : List Bool) → IsClosed normal steps set → IsPart founded set

-- an atom with this value that isn't in the set
pub record IsOutside (normal : Normal) (steps : List Step) (founded : List Bool) (value : Value)
    (atom : ℕ) : Type 0 where
  pub is_atom : IsAtomOf normal atom
  pub valued : value_of steps (positive atom) ≡ value
  pub outside : ¬ IsIn founded atom

-- each atom with this value is in the set
abbrev pub HasValued : Normal → List Step → List Bool → Value → Type 0
HasValued normal steps founded value =
    (atom : ℕ) → IsAtomOf normal atom → value_of steps (positive atom) ≡ value → IsIn founded atom

-- what rounds come to: founded atoms alone, and founding adds nothing
pub record IsSettled (normal : Normal) (steps : List Step) (founded : List Bool) : Type 0 where
  pub below : IsBelow normal steps founded
  pub closed : IsClosed normal steps founded

-- the tables have a place for each atom and for each variable
pub record AreTables (normal : Normal) (founded part wanted : List Bool) : Type 0 where
  pub founded_places : length founded ≡ normal.atoms + 1
  pub part_places : length part ≡ normal.atoms + 1
  pub wanted_places : length wanted ≡ greatest_body_var normal + 1
