-- Words of the steps of `is_valid`. No public clause cites this module.
use Rattle.std.specs.Prelude.{◌≡◌, ◌≤◌, ℕ, List, length, All, map}
use Rattle.ground_program.specs.declared.program.Rule.{Rule}
use Rattle.ground_program.specs.declared.program.Weighted.{Weighted}
use Rattle.ground_program.specs.declared.program.Named.{Named}
use Rattle.ground_program.specs.declared.program.Program.{Program}
use Rattle.ground_program.specs.Program.{IsNumber, IsName, IsRule, HeadsFit, BoundFits, WeightFits}
use Rattle.ground_program.specs.Program.{greatest, atoms_of}

-- an atom of the format: at least 1, and a number
pub record IsAtom (atom : ℕ) : Type 0 where
  pub first : 1 ≤ atom
  pub number : IsNumber atom

-- the atoms of a body and of a symbol table
abbrev pub atoms_of_body : List Weighted → List ℕ
atoms_of_body body = map (λ part. part.lit.atom) body

abbrev pub atoms_of_names : List Named → List ℕ
atoms_of_names names = map (λ named. named.atom) names

-- the atoms of a rule are atoms of the format
pub record RuleAtoms (rule : Rule) : Type 0 where
  pub heads : All IsAtom rule.heads
  pub body : All (λ part. IsAtom part.lit.atom) rule.body

-- the atoms of the compute statement are atoms of the format
pub record ComputeAtoms (program : Program) : Type 0 where
  pub must : All IsAtom program.must
  pub must_not : All IsAtom program.must_not

-- each atom that occurs is an atom of the format
pub record AllAtoms (program : Program) : Type 0 where
  pub rules : All RuleAtoms program.rules
  pub names : All (λ named. IsAtom named.atom) program.names
  pub compute : ComputeAtoms program

-- the numbers and the lengths of a program are numbers of the format
pub record NumbersFit (program : Program) : Type 0 where
  pub models : IsNumber program.models
  pub few_rules : IsNumber (length program.rules)
  pub few_names : IsNumber (length program.names)
  pub few_must : IsNumber (length program.must)
  pub few_must_not : IsNumber (length program.must_not)

-- the parts of a program but for its atoms
pub record PartsFit (program : Program) : Type 0 where
  pub numbers : NumbersFit program
  pub rules : All IsRule program.rules
  pub names : All (λ named. IsName named.name) program.names

-- the atoms of a program
pub record AtomsFit (program : Program) : Type 0 where
  pub atoms : program.atoms ≡ greatest (atoms_of program)
  pub each : AllAtoms program

-- what the kind of a rule asks for
pub record FitsKind (rule : Rule) : Type 0 where
  pub heads : HeadsFit rule.kind rule.heads
  pub bound : BoundFits rule.kind rule.bound rule.body
  pub weights : All (λ part. WeightFits rule.kind part.weight) rule.body

-- the numbers and the lengths of a rule are numbers of the format
pub record RuleNumbers (rule : Rule) : Type 0 where
  pub bound_number : IsNumber rule.bound
  pub few_heads : IsNumber (length rule.heads)
  pub few_literals : IsNumber (length rule.body)
