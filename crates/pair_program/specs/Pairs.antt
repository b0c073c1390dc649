-- The pair program of a normal form: its models are the pairs of a set and a proper subset of it
-- that keeps the rules of the reduct by the set.
--
-- With n atoms and b bodies, atom a of the normal form has three atoms: a (a is in the whole),
-- n + a (a is in the part), 2n + a (a is in the whole alone). Body j, from 0, has 3n + 1 + j. The
-- last atom, 3n + b + 1, is in no model.
use Rattle.std.specs.Prelude.{◌≡◌, ◌≤◌, ◌+◌, ◌*◌, ℕ, Bool, false, if◌then◌else◌, List, [], ◌∷◌}
use Rattle.std.specs.Prelude.{length, take, drop, sum_by, All, Any, Contains, ⊤}
use Rattle.ground_program.specs.declared.program.Kind.TheVariants.{Choice}
use Rattle.ground_program.specs.declared.program.Rule.{Rule}
use Rattle.ground_program.specs.declared.program.Program.{Program}
use Rattle.ground_program.specs.Program.{IsNumber, IsProgram}
use Rattle.ground_program.specs.Meaning.{IsSetOver, IsProperSubset}
use Rattle.ground_program.specs.Models.{IsModel}
use Rattle.normal_program.specs.declared.normal.NormalRule.{NormalRule}
use Rattle.normal_program.specs.declared.normal.Normal.{Normal}
use Rattle.normal_program.specs.Normal.{KeepsAllN}
use Rattle.normal_program.specs.Clauses.{is_choice}
use Rattle.pair_program.specs.declared.error.PairError.{PairError}
use Rattle.pair_program.specs.declared.error.PairError.TheVariants.{TooLarge, NoMemory}

-- the number of atoms of the pair program
abbrev pub pair_atoms : Normal → ℕ
pair_atoms normal = 3 * normal.atoms + length normal.bodies + 1

-- the whole of a set over the atoms of the pair program
abbrev pub whole_in : Normal → List Bool → List Bool
whole_in normal all = take (normal.atoms + 1) all

-- the part of a set over the atoms of the pair program
abbrev pub part_in : Normal → List Bool → List Bool
part_in normal all = false ∷ take normal.atoms (drop (normal.atoms + 1) all)

-- a set of atoms and a proper subset of it that keeps the rules of the reduct by the set
pub record IsPairOf (normal : Normal) (whole part : List Bool) : Type 0 where
  pub over : IsSetOver normal.atoms whole
  pub proper : IsProperSubset part whole
  pub keeps : KeepsAllN normal whole part

-- a model with this whole and this part
pub record IsModelWith (normal : Normal) (program : Program) (whole part all : List Bool) :
    Type 0 where
  pub over : IsSetOver program.atoms all
  pub model : IsModel program all
  pub whole_is : whole_in normal all ≡ whole
  pub part_is : part_in normal all ≡ part

-- a choice rule with no literals has the atom as a head
pub record IsFreeBy (atom : ℕ) (rule : Rule) : Type 0 where
  pub kind : rule.kind ≡ Choice
  pub bound : rule.bound ≡ 0
  pub body : rule.body ≡ []
  pub head : Contains rule.heads atom

-- the pair program of a normal form: a program of the format, in which any atom may be true by
-- itself, and whose models are the pairs
pub record IsPairProgram (normal : Normal) (program : Program) : Type 0 where
  pub valid : IsProgram program
  pub atoms : program.atoms ≡ pair_atoms normal
  pub free : (atom : ℕ) → 1 ≤ atom → atom ≤ program.atoms → Any (IsFreeBy atom) program.rules
  pub into : (whole part : List Bool) → IsPairOf normal whole part
      → (all : List Bool) × IsModelWith normal program whole part all
  pub out : (all : List Bool) → IsSetOver program.atoms all → IsModel program all
      → IsPairOf normal (whole_in normal all) (part_in normal all)

-- how many rules of the pair program a rule gives: a choice rule one for each head, any other one
abbrev pub rules_for : NormalRule → ℕ
rules_for rule = if is_choice rule.kind then length rule.heads else 1

-- the number of rules of the pair program: one for each body, those for the rules, three for each
-- atom, one that lets any atom be true, one that asks for a proper subset
abbrev pub pair_rules : Normal → ℕ
pair_rules normal =
    length normal.bodies + sum_by rules_for normal.rules + 3 * normal.atoms + 2

-- the pair program can be written in the format
pub record FitsFormat (normal : Normal) : Type 0 where
  pub weights : All (λ body. All (λ part. IsNumber part.weight) body.parts) normal.bodies
  pub few_rules : IsNumber (pair_rules normal)

-- a normal form is refused where its pair program can't be written, or for want of memory
abbrev pub IsCauseOf : Normal → PairError → Type 0
IsCauseOf normal TooLarge = ¬ FitsFormat normal
IsCauseOf normal NoMemory = ⊤
