-- Which records are programs: what the numeric format guarantees of them.
use Rattle.std.specs.Prelude.{◌≡◌, ◌≢◌, ◌≤◌, ◌<◌, ◌-◌, ◌^◌, ℕ, List, [], ◌∷◌, ◌++◌, length, map}
use Rattle.std.specs.Prelude.{max, All, AllPairs, flat_map, Some, slice_get, IsTrue, ⊤}
use Rattle.ground_program.specs.declared.program.Kind.{Kind}
use Rattle.ground_program.specs.declared.program.Kind.TheVariants.{Basic, Constraint, Choice}
use Rattle.ground_program.specs.declared.program.Kind.TheVariants.{Weight, Disjunctive}
use Rattle.ground_program.specs.declared.program.Weighted.{Weighted}
use Rattle.ground_program.specs.declared.program.Rule.{Rule}
use Rattle.ground_program.specs.declared.program.Program.{Program}

-- a number of the format: at most 2,147,483,647
abbrev pub IsNumber : ℕ → Type 0
IsNumber number = number < 2 ^ 31

-- the atoms of a rule: its heads, then those of its literals
abbrev pub atoms_of_rule : Rule → List ℕ
atoms_of_rule rule = rule.heads ++ map (λ part. part.lit.atom) rule.body

-- all atoms that occur in a program
abbrev pub atoms_of : Program → List ℕ
atoms_of program =
    flat_map atoms_of_rule program.rules ++ map (λ named. named.atom) program.names
    ++ program.must ++ program.must_not

-- the greatest number of a list, or 0
abbrev pub greatest : List ℕ → ℕ
greatest [] = 0
greatest (number ∷ rest) = max number (greatest rest)

-- the negative literals stand before the positive ones
abbrev pub NegativesFirst : List Weighted → Type 0
NegativesFirst body =
    AllPairs (λ earlier later. IsTrue later.lit.negated → IsTrue earlier.lit.negated) body

-- basic, constraint and weight rules have exactly one head
abbrev pub HeadsFit : Kind → List ℕ → Type 0
HeadsFit Basic heads = length heads ≡ 1
HeadsFit Constraint heads = length heads ≡ 1
HeadsFit Choice heads = ⊤
HeadsFit Weight heads = length heads ≡ 1
HeadsFit Disjunctive heads = ⊤

-- the bound of basic, choice and disjunctive rules is the number of literals
abbrev pub BoundFits : Kind → ℕ → List Weighted → Type 0
BoundFits Basic bound body = bound ≡ length body
BoundFits Constraint bound body = ⊤
BoundFits Choice bound body = bound ≡ length body
BoundFits Weight bound body = ⊤
BoundFits Disjunctive bound body = bound ≡ length body

-- a weight of a weight rule is a number, and any other weight is 1
abbrev pub WeightFits : Kind → ℕ → Type 0
WeightFits Basic weight = weight ≡ 1
WeightFits Constraint weight = weight ≡ 1
WeightFits Choice weight = weight ≡ 1
WeightFits Weight weight = IsNumber weight
WeightFits Disjunctive weight = weight ≡ 1

-- a rule of the format
pub record IsRule (rule : Rule) : Type 0 where
  pub heads : HeadsFit rule.kind rule.heads
  pub bound : BoundFits rule.kind rule.bound rule.body
  pub bound_number : IsNumber rule.bound
  pub weights : All (λ part. WeightFits rule.kind part.weight) rule.body
  pub order : NegativesFirst rule.body
  pub few_heads : IsNumber (length rule.heads)
  pub few_literals : IsNumber (length rule.body)

-- a name has at least one byte, no line feed, and no carriage return at its end
pub record IsName (name : List ℕ) : Type 0 where
  pub some : 1 ≤ length name
  pub one_line : All (λ byte. byte ≢ 10) name
  pub end : slice_get name (length name - 1) ≢ Some 13
  pub short : IsNumber (length name)

-- a program of the format
pub record IsProgram (program : Program) : Type 0 where
  pub atoms : program.atoms ≡ greatest (atoms_of program)
  pub each_atom : All (λ atom. (1 ≤ atom) × IsNumber atom) (atoms_of program)
  pub rules : All IsRule program.rules
  pub names : All (λ named. IsName named.name) program.names
  pub models : IsNumber program.models
  pub few_rules : IsNumber (length program.rules)
  pub few_names : IsNumber (length program.names)
  pub few_must : IsNumber (length program.must)
  pub few_must_not : IsNumber (length program.must_not)
