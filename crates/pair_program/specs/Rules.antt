-- The rules of the pair program, in their order. No public clause cites this module.
use Rattle.std.specs.Prelude.{◌≤◌, ◌<◌, ◌+◌, ◌*◌, zero, suc, ℕ, Bool, false, not, if◌then◌else◌}
use Rattle.std.specs.Prelude.{List, [], ◌∷◌, ◌++◌, length, map, filter, flat_map, All}
use Rattle.ground_program.specs.declared.program.Kind.TheVariants.{Choice, Weight, Disjunctive}
use Rattle.ground_program.specs.declared.program.Weighted.{Weighted}
use Rattle.ground_program.specs.declared.program.Rule.{Rule}
use Rattle.ground_program.specs.declared.program.Program.{Program}
use Rattle.ground_program.specs.Program.{IsNumber}
use Rattle.normal_program.specs.declared.normal.Part.{Part}
use Rattle.normal_program.specs.declared.normal.BodyOf.{BodyOf}
use Rattle.normal_program.specs.declared.normal.NormalRule.{NormalRule}
use Rattle.normal_program.specs.declared.normal.Normal.{Normal}
use Rattle.normal_program.specs.declared.normal.TheConstants.{MOST_VARIABLES}
use Rattle.normal_program.specs.Clauses.{is_choice}

-- the atoms and the bodies of a normal form are few
abbrev pub AreFew : ℕ → ℕ → Type 0
AreFew atoms bodies = atoms + bodies ≤ MOST_VARIABLES

-- the atom of a literal is one of so many, and its weight is a number of the format
pub record FitsAtoms (atoms : ℕ) (part : Part) : Type 0 where
  pub atom : part.lit.atom ≤ atoms
  pub weight : IsNumber part.weight

-- the heads of a rule are some of so many atoms, and its body is one of so many
pub record FitsRule (atoms bodies : ℕ) (rule : NormalRule) : Type 0 where
  pub heads : All (λ head. head ≤ atoms) rule.heads
  pub body : rule.body < bodies

-- the atom for 'in the part'
abbrev pub part_atom : ℕ → ℕ → ℕ
part_atom atoms atom = atoms + atom

-- the atom for 'in the whole alone'
abbrev pub alone_atom : ℕ → ℕ → ℕ
alone_atom atoms atom = 2 * atoms + atom

-- the atom of a body
abbrev pub body_atom : ℕ → ℕ → ℕ
body_atom atoms number = 3 * atoms + 1 + number

-- the last atom, which is in no model
abbrev pub last_atom : ℕ → ℕ → ℕ
last_atom atoms bodies = 3 * atoms + bodies + 1

-- an atom as a literal of weight 1
abbrev pub holds : ℕ → Weighted
holds atom = record { lit = record { atom = atom; negated = false }; weight = 1 }

-- where all these atoms are true, one of the heads is
abbrev pub disjunction : List ℕ → List ℕ → Rule
disjunction heads atoms = record {
  kind = Disjunctive;
  bound = length atoms;
  heads = heads;
  body = map holds atoms;
}

-- so many numbers from the first on
abbrev pub count_up : ℕ → ℕ → List ℕ
count_up first zero = []
count_up first (suc count) = count_up first count ++ (first + count) ∷ []

-- any atom may be true
abbrev pub free_rule : ℕ → ℕ → Rule
free_rule atoms bodies = record {
  kind = Choice;
  bound = 0;
  heads = count_up 1 (last_atom atoms bodies);
  body = [];
}

-- a literal of a body: a negative one speaks of the whole, a positive one of the part
abbrev pub pair_lit : ℕ → Part → Weighted
pair_lit atoms part = record {
  lit = record {
    atom = if part.lit.negated then part.lit.atom else part_atom atoms part.lit.atom;
    negated = part.lit.negated;
  };
  weight = part.weight;
}

-- whether a literal is negative, or whether it is positive
abbrev pub has_sign : Bool → Part → Bool
has_sign negated part = if negated then part.lit.negated else not part.lit.negated

-- the literals of one sign
abbrev pub lits_of : ℕ → Bool → List Part → List Weighted
lits_of atoms negated parts = map (pair_lit atoms) (filter (has_sign negated) parts)

-- where a body holds its atom is true
abbrev pub body_rule : ℕ → ℕ → BodyOf → Rule
body_rule atoms number body = record {
  kind = Weight;
  bound = body.bound;
  heads = body_atom atoms number ∷ [];
  body = lits_of atoms (not false) body.parts ++ lits_of atoms false body.parts;
}

-- the rules of the bodies, numbered from the first on
abbrev pub body_rules : ℕ → ℕ → List BodyOf → List Rule
body_rules atoms first [] = []
body_rules atoms first (body ∷ rest) =
    body_rule atoms first body ∷ body_rules atoms (first + 1) rest

-- what a head of a choice rule asks for: where the whole has it the part has it
abbrev pub choice_rule : ℕ → ℕ → ℕ → Rule
choice_rule atoms body head =
    disjunction (part_atom atoms head ∷ []) (body ∷ head ∷ [])

-- what a rule asks of the part
abbrev pub rules_of_rule : ℕ → NormalRule → List Rule
rules_of_rule atoms rule =
    if is_choice rule.kind then map (choice_rule atoms (body_atom atoms rule.body)) rule.heads
    else disjunction (map (part_atom atoms) rule.heads) (body_atom atoms rule.body ∷ []) ∷ []

-- the three rules of an atom: the part is within the whole, what is in the whole alone is in the
-- whole, and it isn't in the part
abbrev pub rules_of_atom : ℕ → ℕ → ℕ → List Rule
rules_of_atom atoms bodies atom =
    disjunction (atom ∷ []) (part_atom atoms atom ∷ [])
    ∷ disjunction (atom ∷ []) (alone_atom atoms atom ∷ [])
    ∷ disjunction (last_atom atoms bodies ∷ []) (part_atom atoms atom ∷ alone_atom atoms atom ∷ [])
    ∷ []

-- the rules of so many atoms
abbrev pub atom_rules : ℕ → ℕ → ℕ → List Rule
atom_rules atoms bodies zero = []
atom_rules atoms bodies (suc count) =
    atom_rules atoms bodies count ++ rules_of_atom atoms bodies (suc count)

-- some atom is in the whole alone
abbrev pub proper_rule : ℕ → Rule
proper_rule atoms = disjunction (count_up (2 * atoms + 1) atoms) []

-- the rules of the pair program
abbrev pub rules_of : Normal → List Rule
rules_of normal =
    free_rule normal.atoms (length normal.bodies)
    ∷ body_rules normal.atoms 0 normal.bodies
    ++ flat_map (rules_of_rule normal.atoms) normal.rules
    ++ atom_rules normal.atoms (length normal.bodies) normal.atoms
    ++ proper_rule normal.atoms ∷ []

-- the pair program
abbrev pub program_of : Normal → Program
program_of normal = record {
  atoms = last_atom normal.atoms (length normal.bodies);
  rules = rules_of normal;
  names = [];
  must = [];
  must_not = last_atom normal.atoms (length normal.bodies) ∷ [];
  models = 1;
}
