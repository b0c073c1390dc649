-- The clauses that hold in every answer set, and what it means that a clause does.
use Rattle.std.specs.Prelude.{zero, suc, ◌+◌, ◌*◌, nat_eq, ℕ, Bool, true, false, not, if◌then◌else◌}
use Rattle.std.specs.Prelude.{List, [], ◌∷◌, ◌++◌, map, filter, flat_map, IsTrue, All}
use Rattle.std.specs.List.{AllZip, list_any, enumerate_from}
use Rattle.ground_program.specs.declared.program.AtomLit.{AtomLit}
use Rattle.ground_program.specs.declared.program.Kind.{Kind}
use Rattle.ground_program.specs.declared.program.Kind.TheVariants.{Basic, Constraint, Choice}
use Rattle.ground_program.specs.declared.program.Kind.TheVariants.{Weight, Disjunctive}
use Rattle.clause_store.specs.declared.literal.Lit.{Lit}
use Rattle.clause_store.specs.Clause.{negation, HoldsIn}
use Rattle.normal_program.specs.declared.normal.Part.{Part}
use Rattle.normal_program.specs.declared.normal.BodyOf.{BodyOf}
use Rattle.normal_program.specs.declared.normal.NormalRule.{NormalRule}
use Rattle.normal_program.specs.declared.normal.Normal.{Normal}
use Rattle.normal_program.specs.Body.{is_conjunctive}
use Rattle.normal_program.specs.Normal.{body_var, extension, IsAnswerSetN}

-- the literals of a variable
abbrev pub positive : ℕ → Lit
positive var = record { 0 = 2 * var }

abbrev pub negative : ℕ → Lit
negative var = record { 0 = 2 * var + 1 }

-- an atom or its negation as a literal of a clause
abbrev pub literal_of : AtomLit → Lit
literal_of lit = if lit.negated then negative lit.atom else positive lit.atom

-- whether two literals are the same
abbrev pub is_lit : Lit → Lit → Bool
is_lit one two = nat_eq one.0 two.0

-- whether a clause has a literal
abbrev pub has_lit : List Lit → Lit → Bool
has_lit clause lit = list_any (is_lit lit) clause

-- each literal once, where it stands first
abbrev pub each_once : List Lit → List Lit
each_once [] = []
each_once (lit ∷ rest) = lit ∷ filter (λ other. not (is_lit lit other)) (each_once rest)

-- whether a clause has a literal and its negation
abbrev pub is_tautology : List Lit → Bool
is_tautology clause = list_any (λ lit. has_lit clause (negation lit)) clause

-- the clauses with each literal once, and no tautology
abbrev pub cleaned : List (List Lit) → List (List Lit)
cleaned clauses = filter (λ clause. not (is_tautology clause)) (map each_once clauses)

-- a variable that is true exactly where all of these literals are
abbrev pub all_clauses : ℕ → List Lit → List (List Lit)
all_clauses var lits =
    map (λ lit. negative var ∷ lit ∷ []) lits ++ (positive var ∷ map negation lits) ∷ []

-- the literals of a body
abbrev pub literals_of : List Part → List Lit
literals_of parts = map (λ part. literal_of part.lit) parts

-- the bodies with their numbers
abbrev pub numbered_bodies : Normal → List (ℕ × BodyOf)
numbered_bodies normal = enumerate_from 0 normal.bodies

-- what a conjunctive body means
abbrev pub body_clauses : Normal → ℕ × BodyOf → List (List Lit)
body_clauses normal body =
    if is_conjunctive body.1 then all_clauses (body_var normal body.0) (literals_of body.1.parts)
    else []

-- whether the kind is that of choice rules
abbrev pub is_choice : Kind → Bool
is_choice Basic = false
is_choice Constraint = false
is_choice Choice = true
is_choice Weight = false
is_choice Disjunctive = false

-- a rule that isn't a choice rule: where the body holds, some head is true
abbrev pub rule_clauses : Normal → NormalRule → List (List Lit)
rule_clauses normal rule =
    if is_choice rule.kind then []
    else (negative (body_var normal rule.body) ∷ map positive rule.heads) ∷ []

-- whether a list of atoms has an atom
abbrev pub has_atom : List ℕ → ℕ → Bool
has_atom atoms atom = list_any (nat_eq atom) atoms

-- the support of an atom: where it is true, the body of some rule for it is
abbrev pub support_clause : Normal → ℕ → List Lit
support_clause normal atom =
    negative atom
    ∷ map
    (λ rule. positive (body_var normal rule.body))
    (filter (λ rule. has_atom rule.heads atom) normal.rules)

-- so many numbers from the first on
abbrev pub numbers_from : ℕ → ℕ → List ℕ
numbers_from first zero = []
numbers_from first (suc count) = first ∷ numbers_from (first + 1) count

-- the atoms of a normal form
abbrev pub atoms_of_normal : Normal → List ℕ
atoms_of_normal normal = numbers_from 1 normal.atoms

-- the clause of one literal
abbrev pub alone : Lit → List Lit
alone lit = lit ∷ []

-- the compute statement
abbrev pub compute_clauses : Normal → List (List Lit)
compute_clauses normal =
    map (λ atom. alone (positive atom)) normal.must
    ++ map (λ atom. alone (negative atom)) normal.must_not

-- the base clauses, in their order: conjunctive bodies, rules, the support of each atom, the
-- compute statement
abbrev pub base_clauses : Normal → List (List Lit)
base_clauses normal =
    cleaned
    (flat_map (body_clauses normal) (numbered_bodies normal)
    ++ flat_map (rule_clauses normal) normal.rules
    ++ map (support_clause normal) (atoms_of_normal normal) ++ compute_clauses normal)

-- selectors in use have a value each, and one that is on has its disjunction true
abbrev pub AreChosen : List Bool → List (List Lit) → List Bool → Type 0
AreChosen values disjunctions chosen =
    AllZip (λ any on. IsTrue on → HoldsIn values any) disjunctions chosen

-- the clause holds for each answer set in its extension, with each choice of the selectors whose
-- disjunctions these are
abbrev pub IsEntailed : Normal → List (List Lit) → List Lit → Type 0
IsEntailed normal disjunctions clause =
    (set chosen : List Bool) → IsAnswerSetN normal set
    → AreChosen (extension normal set set) disjunctions chosen →
    HoldsIn (extension normal set set ++ chosen) clause

-- each base clause holds in every answer set
abbrev pub AreEntailed : Normal → Type 0
AreEntailed normal = All (IsEntailed normal []) (base_clauses normal)
