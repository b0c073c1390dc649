-- What it means that a test is spent: its units are worth counting, and follow from what they are
-- said to follow from.
use Rattle.std.specs.Prelude.{◌≡◌, ◌+◌, ◌⊎◌, ◌&&◌, not, ℕ, Bool, if◌then◌else◌, List, [], ◌∷◌}
use Rattle.std.specs.Prelude.{◌++◌, length, map, filter, flat_map, All, Any, None, IfSome, IfNone}
use Rattle.std.specs.Prelude.{MatchOption}
use Rattle.std.specs.List.{list_any}
use Rattle.ground_program.specs.declared.program.Kind.TheVariants.{Disjunctive}
use Rattle.ground_program.specs.Meaning.{has, IsSetOver}
use Rattle.clause_store.specs.declared.literal.Lit.{Lit}
use Rattle.clause_store.specs.Clause.{IsOver, IsTrueIn}
use Rattle.clause_store.specs.Entailment.{AreUnits}
use Rattle.clause_store.specs.History.{AreRefutedWith}
use Rattle.normal_program.specs.declared.normal.Part.{Part}
use Rattle.normal_program.specs.declared.normal.BodyOf.{BodyOf}
use Rattle.normal_program.specs.declared.normal.NormalRule.{NormalRule}
use Rattle.normal_program.specs.declared.normal.Normal.{Normal}
use Rattle.normal_program.specs.declared.spent.SpentTest.{SpentTest}
use Rattle.normal_program.specs.Body.{is_conjunctive}
use Rattle.normal_program.specs.Normal.{body_var, greatest_body_var, first_selector, extension}
use Rattle.normal_program.specs.Normal.{KeepsAllN, MeetsComputeN}
use Rattle.normal_program.specs.Clauses.{positive, negative, alone, all_clauses, literals_of}
use Rattle.normal_program.specs.Clauses.{numbered_bodies, is_choice, rule_clauses, atoms_of_normal}
use Rattle.normal_program.specs.Clauses.{cleaned, base_clauses, IsEntailed}
use Rattle.normal_program.specs.Loop.{IsLocal, IsLocalWithin}

-- whether a body has a negative literal whose atom is in the set
abbrev pub is_blocked : List Bool → BodyOf → Bool
is_blocked set body = list_any (λ part. part.lit.negated && has set part.lit.atom) body.parts

-- the positive literals of a body
abbrev pub positive_parts : BodyOf → List Part
positive_parts body = filter (λ part. not part.lit.negated) body.parts

-- the atoms in a set, and those outside it
abbrev pub atoms_in : Normal → List Bool → List ℕ
atoms_in normal set = filter (has set) (atoms_of_normal normal)

abbrev pub atoms_outside : Normal → List Bool → List ℕ
atoms_outside normal set = filter (λ atom. not (has set atom)) (atoms_of_normal normal)

-- what a conjunctive body means in the parts of a set, where its negative literals are judged by
-- the set
abbrev pub inner_body_clauses : Normal → List Bool → ℕ × BodyOf → List (List Lit)
inner_body_clauses normal set body =
    if not (is_conjunctive body.1) then []
    else
    if is_blocked set body.1 then alone (negative (body_var normal body.0)) ∷ []
    else all_clauses (body_var normal body.0) (literals_of (positive_parts body.1))

-- a choice rule in the parts of a set: where the body holds, each head that is in the set is true
abbrev pub inner_choice_clauses : Normal → List Bool → NormalRule → List (List Lit)
inner_choice_clauses normal set rule =
    if is_choice rule.kind
    then map (λ head. negative (body_var normal rule.body) ∷ positive head ∷ [])
    (filter (has set) rule.heads)
    else []

-- the clauses of a search for a proper part of a set that keeps the rules of the reduct by the set
abbrev pub inner_clauses : Normal → List Bool → List (List Lit)
inner_clauses normal set =
    cleaned
    (map (λ atom. alone (negative atom)) (atoms_outside normal set)
    ++ map negative (atoms_in normal set) ∷ []
    ++ flat_map (inner_body_clauses normal set) (numbered_bodies normal)
    ++ flat_map (rule_clauses normal) normal.rules
    ++ flat_map (inner_choice_clauses normal set) normal.rules)

-- the program has a disjunctive rule
abbrev pub IsDisjunctive : Normal → Type 0
IsDisjunctive normal = Any (λ rule. rule.kind ≡ Disjunctive) normal.rules

-- the units of a test itself
pub record AreUnitsOfTest (normal : Normal) (test : SpentTest) : Type 0 where
  pub units : AreUnits (base_clauses normal) test.units
  pub entailed : All (IsEntailed normal []) test.units

-- the units of the test whether a set is minimal
pub record AreUnitsWithin (normal : Normal) (test : SpentTest) (set : List Bool) : Type 0 where
  pub disjunctive : IsDisjunctive normal
  pub over : IsSetOver normal.atoms set
  pub keeps : KeepsAllN normal set set
  pub compute : MeetsComputeN normal set
  pub literal : IfSome test.literal (IsTrueIn (extension normal set set))
  pub units : AreUnits (inner_clauses normal set) test.units
  pub refuted : AreRefutedWith (IsLocalWithin normal set) (inner_clauses normal set) test.units

-- a test that used up its budget
pub record IsSpentTest (normal : Normal) (test : SpentTest) : Type 0 where
  pub all : length test.units ≡ test.budget
  pub over : All (All (IsOver (greatest_body_var normal))) test.units
  pub worth : MatchOption test.inside (AreUnitsOfTest normal test) (AreUnitsWithin normal test)

-- where a selector is on, its disjunction is true; the disjunctions stand under the selectors from
-- `first` on
abbrev pub selector_clauses_from : ℕ → List (List Lit) → List (List Lit)
selector_clauses_from first [] = []
selector_clauses_from first (any ∷ rest) =
    (any ++ negative first ∷ []) ∷ selector_clauses_from (first + 1) rest

-- the clauses of the selectors in use, whose disjunctions these are
abbrev pub selector_clauses : Normal → List (List Lit) → List (List Lit)
selector_clauses normal disjunctions = selector_clauses_from (first_selector normal) disjunctions

-- a test with a disjunction that itself used up its budget. Its units may have selectors, so it is
-- no spent test: they are entailed with the disjunctions that the selectors stand for. Only
-- selectors in use count, and the clauses of these are no units: else a search could pad its units
-- with what holds by the choice of selectors alone
pub record IsWideSpentTest (normal : Normal) (disjunctions : List (List Lit)) (test : SpentTest) :
    Type 0 where
  pub no_literal : test.literal ≡ None
  pub no_set : test.inside ≡ None
  pub all : length test.units ≡ test.budget
  pub over : All (All (IsOver (greatest_body_var normal + length disjunctions))) test.units
  pub units : AreUnits (base_clauses normal ++ selector_clauses normal disjunctions) test.units
  pub entailed : All (IsEntailed normal disjunctions) test.units

-- each unit of the test itself follows by unit propagation from base clauses, local clauses and the
-- units before it
abbrev pub IsGrounded : Normal → SpentTest → Type 0
IsGrounded normal test =
    IfNone test.inside (AreRefutedWith (IsLocal normal) (base_clauses normal) test.units)

-- of two tests themselves, the units of one are worth counting beside those of the other
abbrev pub AreApart : Normal → SpentTest → SpentTest → Type 0
AreApart normal one two =
    IfNone one.inside
    (IfNone two.inside
    (AreUnits (base_clauses normal ++ one.units) two.units
    ⊎ AreUnits (base_clauses normal ++ two.units) one.units))
