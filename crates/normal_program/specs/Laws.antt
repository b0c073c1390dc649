-- Laws of entailment. Each is a clause of a function in src/laws.rt.
use Rattle.std.specs.Prelude.{◌+◌, ◌↔◌, ℕ, List, [], ◌++◌, length, All, IfNone}
use Rattle.clause_store.specs.declared.literal.Lit.{Lit}
use Rattle.clause_store.specs.Clause.{IsOver, AreOver}
use Rattle.clause_store.specs.Entailment.{AreUnits}
use Rattle.clause_store.specs.History.{AreRefutedWith}
use Rattle.normal_program.specs.declared.normal.Normal.{Normal}
use Rattle.normal_program.specs.declared.spent.SpentTest.{SpentTest}
use Rattle.normal_program.specs.Normal.{greatest_body_var}
use Rattle.normal_program.specs.Clauses.{base_clauses, IsEntailed}
use Rattle.normal_program.specs.Limit.{IsNormal}
use Rattle.normal_program.specs.Loop.{IsLoopClauseFor, FollowsFromBody, IsLocal}
use Rattle.normal_program.specs.Spent.{selector_clauses, IsSpentTest}
use Rattle.normal_program.specs.Spent.{IsWideSpentTest, IsGrounded}

-- a loop clause is entailed, with any disjunctions
abbrev pub LoopClausesAreEntailed : Type 0
LoopClausesAreEntailed =
    (normal : Normal) (atoms : List ℕ) (clause : List Lit) (disjunctions : List (List Lit))
    → IsNormal normal → IsLoopClauseFor normal atoms clause → IsEntailed normal disjunctions clause

-- a clause that follows from a body is entailed, with any disjunctions
abbrev pub ClausesOfBodiesAreEntailed : Type 0
ClausesOfBodiesAreEntailed =
    (normal : Normal) (clause : List Lit) (disjunctions : List (List Lit))
    → IsNormal normal → FollowsFromBody normal clause → IsEntailed normal disjunctions clause

-- so a local clause is entailed
abbrev pub LocalClausesAreEntailed : Type 0
LocalClausesAreEntailed =
    (normal : Normal) (clause : List Lit) (disjunctions : List (List Lit))
    → IsNormal normal → IsLocal normal clause → IsEntailed normal disjunctions clause

-- what is refuted from entailed clauses and local ones is entailed
abbrev pub RefutedAreEntailed : Type 0
RefutedAreEntailed =
    (normal : Normal) (disjunctions clauses units : List (List Lit))
    → IsNormal normal → All (IsEntailed normal disjunctions) clauses
    → AreRefutedWith (IsLocal normal) clauses units → All (IsEntailed normal disjunctions) units

-- so the units of a grounded test are entailed
abbrev pub GroundedAreEntailed : Type 0
GroundedAreEntailed =
    (normal : Normal) (test : SpentTest)
    → IsNormal normal → IsGrounded normal test
    → IfNone test.inside (All (IsEntailed normal []) test.units)

-- a clause without selectors is entailed with any disjunctions or with none
abbrev pub EntailedWithoutSelectors : Type 0
EntailedWithoutSelectors =
    (normal : Normal) (disjunctions : List (List Lit)) (clause : List Lit)
    → All (IsOver (greatest_body_var normal)) clause
    → IsEntailed normal [] clause ↔ IsEntailed normal disjunctions clause

-- a clause over atoms, bodies and the selectors in use stays entailed when more come into use
abbrev pub EntailedWithMoreSelectors : Type 0
EntailedWithMoreSelectors =
    (normal : Normal) (disjunctions more : List (List Lit)) (clause : List Lit)
    → All (IsOver (greatest_body_var normal + length disjunctions)) clause
    → IsEntailed normal disjunctions clause → IsEntailed normal (disjunctions ++ more) clause

-- the clauses of selectors are entailed with their disjunctions, where these have no selectors
abbrev pub SelectorClausesAreEntailed : Type 0
SelectorClausesAreEntailed =
    (normal : Normal) (disjunctions : List (List Lit))
    → AreOver (greatest_body_var normal) disjunctions
    → All (IsEntailed normal disjunctions) (selector_clauses normal disjunctions)

-- the units of a wide spent test are units over the base clauses
abbrev pub WideUnitsAreUnits : Type 0
WideUnitsAreUnits =
    (normal : Normal) (disjunctions : List (List Lit)) (test : SpentTest)
    → IsWideSpentTest normal disjunctions test → AreUnits (base_clauses normal) test.units

-- a wide spent test with no selector in use is a spent test
abbrev pub WithoutSelectorsIsSpent : Type 0
WithoutSelectorsIsSpent =
    (normal : Normal) (test : SpentTest) → IsWideSpentTest normal [] test
    → IsSpentTest normal test
