-- Laws about gains and spent tests. Each is a clause of a function in src/laws.rt.
use Rattle.std.specs.Prelude.{◌↔◌, ℕ, Bool, List, ◌++◌}
use Rattle.ground_program.specs.declared.program.Mode.{Mode}
use Rattle.ground_program.specs.Bounds.{IsCandidate, Shows}
use Rattle.clause_store.specs.declared.literal.Lit.{Lit}
use Rattle.clause_store.specs.Clause.{IsTrueIn}
use Rattle.clause_store.specs.Entailment.{AreUnits}
use Rattle.clause_store.specs.Laws.{AreMoreClauses}
use Rattle.normal_program.specs.declared.normal.Normal.{Normal}
use Rattle.normal_program.specs.declared.spent.SpentTest.{SpentTest}
use Rattle.normal_program.specs.Normal.{IsAnswerSetN, extension}
use Rattle.normal_program.specs.Clauses.{base_clauses}
use Rattle.normal_program.specs.Limit.{IsNormal}
use Rattle.normal_program.specs.Spent.{AreApart}
use Rattle.worker_jobs.specs.Gain.{IsProved}
use Rattle.worker_jobs.specs.Job.{test_literal}

-- units beside more clauses than the base clauses and the units of an earlier test
abbrev pub LaterTestsAreApart : Type 0
LaterTestsAreApart =
    (normal : Normal) (earlier later : SpentTest) (clauses : List (List Lit))
    → AreMoreClauses (base_clauses normal ++ earlier.units) clauses
    → AreUnits clauses later.units
    → AreApart normal earlier later

-- an answer set shows a candidate just where its extension makes the test literal true
abbrev pub TestLiteralShows : Type 0
TestLiteralShows =
    (normal : Normal) (mode : Mode) (set : List Bool) (cand : ℕ)
    → IsNormal normal → IsAnswerSetN normal set → IsCandidate normal.names cand
    → Shows normal.names mode set cand
    ↔ IsTrueIn (extension normal set set) (test_literal normal.names mode cand)

-- what an answer set shows isn't proved
abbrev pub ShownIsNotProved : Type 0
ShownIsNotProved =
    (normal : Normal) (mode : Mode) (set : List Bool) (cand : ℕ)
    → IsAnswerSetN normal set → Shows normal.names mode set cand
    → ¬ IsProved normal mode cand
