-- Tables of the candidates of each test literal.
use Rattle.std.specs.Prelude.{◌≡◌, ◌≢◌, ◌<◌, ℕ, List, slice_index_or}
use Rattle.ground_program.specs.declared.program.Mode.{Mode}
use Rattle.ground_program.specs.declared.program.Named.{Named}
use Rattle.ground_program.specs.Bounds.{IsCandidate}
use Rattle.normal_program.specs.declared.normal.Normal.{Normal}
use Rattle.worker_jobs.specs.Job.{test_literal}

-- what contracts see of the links of candidates: whose they are, and what is asked of them
pub record Linked : Type 0 where
  pub normal : Normal
  pub mode : Mode

-- the test literal of a candidate has this code
pub record HasCode (names : List Named) (mode : Mode) (code cand : ℕ) : Type 0 where
  pub candidate : IsCandidate names cand
  pub same : (test_literal names mode cand).0 ≡ code

-- a smaller candidate has the same test literal
pub record IsNext (names : List Named) (mode : Mode) (cand next : ℕ) : Type 0 where
  pub smaller : next < cand
  pub has : HasCode names mode (test_literal names mode cand).0 next

-- each number that a table has for a literal is that of a candidate of the literal, and each that
-- it has for a candidate is a smaller one of the same literal
pub record AreLinked (names : List Named) (mode : Mode) (greatest smaller : List ℕ) : Type 0 where
  pub heads : (code : ℕ) → slice_index_or greatest code 0 ≢ 0
      → HasCode names mode code (slice_index_or greatest code 0)
  pub nexts : (cand : ℕ) → slice_index_or smaller cand 0 ≢ 0
      → IsNext names mode cand (slice_index_or smaller cand 0)

-- the numbers of a table are below one
abbrev pub AreBelow : List ℕ → ℕ → Type 0
AreBelow numbers bound = (at : ℕ) → slice_index_or numbers at 0 < bound
