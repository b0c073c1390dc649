-- What jobs ask about.
use Rattle.std.specs.Prelude.{◌≤◌, ℕ, List, length, All, ⊤}
use Rattle.ground_program.specs.declared.program.Mode.{Mode}
use Rattle.ground_program.specs.declared.program.Mode.TheVariants.{Cautious, Brave}
use Rattle.ground_program.specs.declared.program.Named.{Named}
use Rattle.ground_program.specs.Bounds.{IsCandidate, atom_of}
use Rattle.clause_store.specs.declared.literal.Lit.{Lit}
use Rattle.normal_program.specs.Clauses.{positive, negative}
use Rattle.worker_jobs.specs.declared.job.Job.{Job}
use Rattle.worker_jobs.specs.declared.job.Job.TheVariants.{Idle, Coherence, Single, Reduce, Chunk}

-- the test literal of a candidate: an answer set that makes it true shows the candidate
abbrev pub test_literal : List Named → Mode → ℕ → Lit
test_literal names Cautious cand = negative (atom_of names cand)
test_literal names Brave cand = positive (atom_of names cand)

-- a list of candidates, at least one
pub record AreCandidates (names : List Named) (cands : List ℕ) : Type 0 where
  pub some : 1 ≤ length cands
  pub each : All (IsCandidate names) cands

-- a job asks about candidates of these names
abbrev pub IsJobOver : List Named → Job → Type 0
IsJobOver names Idle = ⊤
IsJobOver names Coherence = ⊤
IsJobOver names (Single cand) = IsCandidate names cand
IsJobOver names (Reduce cands) = AreCandidates names cands
IsJobOver names (Chunk cands) = AreCandidates names cands
