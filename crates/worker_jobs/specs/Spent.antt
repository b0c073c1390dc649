-- What the spent test of a round is.
use Rattle.std.specs.Prelude.{◌≡◌, ℕ, List, MatchOption, Option, None, Some, ⊤}
use Rattle.ground_program.specs.declared.program.Mode.{Mode}
use Rattle.clause_store.specs.declared.literal.Lit.{Lit}
use Rattle.normal_program.specs.declared.normal.Normal.{Normal}
use Rattle.normal_program.specs.declared.spent.SpentTest.{SpentTest}
use Rattle.normal_program.specs.Spent.{IsGrounded, IsSpentTest, IsWideSpentTest}
use Rattle.worker_jobs.specs.declared.job.Job.{Job}
use Rattle.worker_jobs.specs.declared.job.Job.TheVariants.{Idle, Coherence, Single, Reduce, Chunk}
use Rattle.worker_jobs.specs.declared.gain.RoundEnd.{RoundEnd}
use Rattle.worker_jobs.specs.declared.gain.RoundEnd.TheVariants.{Done, Settled, Paused, Spent}
use Rattle.worker_jobs.specs.declared.gain.RoundEnd.TheVariants.{SpentWide, NoMemory}
use Rattle.worker_jobs.specs.Job.{test_literal}

-- a test of the worker with this number, of this literal or of none, used up this budget
pub record IsMarkedBy (number limit : ℕ) (tested : Option Lit) (test : SpentTest) : Type 0 where
  pub by : test.by ≡ number
  pub budget : test.budget ≡ limit
  pub literal : test.literal ≡ tested

-- and it is a spent test
pub record IsSpentBy (normal : Normal) (number budget : ℕ) (literal : Option Lit)
    (test : SpentTest) : Type 0 where
  pub marked : IsMarkedBy number budget literal test
  pub spent : IsSpentTest normal test

-- a test of coherence is grounded too
pub record IsSpentCoherence (normal : Normal) (number budget : ℕ) (test : SpentTest) : Type 0 where
  pub spent : IsSpentBy normal number budget None test
  pub grounded : IsGrounded normal test

-- the own test of a candidate
abbrev pub IsOwnSpent : Normal → Mode → ℕ → ℕ → ℕ → SpentTest → Type 0
IsOwnSpent normal mode number budget cand test =
    IsSpentBy normal number budget (Some (test_literal normal.names mode cand)) test

-- a job is answered by a spent test: only one of coherence or of one candidate is
abbrev pub IsSpentIn : Normal → Mode → ℕ → ℕ → Job → SpentTest → Type 0
IsSpentIn normal mode number budget Idle test = ⊥
IsSpentIn normal mode number budget Coherence test = IsSpentCoherence normal number budget test
IsSpentIn normal mode number budget (Single cand) test =
    IsOwnSpent normal mode number budget cand test
IsSpentIn normal mode number budget (Reduce cands) test = ⊥
IsSpentIn normal mode number budget (Chunk cands) test = ⊥

-- the test of a disjunction: its units may have selectors where it is spent itself
pub record IsSpentWith (normal : Normal) (disjunctions : List (List Lit)) (number budget : ℕ)
    (test : SpentTest) : Type 0 where
  pub marked : IsMarkedBy number budget None test
  pub spent :
      MatchOption test.inside (IsWideSpentTest normal disjunctions test)
      (λ set. IsSpentTest normal test)

-- a job is answered by a spent test of several candidates: only one of several is. The disjunctions
-- are those of the worker's tester
abbrev pub IsSpentWideIn : Normal → List (List Lit) → ℕ → ℕ → Job → SpentTest → Type 0
IsSpentWideIn normal disjunctions number budget Idle test = ⊥
IsSpentWideIn normal disjunctions number budget Coherence test = ⊥
IsSpentWideIn normal disjunctions number budget (Single cand) test = ⊥
IsSpentWideIn normal disjunctions number budget (Reduce cands) test =
    IsSpentWith normal disjunctions number budget test
IsSpentWideIn normal disjunctions number budget (Chunk cands) test =
    IsSpentBy normal number budget None test

-- how a round may end without a board, as far as spent tests go
abbrev pub IsTrueEnd : Normal → Mode → ℕ → ℕ → Job → RoundEnd → Type 0
IsTrueEnd normal mode number budget job Done = ⊤
IsTrueEnd normal mode number budget job Settled = ⊤
IsTrueEnd normal mode number budget job Paused = ⊤
IsTrueEnd normal mode number budget job (Spent test) = IsSpentIn normal mode number budget job test
IsTrueEnd normal mode number budget job (SpentWide test) = ⊤
IsTrueEnd normal mode number budget job NoMemory = ⊤
