-- What contracts see of a worker, and what a round does.
use Rattle.std.specs.Prelude.{◌≡◌, ◌≢◌, ◌≤◌, ◌<◌, ◌+◌, ◌⊎◌, ℕ, Bool, false, List, [], ◌++◌}
use Rattle.std.specs.Prelude.{length, take, Contains}
use Rattle.std.specs.Prelude.{IfNone, IfSome, Option, None, Some, ⊤}
use Rattle.ground_program.specs.declared.program.Mode.{Mode}
use Rattle.clause_store.specs.declared.literal.Lit.{Lit}
use Rattle.clause_store.specs.Entailment.{AreUnits}
use Rattle.clause_store.specs.Laws.{AreMoreClauses}
use Rattle.normal_program.specs.declared.normal.Normal.{Normal}
use Rattle.normal_program.specs.declared.spent.SpentTest.{SpentTest}
use Rattle.normal_program.specs.Clauses.{base_clauses}
use Rattle.coherence_test.specs.Selectors.{AreUsed}
use Rattle.coherence_test.specs.Testing.{selectors}
use Rattle.worker_jobs.specs.declared.job.Job.{Job}
use Rattle.worker_jobs.specs.declared.job.Job.TheVariants.{Idle, Coherence, Single, Reduce, Chunk}
use Rattle.worker_jobs.specs.declared.gain.Gain.{Gain}
use Rattle.worker_jobs.specs.declared.gain.RoundEnd.{RoundEnd}
use Rattle.worker_jobs.specs.declared.gain.RoundEnd.TheVariants.{Done, Settled, Paused, Spent}
use Rattle.worker_jobs.specs.declared.gain.RoundEnd.TheVariants.{SpentWide, NoMemory}
use Rattle.worker_jobs.specs.Gain.{Answers}
use Rattle.worker_jobs.specs.Spent.{IsSpentIn, IsSpentWideIn}
use Rattle.worker_strategies.specs.Disjunction.{disjunction_for}
use Rattle.worker_strategies.specs.Testing.{IsFrontOf}

-- a test that is to go on: its job, and what it counted so far
pub record KeptTest : Type 0 where
  pub job : Job
  pub units : List (List Lit)

-- what contracts see of a worker: its normal form, its mode, its number, the budget of its tests,
-- the clauses of its tester and the disjunctions of the selectors in use there, how many clauses
-- there were when its present test began, the test that it keeps, how many clauses were counted
-- in the last round, and whether it is dead for want of memory
pub record Working : Type 0 where
  pub normal : Normal
  pub mode : Mode
  pub number : ℕ
  pub budget : ℕ
  pub clauses : List (List Lit)
  pub disjunctions : List (List Lit)
  pub began : ℕ
  pub kept : Option KeptTest
  pub counted : ℕ
  pub dead : Bool

-- a worker that was opened
abbrev pub hired : Normal → Mode → ℕ → ℕ → Working
hired normal mode number budget = record {
  normal = normal;
  mode = mode;
  number = number;
  budget = budget;
  clauses = base_clauses normal;
  disjunctions = [];
  began = length (base_clauses normal);
  kept = None;
  counted = 0;
  dead = false;
}

-- a selector is there for the disjunction of a job, if it has one: it is in use, or one is left
abbrev pub HasSelectorFor : Working → Job → Type 0
HasSelectorFor worker job =
    IfSome (disjunction_for worker.normal.names worker.mode job)
    (λ any. Contains worker.disjunctions any
    ⊎ (length worker.disjunctions < selectors worker.normal))

-- the present test began with the base clauses at least
pub record HasBegun (worker : Working) : Type 0 where
  pub base : IsFrontOf (base_clauses worker.normal) (take worker.began worker.clauses)
  pub within : worker.began ≤ length worker.clauses

-- a round keeps what the worker is
pub record IsSameWorker (old new : Working) : Type 0 where
  pub normal : new.normal ≡ old.normal
  pub mode : new.mode ≡ old.mode
  pub number : new.number ≡ old.number
  pub budget : new.budget ≡ old.budget

-- the kept test has this job, so it goes on, with these units
pub record GoesOn (old : Working) (job : Job) (units : List (List Lit)) (new : Working) : Type 0
  where
    pub kept : old.kept ≡ Some (record { job = job; units = units })
    pub began : new.began ≡ old.began

-- it has another job, or none is kept: a test begins, with no units
pub record BeginsAnew (old : Working) (job : Job) (units : List (List Lit)) (new : Working) :
    Type 0 where
  pub other : IfSome old.kept (λ kept. kept.job ≢ job)
  pub none : units ≡ []
  pub began : new.began ≡ length old.clauses

-- with which units the test of a round begins
abbrev pub BeginsWith : Working → Job → List (List Lit) → Working → Type 0
BeginsWith old job units new = GoesOn old job units new ⊎ BeginsAnew old job units new

-- the gain answers the job, and fewer clauses were counted than a round may
pub record IsDone (old : Working) (job : Job) (slice : ℕ) (new : Working) (gain : Gain) : Type 0
  where
    pub answers : Answers old.normal.names old.mode job gain
    pub nothing : new.kept ≡ None
    pub counted : new.counted < slice

-- as many clauses were counted as a round may, and the test is kept with these and with those that
-- it had, fewer than the budget
pub record IsPaused (old : Working) (job : Job) (slice : ℕ) (new : Working) : Type 0 where
  pub before : List (List Lit)
  pub units : List (List Lit)
  pub begins : BeginsWith old job before new
  pub kept : new.kept ≡ Some (record { job = job; units = before ++ units })
  pub counted : new.counted ≡ slice
  pub all : length units ≡ slice
  pub below : length before + length units < old.budget

-- the units of a worker's own test of one candidate: they are worth counting beside the clauses
-- that there were when it began, and they stand among its clauses
pub record AreOwnUnits (worker : Working) (units : List (List Lit)) : Type 0 where
  pub are : AreUnits (take worker.began worker.clauses) units
  pub among : AreMoreClauses units worker.clauses

-- so it is with the test of one candidate that was itself spent
abbrev pub IsOwnWork : Working → Job → SpentTest → Type 0
IsOwnWork worker Idle test = ⊤
IsOwnWork worker Coherence test = ⊤
IsOwnWork worker (Single cand) test = IfNone test.inside (AreOwnUnits worker test.units)
IsOwnWork worker (Reduce cands) test = ⊤
IsOwnWork worker (Chunk cands) test = ⊤

-- the budget of a test of coherence or of one candidate is used up
pub record IsSpentRound (old : Working) (job : Job) (new : Working) (test : SpentTest) : Type 0
  where
    pub spent : IsSpentIn old.normal old.mode old.number old.budget job test
    pub own : IsOwnWork new job test
    pub nothing : new.kept ≡ None

-- the budget of a test of several candidates is used up
pub record IsSpentWideRound (old : Working) (job : Job) (new : Working) (test : SpentTest) :
    Type 0 where
  pub spent : IsSpentWideIn old.normal new.disjunctions old.number old.budget job test
  pub nothing : new.kept ≡ None

-- how a round ended
abbrev pub EndsBy : Working → Job → ℕ → Working → Gain → RoundEnd → Type 0
EndsBy old job slice new gain Done = IsDone old job slice new gain
EndsBy old job slice new gain Settled = ⊥
EndsBy old job slice new gain Paused = IsPaused old job slice new
EndsBy old job slice new gain (Spent test) = IsSpentRound old job new test
EndsBy old job slice new gain (SpentWide test) = IsSpentWideRound old job new test
EndsBy old job slice new gain NoMemory = ⊥

-- a round of a worker that didn't end with want of memory
pub record HasRounded (old : Working) (job : Job) (slice : ℕ) (new : Working) (gain : Gain) :
    Type 0 where
  pub same : IsSameWorker old new
  pub grows : IsFrontOf old.clauses new.clauses
  pub uses :
      AreUsed old.disjunctions (disjunction_for old.normal.names old.mode job) new.disjunctions
  pub begins : (units : List (List Lit)) × BeginsWith old job units new
  pub ends : EndsBy old job slice new gain gain.ended
