-- What the record of a run and its only worker have to do with each other.
use Rattle.std.specs.Prelude.{◌≡◌, ◌≤◌, ◌<◌, ◌⊎◌, ℕ, true, false, List, Option, None, Some}
use Rattle.std.specs.Prelude.{length, take, All, Contains, IfNone, IfSome, ⊤}
use Rattle.clause_store.specs.declared.literal.Lit.{Lit}
use Rattle.clause_store.specs.Laws.{AreMoreClauses}
use Rattle.worker_jobs.specs.declared.job.Job.{Job}
use Rattle.worker_jobs.specs.declared.job.Job.TheVariants.{Idle, Coherence, Single, Reduce, Chunk}
use Rattle.worker_strategies.specs.Disjunction.{disjunction_of}
use Rattle.worker_jobs.specs.declared.gain.Gain.{Gain}
use Rattle.worker_jobs.specs.declared.gain.RoundEnd.TheVariants.{NoMemory}
use Rattle.worker_strategies.specs.Working.{Working, KeptTest, HasBegun, HasRounded}
use Rattle.master_record.specs.declared.own.OwnTest.{OwnTest}
use Rattle.master_record.specs.declared.worker.Worker.{Worker}
use Rattle.master_record.specs.Books.{Books, worker_of}
use Rattle.master_record.specs.Verdicts.{IsTested}

-- what is kept of the only worker
abbrev pub only : Books → Worker
only books = worker_of books 1

-- the clauses with which the test that is kept began, or else all
abbrev pub reach_of : Option KeptTest → ℕ → List (List Lit) → List (List Lit)
reach_of None began clauses = clauses
reach_of (Some kept) began clauses = take began clauses

abbrev pub reach : Working → List (List Lit)
reach worker = reach_of worker.kept worker.began worker.clauses

-- the units of an own test stand there
abbrev pub IsBehind : Working → OwnTest → Type 0
IsBehind worker one = IfNone one.test.inside (AreMoreClauses one.test.units (reach worker))

-- the disjunction of a list is in use
abbrev pub IsInUse : Working → List ℕ → Type 0
IsInUse worker cands =
    Contains worker.disjunctions (disjunction_of worker.normal.names worker.mode cands)

-- why a test may be paused: the own test of the candidate isn't spent, or none of several was
abbrev pub IsUnspent : Books → Working → Job → Type 0
IsUnspent books worker Idle = ⊤
IsUnspent books worker Coherence = ⊤
IsUnspent books worker (Single cand) = ¬ IsTested books cand
IsUnspent books worker (Reduce cands) = ((only books).wide ≡ false) × IsInUse worker cands
IsUnspent books worker (Chunk cands) = (only books).wide ≡ false

-- the worker keeps the test of its job, and may count more in it
pub record IsPausedAt (books : Books) (worker : Working) : Type 0 where
  pub units : List (List Lit)
  pub kept : worker.kept ≡ Some (record { job = (only books).job; units = units })
  pub below : length units < books.budget
  pub unspent : IsUnspent books worker (only books).job

-- between rounds of a living worker
pub record IsInStep (books : Books) (worker : Working) : Type 0 where
  pub normal : worker.normal ≡ books.normal
  pub mode : worker.mode ≡ books.mode
  pub number : worker.number ≡ 1
  pub budget : worker.budget ≡ books.budget
  pub alive : worker.dead ≡ false
  pub begun : HasBegun worker
  pub paused : (only books).paused ≡ true → IsPausedAt books worker
  pub lists : length worker.disjunctions ≤ (only books).reduces
  pub last : IfSome (only books).last (IsInUse worker)
  pub own : All (IsBehind worker) books.own

-- there is one worker, which is dead or in step with the record
pub record IsAgreed (books : Books) (worker : Working) : Type 0 where
  pub one : length books.workers ≡ 1
  pub step : ((only books).dead ≡ true) ⊎ IsInStep books worker

-- what a round did: memory ran out, or the worker lives
abbrev pub HasWorked : Working → Job → ℕ → Working → Gain → Type 0
HasWorked old job slice new gain =
    (gain.ended ≡ NoMemory)
    ⊎ (HasRounded old job slice new gain × (new.dead ≡ false) × HasBegun new)
