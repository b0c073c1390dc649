-- What contracts see of the record of a run.
use Rattle.std.specs.Prelude.{◌≡◌, ◌≤◌, ◌+◌, ◌-◌, ℕ, Bool, true, false, List, [], Option, None}
use Rattle.std.specs.Prelude.{filter, length, replicate, slice_index_or}
use Rattle.std.specs.List.{range_with_len}
use Rattle.ground_program.specs.declared.pair.Pair.{Pair}
use Rattle.ground_program.specs.declared.program.Mode.{Mode}
use Rattle.normal_program.specs.declared.normal.Normal.{Normal}
use Rattle.normal_program.specs.declared.spent.SpentTest.{SpentTest}
use Rattle.worker_jobs.specs.declared.job.Strategy.{Strategy}
use Rattle.worker_jobs.specs.declared.job.Strategy.TheVariants.{Chunks}
use Rattle.worker_jobs.specs.declared.job.Job.{Job}
use Rattle.master_record.specs.declared.own.OwnTest.{OwnTest}
use Rattle.master_record.specs.declared.worker.Worker.{Worker}
use Rattle.master_record.specs.Rounds.{newcomer}
use Rattle.master_record.specs.Course.{IsOpenIn, is_open}

-- the record: how many answer sets were given, the pair that the lines so far make, the spent test
-- of coherence, the spent own tests of open candidates as they came, whether a gain said that there
-- is no answer set, and the workers
pub record Books : Type 0 where
  pub normal : Normal
  pub mode : Mode
  pub strategy : Strategy
  pub budget : ℕ
  pub answers : ℕ
  pub pair : Pair
  pub coherence : Option SpentTest
  pub own : List OwnTest
  pub incoherent : Bool
  pub workers : List Worker

-- the record of a run that begins
abbrev pub opened : Normal → Mode → Strategy → ℕ → ℕ → Books
opened normal mode strategy workers budget = record {
  normal = normal;
  mode = mode;
  strategy = strategy;
  budget = budget;
  answers = 0;
  pair = record {
    lower = replicate (length normal.names) false;
    upper = replicate (length normal.names) true;
  };
  coherence = None;
  own = [];
  incoherent = false;
  workers = replicate workers newcomer;
}

-- chunks have a size
abbrev pub IsStrategy : Strategy → Type 0
IsStrategy (Chunks size) = 1 ≤ size
IsStrategy _ = Unit {0}

-- the own tests of candidates that a pair leaves open
abbrev pub open_own : Pair → List OwnTest → List OwnTest
open_own pair own = filter (λ one. is_open pair one.cand) own

-- a candidate is open
abbrev pub IsOpenCandidate : Books → ℕ → Type 0
IsOpenCandidate books cand = IsOpenIn books.normal.names books.pair cand

-- the open candidates, ascending
abbrev pub open_list : Books → List ℕ
open_list books = filter (is_open books.pair) (range_with_len 1 (length books.normal.names))

-- the worker with a number, from 1
abbrev pub worker_of : Books → ℕ → Worker
worker_of books worker = slice_index_or books.workers (worker - 1) newcomer

abbrev pub job_of : Books → ℕ → Job
job_of books worker = (worker_of books worker).job

-- a worker's number
pub record IsWorker (books : Books) (worker : ℕ) : Type 0 where
  pub first : 1 ≤ worker
  pub last : worker ≤ length books.workers

-- a worker's round is due
pub record IsOwed (books : Books) (worker : ℕ) : Type 0 where
  pub known : IsWorker books worker
  pub owed : (worker_of books worker).owed ≡ true
