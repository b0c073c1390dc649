-- What a round and a new job make of a worker.
use Rattle.std.specs.Prelude.{◌+◌, ◌-◌, ◌<◌, ◌^◌, ℕ, Bool, true, false, List, Option, Some, None}
use Rattle.worker_jobs.specs.declared.job.Job.{Job}
use Rattle.worker_jobs.specs.declared.job.Job.TheVariants.{Idle}
use Rattle.worker_jobs.specs.declared.gain.RoundEnd.{RoundEnd}
use Rattle.worker_jobs.specs.declared.gain.RoundEnd.TheVariants.{Paused, SpentWide, NoMemory}
use Rattle.master_record.specs.declared.worker.Worker.{Worker}
use Rattle.master_record.specs.declared.worker.Mark.{Mark}
use Rattle.master_record.specs.declared.worker.Mark.TheVariants as Marks
use Rattle.master_record.specs.declared.worker.Plan.{Plan}
use Rattle.master_record.specs.declared.worker.Plan.TheVariants.{GoOn, Take}

-- a worker that had no job yet
abbrev pub newcomer : Worker
newcomer = record {
  job = Idle;
  owed = false;
  paused = false;
  wide = false;
  dead = false;
  reduces = 0;
  last = None;
}

-- the mark of the end of a round
abbrev pub mark_of : RoundEnd → Mark
mark_of Paused = Marks.Paused
mark_of (SpentWide test) = Marks.Wide
mark_of NoMemory = Marks.Dead
mark_of _ = Marks.Plain

-- a worker whose round ended with a mark
abbrev pub marked : Worker → Mark → Worker
marked worker Marks.Plain = record worker { owed = false; paused = false }
marked worker Marks.Paused = record worker { owed = false; paused = true }
marked worker Marks.Wide = record worker { owed = false; paused = false; wide = true }
marked worker Marks.Dead = record worker { owed = false; paused = false; dead = true }

-- a worker that goes on with its job
abbrev pub gone_on : Worker → Worker
gone_on worker = record worker { owed = true }

-- a worker with another job, and with its list where that is new
abbrev pub with_job : Worker → Job → Option (List ℕ) → Worker
with_job worker job None = record worker { job = job; owed = true; paused = false }
with_job worker job (Some cands) = record worker {
  job = job;
  owed = true;
  paused = false;
  reduces = worker.reduces + 1;
  last = Some cands;
}

-- a worker that does as planned
abbrev pub follow : Worker → Plan → Worker
follow worker GoOn = gone_on worker
follow worker (Take job list) = with_job worker job list

-- a worker's count of lists has room for what is planned
abbrev pub HasRoomFor : Worker → Plan → Type 0
HasRoomFor worker (Take job (Some cands)) = worker.reduces < 2 ^ 32 - 1
HasRoomFor worker _ = Unit {0}
