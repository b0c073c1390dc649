-- How much a run has still to do.
use Rattle.std.specs.Prelude.{◌+◌, ◌*◌, ◌-◌, ◌==◌, ◌&&◌, ℕ, Bool, true, false, not, List, length}
use Rattle.std.specs.Prelude.{Option, None, Some, count_by, if◌then◌else◌}
use Rattle.std.specs.List.{list_all, list_any, range_with_len}
use Rattle.worker_jobs.specs.declared.job.Job.{Job}
use Rattle.worker_jobs.specs.declared.job.Job.TheVariants.{Idle, Coherence, Single, Reduce, Chunk}
use Rattle.worker_strategies.specs.Working.{Working, KeptTest}
use Rattle.master_record.specs.Course.{is_open}
use Rattle.master_record.specs.Books.{Books}
use Rattle.query_run.specs.Agreed.{only}

-- the numbers of the candidates
abbrev pub all_of : Books → List ℕ
all_of books = range_with_len 1 (length books.normal.names)

-- what isn't so yet
abbrev pub undone : Bool → ℕ
undone done = if done then 0 else 1

-- whether there is something
abbrev pub is_there : {X : Type 0} → Option X → Bool
is_there None = false
is_there (Some x) = true

-- whether a candidate is open and its own test isn't spent
abbrev pub is_left : Books → ℕ → Bool
is_left books cand =
    is_open books.pair cand && not (list_any (λ one. one.cand == cand) books.own)

-- the open candidates, one more where no answer set is known, and one where it isn't known that
-- there is none
abbrev pub unsettled : Books → ℕ
unsettled books =
    count_by (is_open books.pair) (all_of books)
    + undone (not (books.answers == 0))
    + undone books.incoherent

-- the candidates that are left, one more where the test of coherence isn't spent, one where no test
-- of several is, and one where the worker isn't dead
abbrev pub unspent : Books → ℕ
unspent books =
    count_by (is_left books) (all_of books)
    + undone (is_there books.coherence)
    + undone (only books).wide
    + undone (only books).dead

-- whether a job can go on
abbrev pub can_go_on : Books → Job → Bool
can_go_on books Idle = false
can_go_on books Coherence = books.answers == 0
can_go_on books (Single cand) = is_open books.pair cand
can_go_on books (Reduce cands) = list_all (is_open books.pair) cands
can_go_on books (Chunk cands) = list_all (is_open books.pair) cands

abbrev pub goes_on : Books → Bool
goes_on books =
    not (only books).dead && ((only books).paused && can_go_on books (only books).job)

-- how many units a kept test has
abbrev pub kept_units : Option KeptTest → ℕ
kept_units None = 0
kept_units (Some kept) = length kept.units

-- the units that are left to the test that goes on, or else the whole budget
abbrev pub uncounted : Books → Working → ℕ
uncounted books worker =
    if goes_on books then books.budget - kept_units worker.kept else books.budget

-- three numbers by their order: the second is at most `most`, and the third at most `last`
abbrev pub weigh : ℕ → ℕ → ℕ → ℕ → ℕ → ℕ
weigh most last first second third = (first * (most + 1) + second) * (last + 1) + third

-- what is left to do
abbrev pub to_do : Books → Working → ℕ
to_do books worker =
    weigh (length books.normal.names + 3) books.budget (unsettled books) (unspent books)
    (uncounted books worker)
