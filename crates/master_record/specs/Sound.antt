-- What is true of every record.
use Rattle.std.specs.Prelude.{◌≡◌, ◌≢◌, ◌≤◌, ◌<◌, ◌^◌, ℕ, Bool, true, false, List, length, All}
use Rattle.std.specs.Prelude.{AllPairs, IfSome, Option}
use Rattle.ground_program.specs.declared.program.Mode.{Mode}
use Rattle.ground_program.specs.Bounds.{IsCandidate}
use Rattle.normal_program.specs.declared.normal.Normal.{Normal}
use Rattle.normal_program.specs.declared.spent.SpentTest.{SpentTest}
use Rattle.normal_program.specs.Limit.{IsNormal}
use Rattle.normal_program.specs.Spent.{AreApart}
use Rattle.anytime_core.specs.Truth.{EnclosesN, IsCoherent}
use Rattle.worker_jobs.specs.Job.{IsJobOver}
use Rattle.worker_jobs.specs.Spent.{IsOwnSpent, IsSpentCoherence}
use Rattle.std.specs.Prelude.{◌↔◌, ◌+◌, Any, [], Vec, vec_len, vec_capacity}
use Rattle.std.specs.declared.alloc.Global.{Global}
use Rattle.ground_program.specs.declared.pair.Pair.{Pair}
use Rattle.master_record.specs.Course.{is_open_at, is_left_at}
use Rattle.master_record.specs.declared.own.OwnTest.{OwnTest}
use Rattle.master_record.specs.Books.{Books, IsStrategy}

-- one of so many workers spent the own test of a candidate
pub record IsOwn (normal : Normal) (mode : Mode) (budget workers : ℕ) (one : OwnTest) : Type 0 where
  pub candidate : IsCandidate normal.names one.cand
  pub first : 1 ≤ one.test.by
  pub last : one.test.by ≤ workers
  pub spent : IsOwnSpent normal mode one.test.by budget one.cand one.test

-- one of so many workers spent the test of coherence
pub record IsSpentByOne (normal : Normal) (budget workers : ℕ) (test : SpentTest) : Type 0 where
  pub first : 1 ≤ test.by
  pub last : test.by ≤ workers
  pub spent : IsSpentCoherence normal test.by budget test

-- tests of different candidates
abbrev pub AreDistinct : List OwnTest → Type 0
AreDistinct own = AllPairs (λ earlier later. earlier.cand ≢ later.cand) own

-- tests of one worker are apart
abbrev pub AreEachApart : Normal → List OwnTest → Type 0
AreEachApart normal own =
    AllPairs
    (λ earlier later. earlier.test.by ≡ later.test.by
    → AreApart normal earlier.test later.test)
    own

-- what the record says is true
pub record IsSound (books : Books) : Type 0 where
  pub normal_form : IsNormal books.normal
  pub some_worker : 1 ≤ length books.workers
  pub few_workers : length books.workers ≤ 64
  pub encloses : EnclosesN books.normal books.mode books.pair
  pub answered : 1 ≤ books.answers → IsCoherent books.normal
  pub unanswerable : books.incoherent ≡ true → ¬ IsCoherent books.normal
  pub coherence :
      IfSome books.coherence (IsSpentByOne books.normal books.budget (length books.workers))
  pub own :
      All (IsOwn books.normal books.mode books.budget (length books.workers)) books.own
  pub distinct : AreDistinct books.own
  pub apart : AreEachApart books.normal books.own
  pub strategy : IsStrategy books.strategy
  pub jobs : All (λ worker. IsJobOver books.normal.names worker.job) books.workers

-- each test names a candidate by a number from 1
abbrev pub AreNumbered : List OwnTest → Type 0
AreNumbered own = All (λ one. 1 ≤ one.cand) own

-- whether the candidate at a place is left: it is open, and its own test isn't spent
abbrev pub IsLeftAt : Pair → List OwnTest → List Bool → ℕ → Type 0
IsLeftAt pair own left place =
    (is_left_at left place ≡ true)
    ↔ ((is_open_at pair place ≡ true) × (¬ Any (λ one. one.cand ≡ place + 1) own))

-- what is kept: the record is true, and the parts that it doesn't show fit it
pub record IsKept (books : Books) (left : List Bool) (own : Vec OwnTest Global)
    (room : Vec SpentTest Global) : Type 0 where
  pub sound : IsSound books
  pub fits : books.answers < 2 ^ 32
  pub count : length left ≡ length books.normal.names
  pub left_is : (place : ℕ) → IsLeftAt books.pair own.items left place
  pub numbered : AreNumbered own.items
  pub distinct : AreDistinct own.items
  pub empty : room.items ≡ []
  pub none : vec_len room ≡ 0
  pub has_room : vec_len own + 1 ≤ vec_capacity room
