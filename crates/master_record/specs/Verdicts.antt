-- How far a run has come.
use Rattle.std.specs.Prelude.{◌≡◌, ◌≤◌, ◌<◌, ◌⊎◌, ◌↔◌, ℕ, Bool, true, false, List, All, Any}
use Rattle.std.specs.Prelude.{AllPairs, Contains, IsSome, option_to_list}
use Rattle.std.specs.List.{AllZip}
use Rattle.normal_program.specs.declared.spent.SpentTest.{SpentTest}
use Rattle.master_record.specs.declared.own.OwnTest.{OwnTest}
use Rattle.master_record.specs.declared.verdict.Verdict.{Verdict}
use Rattle.master_record.specs.declared.verdict.Verdict.TheVariants.{Running, Complete, Partial}
use Rattle.master_record.specs.declared.verdict.Verdict.TheVariants.{Incoherent, NoMemory}
use Rattle.master_record.specs.Books.{Books, IsOpenCandidate}

-- an answer set was given and every candidate is settled
pub record IsFinished (books : Books) : Type 0 where
  pub answered : 1 ≤ books.answers
  pub settled : (cand : ℕ) → ¬ IsOpenCandidate books cand

-- a candidate's own test was spent
abbrev pub IsTested : Books → ℕ → Type 0
IsTested books cand = Any (λ one. one.cand ≡ cand) books.own

-- the test of coherence was spent and no answer set is known, or one was given and the own test of
-- each open candidate was spent
abbrev pub IsSpentOut : Books → Type 0
IsSpentOut books =
    ((books.answers ≡ 0) × IsSome books.coherence)
    ⊎ ((1 ≤ books.answers)
    × ((cand : ℕ) → IsOpenCandidate books cand → IsTested books cand))

-- each worker ran out of memory
abbrev pub AreDead : Books → Type 0
AreDead books = All (λ worker. worker.dead ≡ true) books.workers

-- what a verdict says
abbrev pub IsVerdict : Books → Verdict → Type 0
IsVerdict books Complete = IsFinished books
IsVerdict books Incoherent = (¬ IsFinished books) × (books.incoherent ≡ true)
IsVerdict books Partial =
    (¬ IsFinished books) × (books.incoherent ≡ false) × IsSpentOut books
IsVerdict books NoMemory =
    (¬ IsFinished books) × (books.incoherent ≡ false) × (¬ IsSpentOut books) × AreDead books
IsVerdict books Running =
    (¬ IsFinished books) × (books.incoherent ≡ false) × (¬ IsSpentOut books)
    × (¬ AreDead books)

-- a test is the own test of a candidate
abbrev pub IsTestOf : List OwnTest → ℕ → SpentTest → Type 0
IsTestOf own cand test = Contains own (record { cand = cand; test = test })

-- these own tests, ascending by candidate
pub record AreOwnTests (own : List OwnTest) (tests : List SpentTest) : Type 0 where
  pub cands : List ℕ
  pub ascending : AllPairs (λ earlier later. earlier < later) cands
  pub each : AllZip (IsTestOf own) cands tests
  pub all : All (λ one. Contains cands one.cand) own

-- the tests on which a Partial verdict rests
abbrev pub AreSpent : Books → List SpentTest → Type 0
AreSpent books tests =
    ((books.answers ≡ 0) × (tests ≡ option_to_list books.coherence))
    ⊎ ((1 ≤ books.answers) × AreOwnTests books.own tests)
