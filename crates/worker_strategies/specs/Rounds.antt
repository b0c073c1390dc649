-- What rounds keep. No public clause cites this module.
use Rattle.std.specs.Prelude.{◌≡◌, ◌≢◌, ◌≤◌, ◌<◌, ◌⊎◌, ℕ, Bool, true, false, List, [], length}
use Rattle.std.specs.Prelude.{IfSome, Option, None, Some, cond}
use Rattle.ground_program.specs.declared.program.Mode.{Mode}
use Rattle.clause_store.specs.declared.literal.Lit.{Lit}
use Rattle.clause_store.specs.Counted.{Counted}
use Rattle.normal_program.specs.declared.normal.Normal.{Normal}
use Rattle.normal_program.specs.declared.spent.SpentTest.{SpentTest}
use Rattle.normal_program.specs.Clauses.{base_clauses}
use Rattle.normal_program.specs.Limit.{IsNormal}
use Rattle.coherence_test.specs.Testing.{Testing, opened}
use Rattle.worker_jobs.specs.declared.job.Job.{Job}
use Rattle.worker_jobs.specs.declared.job.Job.TheVariants.{Idle, Coherence, Single, Reduce, Chunk}
use Rattle.worker_jobs.specs.declared.gain.Gain.{Gain}
use Rattle.worker_jobs.specs.declared.gain.RoundEnd.{RoundEnd}
use Rattle.worker_jobs.specs.declared.gain.RoundEnd.TheVariants.{Paused as Stopped}
use Rattle.worker_jobs.specs.declared.gain.RoundEnd.TheVariants.{Spent as Exhausted, SpentWide}
use Rattle.worker_strategies.specs.declared.kept.Kept.{Kept}
use Rattle.worker_strategies.specs.declared.kept.Begun.{Begun}
use Rattle.worker_strategies.specs.declared.outcome.Outcome.{Outcome}
use Rattle.worker_strategies.specs.declared.outcome.Outcome.TheVariants.{Answered, Paused, Spent}
use Rattle.worker_strategies.specs.declared.outcome.Outcome.TheVariants.{SpentInside}
use Rattle.worker_strategies.specs.Disjunction.{disjunction_for, literal_for}
use Rattle.worker_strategies.specs.Testing.{IsFrontOf, IsTesterOf, IsTestOf, or_opened}
use Rattle.worker_strategies.specs.Working.{KeptTest, Working}

-- what contracts see of rounds: beside what a worker shows, the completed store, the main tester
-- and that of the first test for coherence, and the clauses of the main one when the present test
-- began
pub record Desk : Type 0 where
  pub normal : Normal
  pub mode : Mode
  pub number : ℕ
  pub budget : ℕ
  pub completed : List (List Lit)
  pub main : Option Testing
  pub first : Option Testing
  pub began : List (List Lit)
  pub kept : Option Kept
  pub counted : ℕ

-- rounds that were opened: no tester yet, and no test
abbrev pub opened_desk : Normal → Mode → ℕ → ℕ → Desk
opened_desk normal mode number budget = record {
  normal = normal;
  mode = mode;
  number = number;
  budget = budget;
  completed = base_clauses normal;
  main = None;
  first = None;
  began = base_clauses normal;
  kept = None;
  counted = 0;
}

-- the main tester, which is opened at the first job that needs it
abbrev pub main_of : Desk → Testing
main_of desk = or_opened desk.normal desk.main

-- the tester of a job, which goes on or not
abbrev pub tester_for : Desk → Job → Bool → Testing
tester_for desk Idle goes_on = main_of desk
tester_for desk Coherence goes_on =
    cond goes_on (or_opened desk.normal desk.first) (opened desk.normal)
tester_for desk (Single cand) goes_on = main_of desk
tester_for desk (Reduce cands) goes_on = main_of desk
tester_for desk (Chunk cands) goes_on = main_of desk

-- with which clauses the present test of a job began
abbrev pub begin_of : Desk → Job → List (List Lit)
begin_of desk Idle = desk.began
begin_of desk Coherence = base_clauses desk.normal
begin_of desk (Single cand) = desk.began
begin_of desk (Reduce cands) = desk.began
begin_of desk (Chunk cands) = desk.began

-- a test that may go on
pub record IsKeptTest (desk : Desk) (kept : Kept) : Type 0 where
  pub limit : kept.budget.limit ≡ desk.budget
  pub below : length kept.budget.units < desk.budget
  pub test :
      IsTestOf desk.normal (disjunction_for desk.normal.names desk.mode kept.job)
      (begin_of desk kept.job) (tester_for desk kept.job true) kept.budget

-- a tester of coherence: it has no disjunction
pub record IsFirst (normal : Normal) (tester : Testing) : Type 0 where
  pub of : IsTesterOf normal tester
  pub plain : tester.disjunctions ≡ []

-- what holds between rounds
pub record IsReady (desk : Desk) : Type 0 where
  pub is_normal : IsNormal desk.normal
  pub some : 1 ≤ desk.budget
  pub complete : desk.completed ≡ base_clauses desk.normal
  pub is_main : IsTesterOf desk.normal (main_of desk)
  pub is_first : IfSome desk.first (IsFirst desk.normal)
  pub base : IsFrontOf (base_clauses desk.normal) desk.began
  pub front : IsFrontOf desk.began (main_of desk).clauses
  pub keeps : IfSome desk.kept (IsKeptTest desk)

-- what a worker keeps: all is ready until it is dead
pub record IsAtWork (desk : Desk) (dead : Bool) : Type 0 where
  pub is_normal : IsNormal desk.normal
  pub some : 1 ≤ desk.budget
  pub ready : dead ≡ false → IsReady desk

-- what contracts see of a kept test
abbrev pub kept_test : Option Kept → Option KeptTest
kept_test None = None
kept_test (Some kept) = Some (record { job = kept.job; units = kept.budget.units })

-- what contracts see of a worker
abbrev pub working : Desk → Bool → Working
working desk dead = record {
  normal = desk.normal;
  mode = desk.mode;
  number = desk.number;
  budget = desk.budget;
  clauses = (main_of desk).clauses;
  disjunctions = (main_of desk).disjunctions;
  began = length desk.began;
  kept = kept_test desk.kept;
  counted = desk.counted;
  dead = dead;
}

-- the kept test has this job, and its budget is taken
pub record TakesUp (desk : Desk) (job : Job) (clauses : List (List Lit)) (begun : Begun) : Type 0
  where
    pub goes : begun.goes_on ≡ true
    pub kept : desk.kept ≡ Some (record { job = job; budget = begun.budget })
    pub began : clauses ≡ desk.began

-- a test begins
pub record Begins (desk : Desk) (job : Job) (clauses : List (List Lit)) (begun : Begun) : Type 0
  where
    pub goes : begun.goes_on ≡ false
    pub other : IfSome desk.kept (λ kept. kept.job ≢ job)
    pub fresh : begun.budget ≡ record { limit = desk.budget; units = [] }
    pub began : clauses ≡ (main_of desk).clauses

-- a job goes on or begins, with the clauses with which its test began
abbrev pub IsBegun : Desk → Job → List (List Lit) → Begun → Type 0
IsBegun desk job clauses begun = TakesUp desk job clauses begun ⊎ Begins desk job clauses begun

-- a gain that has nothing
abbrev pub nothing_gained : RoundEnd → Gain
nothing_gained ended = record { sets = []; proved = []; coherent = None; ended = ended }

-- the spent test of a job
abbrev pub spent_by : Desk → Job → List (List Lit) → Option (List Bool) → SpentTest
spent_by desk job units inside = record {
  literal = literal_for desk.normal.names desk.mode job;
  by = desk.number;
  budget = desk.budget;
  units = units;
  inside = inside;
}

-- how a round ends whose test is spent
abbrev pub spent_end : Desk → Job → List (List Lit) → Option (List Bool) → RoundEnd
spent_end desk Idle units inside = Exhausted (spent_by desk Idle units inside)
spent_end desk Coherence units inside = Exhausted (spent_by desk Coherence units inside)
spent_end desk (Single cand) units inside = Exhausted (spent_by desk (Single cand) units inside)
spent_end desk (Reduce cands) units inside = SpentWide (spent_by desk (Reduce cands) units inside)
spent_end desk (Chunk cands) units inside = SpentWide (spent_by desk (Chunk cands) units inside)

-- the gain of a round by what came of its test
abbrev pub gain_after : Desk → Job → Counted → Outcome → Gain
gain_after desk job counted (Answered gain) = gain
gain_after desk job counted Paused = nothing_gained Stopped
gain_after desk job counted Spent = nothing_gained (spent_end desk job counted.units None)
gain_after desk job counted (SpentInside set units) =
    nothing_gained (spent_end desk job units (Some set))

-- and the test that is kept
abbrev pub kept_after : Job → Counted → Outcome → Option Kept
kept_after job counted (Answered gain) = None
kept_after job counted Paused = Some (record { job = job; budget = counted })
kept_after job counted Spent = None
kept_after job counted (SpentInside set units) = None

-- a test for coherence leaves the main tester, and any other gives up the tester of coherence
pub record KeepsTesters (old : Desk) (job : Job) (new : Desk) : Type 0 where
  pub same : new ≡ record old { main = new.main; first = new.first }
  pub main : job ≡ Coherence → new.main ≡ old.main
  pub first : job ≢ Coherence → (new.first ≡ None) ⊎ (new.first ≡ old.first)
