-- What came of the test of a job.
use Rattle.std.specs.Prelude.{◌≡◌, ℕ, Bool, List, length, IfSome, ⊤}
use Rattle.ground_program.specs.declared.program.Mode.{Mode}
use Rattle.clause_store.specs.declared.literal.Lit.{Lit}
use Rattle.clause_store.specs.Clause.{IsTrueIn}
use Rattle.clause_store.specs.Counted.{Counted}
use Rattle.normal_program.specs.declared.normal.Normal.{Normal}
use Rattle.normal_program.specs.Normal.{extension}
use Rattle.assumption_engine.specs.Answer.{IsBelow, IsSliceOver}
use Rattle.normal_program.specs.Limit.{IsNormal}
use Rattle.coherence_test.specs.declared.asked.Core.{Core}
use Rattle.coherence_test.specs.declared.asked.Tested.{Tested}
use Rattle.coherence_test.specs.AnswerSets.{IsSpentWithin}
use Rattle.coherence_test.specs.Asked.{IsCoreFor, IsTested, IsTestedAt}
use Rattle.worker_jobs.specs.declared.job.Job.{Job}
use Rattle.worker_jobs.specs.declared.job.Job.TheVariants.{Idle, Coherence, Single, Reduce, Chunk}
use Rattle.worker_jobs.specs.declared.gain.Gain.{Gain}
use Rattle.worker_jobs.specs.declared.gain.RoundEnd.TheVariants.{Done}
use Rattle.worker_jobs.specs.Gain.{Answers, IsTrueGain}
use Rattle.worker_jobs.specs.Job.{IsJobOver}
use Rattle.worker_strategies.specs.declared.outcome.Outcome.{Outcome}
use Rattle.worker_strategies.specs.declared.outcome.Outcome.TheVariants.{Answered, Paused, Spent}
use Rattle.worker_strategies.specs.declared.outcome.Outcome.TheVariants.{SpentInside}
use Rattle.worker_strategies.specs.Disjunction.{asked_for, literal_for}

-- a gain is true and answers the job
pub record IsAnswer (normal : Normal) (mode : Mode) (job : Job) (gain : Gain) : Type 0 where
  pub is_true : IsTrueGain normal mode gain
  pub answers : Answers normal.names mode job gain
  pub done : gain.ended ≡ Done

-- the test whether a set is minimal used up its limit, and the set makes the literal of the job
-- true
pub record IsSpentSet (normal : Normal) (mode : Mode) (job : Job) (limit : ℕ) (set : List Bool)
    (units : List (List Lit)) : Type 0 where
  pub within : IsSpentWithin normal set units
  pub all : length units ≡ limit
  pub literal :
      IfSome (literal_for normal.names mode job) (IsTrueIn (extension normal set set))

-- a job tests something
abbrev pub IsAsking : Job → Type 0
IsAsking Idle = ⊥
IsAsking Coherence = ⊤
IsAsking (Single cand) = ⊤
IsAsking (Reduce cands) = ⊤
IsAsking (Chunk cands) = ⊤

-- what each outcome says, and how many clauses were counted where it comes
abbrev pub IsOutcome : Normal → Mode → Job → ℕ → Counted → Outcome → Type 0
IsOutcome normal mode job stop after (Answered gain) =
    IsAnswer normal mode job gain × IsBelow stop after
IsOutcome normal mode job stop after Paused = IsAsking job × IsSliceOver stop after
IsOutcome normal mode job stop after Spent =
    IsAsking job × (length after.units ≡ after.limit)
IsOutcome normal mode job stop after (SpentInside set units) =
    IsAsking job × IsSpentSet normal mode job after.limit set units × IsBelow stop after

-- what comes of an answer of a tester that was asked what a job asks
abbrev pub ComesOf : Normal → Mode → Job → Tested → Outcome → Type 0
ComesOf normal mode job tested outcome =
    IsNormal normal → IsJobOver normal.names job
    → IsTested normal (asked_for normal.names mode job) tested → (stop : ℕ) (after : Counted)
    → IsTestedAt stop after tested → IsOutcome normal mode job stop after outcome

-- what a core says of a job that asked it
abbrev pub SaysOf : Normal → Mode → Job → Core → Gain → Type 0
SaysOf normal mode job core gain =
    IsNormal normal → IsJobOver normal.names job
    → IsCoreFor normal (asked_for normal.names mode job) core → IsAnswer normal mode job gain
