-- What comes of one test of a chunk.
use Rattle.std.specs.Prelude.{◌≡◌, ◌≤◌, ◌<◌, ◌-◌, ◌/◌, ℕ, List, [], length, take, All, Contains}
use Rattle.ground_program.specs.declared.program.Mode.{Mode}
use Rattle.ground_program.specs.declared.program.Named.{Named}
use Rattle.clause_store.specs.Counted.{Counted}
use Rattle.normal_program.specs.declared.normal.Normal.{Normal}
use Rattle.assumption_engine.specs.Answer.{IsBelow}
use Rattle.coherence_test.specs.declared.asked.Tested.{Tested}
use Rattle.coherence_test.specs.declared.asked.Tested.TheVariants.{Found, Core as Refuted}
use Rattle.coherence_test.specs.declared.asked.Tested.TheVariants.{Paused, Spent, SpentInside}
use Rattle.coherence_test.specs.declared.asked.Tested.TheVariants.{NoMemory}
use Rattle.coherence_test.specs.Asked.{IsTested, IsTestedAt}
use Rattle.worker_jobs.specs.declared.job.Job.TheVariants.{Chunk}
use Rattle.worker_strategies.specs.declared.chunks.Step.{Step}
use Rattle.worker_strategies.specs.declared.chunks.Step.TheVariants.{Ended, Half}
use Rattle.worker_strategies.specs.Disjunction.{asked_for}
use Rattle.worker_strategies.specs.Literals.{named_of}
use Rattle.worker_strategies.specs.Outcome.{IsOutcome}

-- some of the candidates, fewer than there were
pub record IsSmaller (cands part : List ℕ) : Type 0 where
  pub some : 1 ≤ length part
  pub fewer : length part < length cands
  pub among : All (Contains cands) part

-- the test of the job has ended, or it goes on with some of the candidates
abbrev pub IsStep : Normal → Mode → List ℕ → ℕ → Counted → Step → Type 0
IsStep normal mode cands stop after (Ended outcome) =
    IsOutcome normal mode (Chunk cands) stop after outcome
IsStep normal mode cands stop after (Half part) = IsSmaller cands part × IsBelow stop after

-- the step after a core
abbrev pub IsStepOf : Normal → Mode → List ℕ → Step → Type 0
IsStepOf normal mode cands step =
    (stop : ℕ) (after : Counted) → IsBelow stop after → IsStep normal mode cands stop after step

-- the step after an answer to what a chunk asks
abbrev pub StepsTo : Normal → Mode → List ℕ → Tested → Step → Type 0
StepsTo normal mode cands tested step =
    IsTested normal (asked_for normal.names mode (Chunk cands)) tested → (stop : ℕ)
    (after : Counted) → IsTestedAt stop after tested → IsStep normal mode cands stop after step

-- the first half of a list, rounded up
abbrev pub first_half : List ℕ → List ℕ
first_half named = take (length named - length named / 2) named

-- the test goes on just where several candidates were named, and with the first half of these
abbrev pub IsHalfOf : List ℕ → Step → Type 0
IsHalfOf named (Ended outcome) = length named ≤ 1
IsHalfOf named (Half part) = (2 ≤ length named) × (part ≡ first_half named)

-- the candidates that an answer names: those of a core
abbrev pub named_by : List Named → Mode → List ℕ → Tested → List ℕ
named_by names mode cands (Found set) = []
named_by names mode cands (Refuted core) = named_of names mode core.lits cands
named_by names mode cands Paused = []
named_by names mode cands Spent = []
named_by names mode cands (SpentInside set units) = []
named_by names mode cands NoMemory = []
