-- When a gain is true, and when it answers a job.
use Rattle.std.specs.Prelude.{◌≡◌, ◌≤◌, ◌⊎◌, ℕ, Bool, true, false, List, [], length, All, Any}
use Rattle.std.specs.Prelude.{Contains, IfSome, None, Some}
use Rattle.ground_program.specs.declared.program.Mode.{Mode}
use Rattle.ground_program.specs.declared.program.Mode.TheVariants.{Cautious, Brave}
use Rattle.ground_program.specs.declared.program.Named.{Named}
use Rattle.ground_program.specs.Bounds.{IsCandidate, Shows}
use Rattle.normal_program.specs.declared.normal.Normal.{Normal}
use Rattle.normal_program.specs.Normal.{IsAnswerSetN}
use Rattle.anytime_core.specs.Truth.{IsCoherent, IsConsequenceN}
use Rattle.worker_jobs.specs.declared.job.Job.{Job}
use Rattle.worker_jobs.specs.declared.job.Job.TheVariants.{Idle, Coherence, Single, Reduce, Chunk}
use Rattle.worker_jobs.specs.declared.gain.Gain.{Gain}

-- a candidate that no answer set shows: a consequence in cautious mode, and none in brave mode
abbrev pub IsProved : Normal → Mode → ℕ → Type 0
IsProved normal Cautious cand = IsConsequenceN normal Cautious cand
IsProved normal Brave cand = ¬ IsConsequenceN normal Brave cand

-- it is one of the names
pub record IsProvedCandidate (normal : Normal) (mode : Mode) (cand : ℕ) : Type 0 where
  pub candidate : IsCandidate normal.names cand
  pub proved : IsProved normal mode cand

-- there is an answer set, or there is none
abbrev pub IsCoherence : Normal → Bool → Type 0
IsCoherence normal true = IsCoherent normal
IsCoherence normal false = ¬ IsCoherent normal

-- what a gain says is true
pub record IsTrueGain (normal : Normal) (mode : Mode) (gain : Gain) : Type 0 where
  pub sets : All (IsAnswerSetN normal) gain.sets
  pub proved : All (IsProvedCandidate normal mode) gain.proved
  pub coherent : IfSome gain.coherent (IsCoherence normal)

-- a gain has a candidate: a set of it shows the candidate, or it was proved
abbrev pub HasGained : List Named → Mode → Gain → ℕ → Type 0
HasGained names mode gain cand =
    Any (λ set. Shows names mode set cand) gain.sets ⊎ Contains gain.proved cand

-- a gain says that there is no answer set
abbrev pub SaysIncoherent : Gain → Type 0
SaysIncoherent gain = gain.coherent ≡ Some false

-- a gain has nothing
pub record IsNothing (gain : Gain) : Type 0 where
  pub sets : gain.sets ≡ []
  pub proved : gain.proved ≡ []
  pub coherent : gain.coherent ≡ None

-- a gain answers a job: it has what was looked for, or it says that there is no answer set
abbrev pub Answers : List Named → Mode → Job → Gain → Type 0
Answers names mode Idle gain = IsNothing gain
Answers names mode Coherence gain = (1 ≤ length gain.sets) ⊎ SaysIncoherent gain
Answers names mode (Single cand) gain = HasGained names mode gain cand ⊎ SaysIncoherent gain
Answers names mode (Reduce cands) gain =
    Any (HasGained names mode gain) cands ⊎ SaysIncoherent gain
Answers names mode (Chunk cands) gain =
    Any (HasGained names mode gain) cands ⊎ SaysIncoherent gain
