-- Laws about tests and rounds. Each is a clause of a function in src/laws.rt.
use Rattle.std.specs.Prelude.{◌≡◌, ◌≤◌, ◌<◌, ◌+◌, ◌-◌, ℕ, Bool, true, false, List, [], ◌∷◌}
use Rattle.std.specs.Prelude.{length, take, filter, slice_get, All, Contains, IsTrue, Option}
use Rattle.std.specs.Prelude.{None, Some}
use Rattle.ground_program.specs.declared.program.Mode.{Mode}
use Rattle.ground_program.specs.declared.program.Named.{Named}
use Rattle.ground_program.specs.Bounds.{IsCandidate}
use Rattle.clause_store.specs.declared.literal.Lit.{Lit}
use Rattle.clause_store.specs.Clause.{HasNoVariableTwice, IsOver}
use Rattle.clause_store.specs.Counted.{Counted}
use Rattle.clause_store.specs.History.{AreRefutedWith}
use Rattle.normal_program.specs.declared.normal.Normal.{Normal}
use Rattle.normal_program.specs.Normal.{IsAnswerSetN, greatest_body_var}
use Rattle.normal_program.specs.Clauses.{base_clauses}
use Rattle.normal_program.specs.Limit.{IsNormal}
use Rattle.normal_program.specs.Loop.{IsLocal}
use Rattle.normal_program.specs.Spent.{IsSpentTest, IsWideSpentTest}
use Rattle.coherence_test.specs.declared.asked.Core.{Core}
use Rattle.coherence_test.specs.Asked.{Answers as Meets, IsCoreFor}
use Rattle.coherence_test.specs.Testing.{Testing}
use Rattle.worker_jobs.specs.declared.job.Job.{Job}
use Rattle.worker_jobs.specs.declared.job.Job.TheVariants.{Coherence, Reduce, Chunk}
use Rattle.worker_jobs.specs.declared.gain.Gain.{Gain}
use Rattle.worker_jobs.specs.declared.gain.RoundEnd.TheVariants.{Done}
use Rattle.worker_jobs.specs.Gain.{IsTrueGain}
use Rattle.worker_jobs.specs.Job.{AreCandidates, test_literal}
use Rattle.worker_strategies.specs.declared.chunks.Step.TheVariants.{Half}
use Rattle.worker_strategies.specs.declared.kept.Begun.{Begun}
use Rattle.worker_strategies.specs.declared.outcome.Outcome.{Outcome}
use Rattle.worker_strategies.specs.Chunks.{IsSmaller, IsStepOf}
use Rattle.worker_strategies.specs.Disjunction.{asked_for, disjunction_for, disjunction_of}
use Rattle.worker_strategies.specs.Literals.{has_same_literal, named_of}
use Rattle.worker_strategies.specs.Outcome.{IsAnswer, IsOutcome}
use Rattle.worker_strategies.specs.Rounds.{Desk, IsBegun, IsReady, KeepsTesters, gain_after}
use Rattle.worker_strategies.specs.Rounds.{kept_after, tester_for, working}
use Rattle.worker_strategies.specs.Testing.{HasTested, IsFrontOf, IsTestOf}
use Rattle.worker_strategies.specs.Working.{HasRounded}

-- ---- coherence

-- a set says that the program is coherent
abbrev pub CoherenceFound : Type 0
CoherenceFound =
    (normal : Normal) (mode : Mode) (set : List Bool) → IsAnswerSetN normal set
    → IsAnswer normal mode Coherence
    (record { sets = set ∷ []; proved = []; coherent = Some true; ended = Done })

-- a core, where nothing was assumed, says that it isn't
abbrev pub CoherenceRefuted : Type 0
CoherenceRefuted =
    (normal : Normal) (mode : Mode) (core : Core)
    → IsCoreFor normal (record { assume = []; any = None }) core
    → IsAnswer normal mode Coherence
    (record { sets = []; proved = []; coherent = Some false; ended = Done })

-- ---- a disjunction of candidates

-- a set that makes a literal of it true answers the job
abbrev pub ReduceFound : Type 0
ReduceFound =
    (normal : Normal) (mode : Mode) (cands : List ℕ) → IsNormal normal
    → AreCandidates normal.names cands → (set : List Bool)
    → Meets normal (asked_for normal.names mode (Reduce cands)) set
    → IsAnswer normal mode (Reduce cands)
    (record { sets = set ∷ []; proved = []; coherent = None; ended = Done })

-- by a core all are proved
abbrev pub ReduceProved : Type 0
ReduceProved =
    (normal : Normal) (mode : Mode) (cands : List ℕ) → IsNormal normal
    → AreCandidates normal.names cands → (core : Core)
    → IsCoreFor normal (asked_for normal.names mode (Reduce cands)) core
    → IsAnswer normal mode (Reduce cands)
    (record { sets = []; proved = cands; coherent = None; ended = Done })

-- by one without the disjunction there is no answer set
abbrev pub ReduceNone : Type 0
ReduceNone =
    (normal : Normal) (mode : Mode) (cands : List ℕ) → IsNormal normal
    → AreCandidates normal.names cands → (core : Core)
    → IsCoreFor normal (asked_for normal.names mode (Reduce cands)) core → ¬ IsTrue core.any
    → IsAnswer normal mode (Reduce cands)
    (record { sets = []; proved = []; coherent = Some false; ended = Done })

-- the disjunction has the test literal of each candidate
abbrev pub DisjunctionHas : Type 0
DisjunctionHas =
    (names : List Named) (mode : Mode) (cands : List ℕ) (cand : ℕ) → Contains cands cand
    → Contains (disjunction_of names mode cands) (test_literal names mode cand)

-- it is over atoms
abbrev pub DisjunctionIsOver : Type 0
DisjunctionIsOver =
    (normal : Normal) (mode : Mode) (cands : List ℕ) → IsNormal normal
    → All (IsCandidate normal.names) cands
    → All (IsOver (greatest_body_var normal)) (disjunction_of normal.names mode cands)

-- no variable comes twice in it
abbrev pub DisjunctionOnce : Type 0
DisjunctionOnce =
    (names : List Named) (mode : Mode) (cands : List ℕ)
    → HasNoVariableTwice (disjunction_of names mode cands)

-- ---- many candidates at once

-- a set that makes all test literals true answers the job
abbrev pub ChunkFound : Type 0
ChunkFound =
    (normal : Normal) (mode : Mode) (cands : List ℕ) → IsNormal normal
    → AreCandidates normal.names cands → (set : List Bool)
    → Meets normal (asked_for normal.names mode (Chunk cands)) set
    → IsAnswer normal mode (Chunk cands)
    (record { sets = set ∷ []; proved = []; coherent = None; ended = Done })

-- by a core that names no candidate there is no answer set
abbrev pub ChunkNone : Type 0
ChunkNone =
    (normal : Normal) (mode : Mode) (cands : List ℕ) → IsNormal normal
    → AreCandidates normal.names cands → (core : Core)
    → IsCoreFor normal (asked_for normal.names mode (Chunk cands)) core
    → length (named_of normal.names mode core.lits cands) ≡ 0
    → IsAnswer normal mode (Chunk cands)
    (record { sets = []; proved = []; coherent = Some false; ended = Done })

-- where it names one, all candidates with its literal are proved
abbrev pub ChunkProved : Type 0
ChunkProved =
    (normal : Normal) (mode : Mode) (cands : List ℕ) → IsNormal normal
    → AreCandidates normal.names cands → (core : Core)
    → IsCoreFor normal (asked_for normal.names mode (Chunk cands)) core → (one : ℕ)
    → length (named_of normal.names mode core.lits cands) ≡ 1
    → slice_get (named_of normal.names mode core.lits cands) 0 ≡ Some one
    → IsAnswer normal mode (Chunk cands)
    (record {
      sets = [];
      proved = filter (has_same_literal normal.names mode one) cands;
      coherent = None;
      ended = Done;
    })

-- where it names more, some of these, from the first on, are tested next
abbrev pub ChunkHalves : Type 0
ChunkHalves =
    (normal : Normal) (mode : Mode) (cands : List ℕ) (core : Core) (half : ℕ) → 1 ≤ half
    → half < length (named_of normal.names mode core.lits cands)
    → IsStepOf normal mode cands
    (Half (take half (named_of normal.names mode core.lits cands)))

-- some of the candidates are candidates
abbrev pub PartIsOver : Type 0
PartIsOver =
    (names : List Named) (cands part : List ℕ) → AreCandidates names cands
    → IsSmaller cands part → AreCandidates names part

-- what comes of a test of some of the candidates comes of one of all
abbrev pub PartAnswers : Type 0
PartAnswers =
    (normal : Normal) (mode : Mode) (cands part : List ℕ) (stop : ℕ) (after : Counted)
    (outcome : Outcome) → All (Contains cands) part
    → IsOutcome normal mode (Chunk part) stop after outcome
    → IsOutcome normal mode (Chunk cands) stop after outcome

-- ---- tests

-- two tests of one disjunction, or of none, are one
abbrev pub TestsCompose : Type 0
TestsCompose =
    (any : Option (List Lit)) (old mid new : Testing) (before between after : Counted)
    → HasTested any old mid before between → HasTested any mid new between after
    → HasTested any old new before after

-- a test without a disjunction whose budget is used up
abbrev pub TestIsSpent : Type 0
TestIsSpent =
    (normal : Normal) (begin : List (List Lit)) (tester : Testing) (counted : Counted)
    → IsTestOf normal None begin tester counted → IsFrontOf (base_clauses normal) begin
    → (literal : Option Lit) (by budget : ℕ) → length counted.units ≡ budget
    → IsSpentTest normal
    (record { literal = literal; by = by; budget = budget; units = counted.units; inside = None })

-- a test of a disjunction whose budget is used up
abbrev pub WideTestIsSpent : Type 0
WideTestIsSpent =
    (normal : Normal) (any : List Lit) (begin : List (List Lit)) (tester : Testing)
    (counted : Counted) → IsTestOf normal (Some any) begin tester counted
    → IsFrontOf (base_clauses normal) begin → (by budget : ℕ) → length counted.units ≡ budget
    → IsWideSpentTest normal tester.disjunctions
    (record { literal = None; by = by; budget = budget; units = counted.units; inside = None })

-- the units of a test of coherence, which began with the base clauses
abbrev pub CoherenceIsGrounded : Type 0
CoherenceIsGrounded =
    (normal : Normal) (tester : Testing) (counted : Counted)
    → IsTestOf normal None (base_clauses normal) tester counted → tester.disjunctions ≡ []
    → AreRefutedWith (IsLocal normal) (base_clauses normal) counted.units

-- ---- rounds

-- all is ready, what was gained is true, and the round did what it says
pub record IsRound (old last : Desk) (job : Job) (slice : ℕ) (gain : Gain) : Type 0 where
  pub is_ready : IsReady last
  pub is_true : IsTrueGain old.normal old.mode gain
  pub round : HasRounded (working old false) job slice (working last false) gain

-- what begins, tests and ends a round
abbrev pub RoundsAre : Type 0
RoundsAre =
    (old mid there counted last : Desk) (job : Job) (begun : Begun) (after : Counted)
    (outcome : Outcome) (slice : ℕ) (gain : Gain) → IsReady old
    → IsBegun old job mid.began begun → mid ≡ record old { kept = None; began = mid.began }
    → KeepsTesters mid job there
    → HasTested (disjunction_for mid.normal.names mid.mode job)
    (tester_for mid job begun.goes_on) (tester_for there job true) begun.budget after
    → IsOutcome mid.normal mid.mode job (length begun.budget.units + slice) after outcome
    → counted
    ≡ record there { counted = length after.units - length begun.budget.units }
    → last ≡ record counted { kept = kept_after job after outcome }
    → gain ≡ gain_after counted job after outcome → IsRound old last job slice gain
