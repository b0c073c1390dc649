-- What a call makes of the record.
use Rattle.std.specs.Prelude.{◌≡◌, ◌<◌, ◌+◌, ◌-◌, ◌^◌, ◌==◌, ◌||◌, ℕ, Bool, true, false}
use Rattle.std.specs.Prelude.{List, [], ◌∷◌, ◌++◌, length, Option, Some, slice_set}
use Rattle.std.specs.Prelude.{if◌then◌else◌, All, filter, not, slice_index_or, ⊤}
use Rattle.std.specs.List.{list_any}
use Rattle.ground_program.specs.declared.pair.Pair.{Pair}
use Rattle.ground_program.specs.declared.program.Mode.{Mode}
use Rattle.ground_program.specs.declared.program.Mode.TheVariants.{Cautious, Brave}
use Rattle.ground_program.specs.Bounds.{IsCandidate}
use Rattle.normal_program.specs.declared.normal.Normal.{Normal}
use Rattle.normal_program.specs.declared.spent.SpentTest.{SpentTest}
use Rattle.normal_program.specs.Spent.{AreApart}
use Rattle.anytime_core.specs.Truth.{IsConsequenceN}
use Rattle.report.specs.declared.lines.Line.{Line}
use Rattle.report.specs.declared.lines.Line.TheVariants.{SettledIn, SettledOut}
use Rattle.worker_jobs.specs.declared.job.Job.{Job}
use Rattle.worker_jobs.specs.declared.job.Job.TheVariants.{Coherence, Single}
use Rattle.worker_jobs.specs.declared.gain.Gain.{Gain}
use Rattle.worker_jobs.specs.declared.gain.RoundEnd.{RoundEnd}
use Rattle.worker_jobs.specs.declared.gain.RoundEnd.TheVariants.{Spent}
use Rattle.master_record.specs.declared.merging.Asked.{Asked}
use Rattle.master_record.specs.declared.merging.Asked.TheVariants as asks
use Rattle.master_record.specs.declared.own.OwnTest.{OwnTest}
use Rattle.master_record.specs.Course.{with_lines}
use Rattle.master_record.specs.Rounds.{marked, mark_of}
use Rattle.master_record.specs.Books.{Books, open_own, open_list, worker_of, job_of}
use Rattle.master_record.specs.Settling.{AreAnswers, AreSettled}

-- an own test, where the candidate had none
abbrev pub new_own : List OwnTest → OwnTest → List OwnTest
new_own own one = if list_any (λ other. other.cand == one.cand) own then [] else one ∷ []

-- the own test that a round spent
abbrev pub spent_own : List OwnTest → Job → RoundEnd → List OwnTest
spent_own own (Single cand) (Spent test) = new_own own (record { cand = cand; test = test })
spent_own own _ _ = []

-- the test of coherence, which a round may have spent
abbrev pub spent_coherence : Option SpentTest → Job → RoundEnd → Option SpentTest
spent_coherence coherence Coherence (Spent test) = Some test
spent_coherence coherence _ _ = coherence

-- whether a gain says that there is no answer set
abbrev pub says_incoherent : Option Bool → Bool
says_incoherent (Some false) = true
says_incoherent _ = false

-- the record after lines, some of which give answer sets
abbrev pub settled_by : Books → ℕ → List Line → Books
settled_by old answers lines =
    let pair : Pair = with_lines old.pair lines in
    record old {
      answers = old.answers + answers;
      pair = pair;
      own = open_own pair old.own;
    }

-- what a job asks by itself
abbrev pub asked_by : Job → Asked
asked_by Coherence = asks.Coherence
asked_by (Single cand) = asks.Single cand
asked_by _ = asks.Other

-- the record with the test that a round spent
abbrev pub with_spent : Books → ℕ → RoundEnd → Books
with_spent old worker ended =
    let job : Job = job_of old worker in
    record old {
      coherence = spent_coherence old.coherence job ended;
      own = open_own old.pair (old.own ++ spent_own old.own job ended);
    }

-- the record after the end of a worker's round
abbrev pub round_ended : Books → ℕ → RoundEnd → Books
round_ended old worker ended =
    record (with_spent old worker ended) {
      workers = slice_set old.workers (worker - 1) (marked (worker_of old worker) (mark_of ended));
    }

-- the record after a round and the lines of its gain
abbrev pub merged : Books → ℕ → Gain → ℕ → List Line → Books
merged old worker gain answers lines =
    record (settled_by (round_ended old worker gain.ended) answers lines) {
      incoherent = old.incoherent || says_incoherent gain.coherent;
    }

-- the lines of a gain, so many of which give answer sets
pub record AreGained (old : Books) (gain : Gain) (count : ℕ) (lines : List Line) : Type 0 where
  pub answers : List Line
  pub settled : List Line
  pub parts : lines ≡ answers ++ settled
  pub counted : count ≡ length answers
  pub fits : old.answers + count < 2 ^ 32
  pub given : AreAnswers old.normal.names old.mode old.pair old.answers gain.sets answers
  pub gained : AreSettled old.normal.names old.mode old.pair answers gain.proved settled

-- a gain was merged: the new answer sets are given, and the open candidates settled that it shows
-- or proves
pub record HasMerged (old : Books) (worker : ℕ) (gain : Gain) (lines : List Line) (new : Books) :
    Type 0 where
  pub answers : List Line
  pub settled : List Line
  pub parts : lines ≡ answers ++ settled
  pub given : AreAnswers old.normal.names old.mode old.pair old.answers gain.sets answers
  pub gained : AreSettled old.normal.names old.mode old.pair answers gain.proved settled
  pub after : new ≡ merged old worker gain (length answers) lines

-- whether a pair has a candidate on the proved side
abbrev pub is_proved_in : Mode → Pair → ℕ → Bool
is_proved_in Cautious pair cand = slice_index_or pair.lower (cand - 1) false
is_proved_in Brave pair cand = not (slice_index_or pair.upper (cand - 1) false)

-- the open candidates that a pair has on the proved side
abbrev pub proved_list : Books → Pair → List ℕ
proved_list books pair = filter (is_proved_in books.mode pair) (open_list books)

-- a pair was taken in: just the open candidates are settled that it has on the proved side
pub record HasTaken (old : Books) (pair : Pair) (lines : List Line) (new : Books) : Type 0 where
  pub gained : AreSettled old.normal.names old.mode old.pair [] (proved_list old pair) lines
  pub after : new ≡ settled_by old 0 lines

-- what a line says of a candidate is true
abbrev pub IsTrueLine : Normal → Mode → Line → Type 0
IsTrueLine normal mode (SettledIn cand by) =
    IsCandidate normal.names cand × IsConsequenceN normal mode cand
IsTrueLine normal mode (SettledOut cand by) =
    IsCandidate normal.names cand × (¬ IsConsequenceN normal mode cand)
IsTrueLine normal mode _ = Unit {0}

-- the test that a round spent on one candidate is apart from the earlier ones of that worker
abbrev pub IsApart : Books → ℕ → Job → RoundEnd → Type 0
IsApart books worker (Single cand) (Spent test) =
    All (λ one. one.test.by ≡ worker → AreApart books.normal one.test test) books.own
IsApart books worker _ _ = ⊤
