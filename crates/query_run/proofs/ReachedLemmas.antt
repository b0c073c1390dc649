-- The lines of a run so far, and how it stops.
use Rattle.std.proofs.Common.{◌≡◌, ◌≢◌, ◌⊎◌, ◌||◌, ℕ, Bool, false, List, []}
use Rattle.std.proofs.Common.{◌++◌, refl, sym, ap, subst, ◌∙◌, ⊎_elim, inl, inr}
use Rattle.std.proofs.Common.{Option, Ok, Err}
use Rattle.std.specs.Prelude.{Result, IsErr}
use Rattle.std.specs.List.{list_any}
use Rattle.std.proofs.lemmas.Grind.{flat_map-append}
use Rattle.byte_edges.specs.Edges.{Writes}
use Rattle.byte_edges.specs.declared.writing.WriteFault.{WriteFault}
use Rattle.byte_edges.proofs.CallerLemmas.{Wrote, writes_none, writes_then, writes_ok, writes_fault}
use Rattle.byte_edges.proofs.CallerLemmas.{writes_same}
use Rattle.ground_program.specs.declared.program.Mode.{Mode}
use Rattle.ground_program.specs.declared.program.Named.{Named}
use Rattle.normal_program.specs.declared.normal.Normal.{Normal}
use Rattle.report.specs.declared.lines.Line.{Line}
use Rattle.report.specs.Text.{text_of_line, text_of_lines}
use Rattle.worker_jobs.specs.declared.job.Job.{Job}
use Rattle.worker_jobs.specs.declared.gain.Gain.{Gain}
use Rattle.worker_jobs.specs.declared.gain.RoundEnd.{RoundEnd}
use Rattle.worker_jobs.specs.declared.gain.RoundEnd.TheVariants.{Done, Settled, Paused, Spent}
use Rattle.worker_jobs.specs.declared.gain.RoundEnd.TheVariants.{SpentWide, NoMemory}
use Rattle.worker_strategies.specs.Working.{Working, HasBegun, HasRounded}
use Rattle.master_record.specs.declared.verdict.Verdict.{Verdict}
use Rattle.master_record.specs.declared.verdict.Verdict.TheVariants as verdicts
use Rattle.master_record.specs.Books.{Books}
use Rattle.master_record.specs.Told.{AreLegalN}
use Rattle.master_record.specs.Verdicts.{IsVerdict}
use Rattle.query_run.specs.Agreed.{HasWorked}
use Rattle.query_run.specs.Way.{Way, HasGone, HasReached, IsOnWay, IsSameRun, Stands}
use Rattle.query_run.specs.Way.{settles, with_sizes}
use Rattle.query_run.proofs.TellLemmas.{stands_then}

-- ---- rounds

ended_cases : (ended : RoundEnd) → (ended ≡ NoMemory) ⊎ (ended ≢ NoMemory)
ended_cases Done = inr (λ e. cc)
ended_cases Settled = inr (λ e. cc)
ended_cases Paused = inr (λ e. cc)
ended_cases (Spent test) = inr (λ e. cc)
ended_cases (SpentWide test) = inr (λ e. cc)
ended_cases NoMemory = inl refl

-- what a round did, from what is said of it
pub worked_by : (old new : Working) (job : Job) (slice : ℕ) (gain : Gain)
    → (gain.ended ≢ NoMemory → HasRounded old job slice new gain)
    → (gain.ended ≢ NoMemory → new.dead ≡ false) → (new.dead ≡ false → HasBegun new)
    → HasWorked old job slice new gain
worked_by old new job slice gain round living begun =
    ⊎_elim (λ is_lost. inl is_lost)
    (λ other. inr (round other, living other, begun (living other)))
    (ended_cases gain.ended)

-- the same run, and again
pub same_then : (one two three : Books) → IsSameRun one two → IsSameRun two three
    → IsSameRun one three
same_then one two three first second = record {
  normal = second.normal ∙ first.normal;
  mode = second.mode ∙ first.mode;
  budget = second.budget ∙ first.budget;
}

pub same_itself : (books : Books) → IsSameRun books books
same_itself books = record { normal = refl; mode = refl; budget = refl }

-- ---- lines

-- a run has told these lines so far
pub record IsTelling {K : Type 0} (written : K → Option (List ℕ)) (faults : K → ℕ)
    (sink_old sink_new : K) (old new : Way) : Type 0 where
  pub told : List Line
  pub stands : Stands told new
  pub wrote :
      Wrote written faults sink_old sink_new (text_of_lines old.books.normal.names told)
  pub on : IsOnWay new
  pub same : IsSameRun old.books new.books

module _ {K : Type 0} (written : K → Option (List ℕ)) (faults : K → ℕ) where
  -- at the beginning none
  pub telling_none : (sink : K) (way : Way) → IsOnWay way → Stands [] way
      → IsTelling written faults sink sink way way
  telling_none sink way on stands = record {
    told = [];
    stands = stands;
    wrote = writes_none sink;
    on = on;
    same = same_itself way.books;
  }

  -- the text of more lines
  text_more : (names : List Named) (told more : List Line)
      → text_of_lines names (told ++ more) ≡ text_of_lines names told ++ text_of_lines names more
  text_more names told more = flat_map-append (text_of_line names) told more

  names_same : (old new : Books) → IsSameRun old new → new.normal.names ≡ old.normal.names
  names_same old new same = ap (λ (n : Normal). n.names) same.normal

  module _ (start mid sink : K) (old way next : Way) (lines : List Line)
      (telling : IsTelling written faults start mid old way) (gone : HasGone way lines next) where
    more : List Line
    more = with_sizes next.books lines

    same_next : IsSameRun old.books next.books
    same_next = same_then old.books way.books next.books telling.same gone.same

    stands_next : Stands (telling.told ++ with_sizes next.books lines)
        (record next { sized = next.sized || list_any settles lines })
    stands_next =
        subst (λ (b : Bool). Stands (telling.told ++ with_sizes next.books lines)
        (record next { sized = b || list_any settles lines })) (sym gone.sized)
        (stands_then telling.told lines way next telling.stands gone)

    names : next.books.normal.names ≡ old.books.normal.names
    names = names_same old.books next.books same_next

    -- the lines of one more round were written
    pub telling_more : {T : Type 0} {value : T} (last : Way)
        → last ≡ record next { sized = next.sized || list_any settles lines }
        → Writes {E = WriteFault} written faults mid sink
        (text_of_lines next.books.normal.names (with_sizes next.books lines)) (Ok value)
        → IsTelling written faults start sink old last
    telling_more last last_is writes =
        let whole : Wrote written faults start sink
        (text_of_lines old.books.normal.names (telling.told ++ with_sizes next.books lines)) =
        writes_same
        (sym (text_more old.books.normal.names telling.told (with_sizes next.books lines)))
        (writes_then telling.wrote
        (writes_ok (writes_same (ap (λ (ns : List Named).
        text_of_lines ns (with_sizes next.books lines)) names) writes))) in
        subst (IsTelling written faults start sink old) (sym last_is)
        (record {
          told = telling.told ++ with_sizes next.books lines;
          stands = stands_next;
          wrote = whole;
          on = record {
            sound = gone.on.sound;
            told = gone.on.told;
            tells = gone.on.tells;
            unsettled = gone.on.unsettled;
            agreed = gone.on.agreed;
            slice = gone.on.slice;
          };
          same = same_next;
        })

    -- the sink failed
    pub reached_fault : {T : Type 0} {error : WriteFault} (result : Result Verdict WriteFault)
        → IsErr result → (last : Way) → last.books ≡ next.books
        → Writes {T = T} written faults mid sink
        (text_of_lines next.books.normal.names (with_sizes next.books lines)) (Err error)
        → HasReached written faults start sink old last result
    reached_fault (Ok verdict) is_err last last_is writes = cc
    reached_fault (Err other) is_err last last_is writes =
        record {
          told = telling.told ++ with_sizes next.books lines;
          legal = subst (λ (n : Normal). AreLegalN n old.books.mode
              (telling.told ++ with_sizes next.books lines)) same_next.normal
              (subst (λ (m : Mode). AreLegalN next.books.normal m
              (telling.told ++ with_sizes next.books lines)) same_next.mode
              stands_next.tells.legal);
          writes = writes_same
              (sym (text_more old.books.normal.names telling.told (with_sizes next.books lines)))
              (writes_then telling.wrote
              (writes_fault refl (writes_same (ap (λ (ns : List Named).
              text_of_lines ns (with_sizes next.books lines)) names) writes)));
          same = subst (IsSameRun old.books) (sym last_is) same_next;
          stopped = tt;
        }

  module _ (start sink : K) (old way : Way) (telling : IsTelling written faults start sink old way)
    where
      -- what was told may begin a report
      legal_told : AreLegalN old.books.normal old.books.mode telling.told
      legal_told =
          subst (λ (n : Normal). AreLegalN n old.books.mode telling.told) telling.same.normal
          (subst (λ (m : Mode). AreLegalN way.books.normal m telling.told) telling.same.mode
          telling.stands.tells.legal)

      -- memory ran out
      pub reached_lost : (last : Way) → IsSameRun way.books last.books
          → HasReached {E = WriteFault} written faults start sink old last (Ok verdicts.NoMemory)
      reached_lost last same = record {
        told = telling.told;
        legal = legal_told;
        writes = writes_ok telling.wrote;
        same = same_then old.books way.books last.books telling.same same;
        stopped = inl refl;
      }

      -- the verdict is known
      pub reached_verdict : (verdict : Verdict) → IsVerdict way.books verdict
          → HasReached {E = WriteFault} written faults start sink old way (Ok verdict)
      reached_verdict verdict is = record {
        told = telling.told;
        legal = legal_told;
        writes = writes_ok telling.wrote;
        same = telling.same;
        stopped = inr (telling.stands, telling.on, is);
      }
