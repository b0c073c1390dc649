-- A run that stopped and wrote its last lines has answered.
use Rattle.std.proofs.Common.{◌≡◌, ℕ, List, [], ◌∷◌, ◌++◌, refl, sym, ap}
use Rattle.std.proofs.Common.{subst, ◌∙◌, inl, inr, Option, Ok, Err}
use Rattle.std.specs.Prelude.{Result, IsErr, map}
use Rattle.std.proofs.lemmas.Grind.{flat_map-append}
use Rattle.byte_edges.specs.declared.writing.WriteFault.{WriteFault}
use Rattle.byte_edges.proofs.CallerLemmas.{writes_then, writes_longer, writes_fault, writes_same}
use Rattle.ground_program.specs.declared.program.Mode.{Mode}
use Rattle.ground_program.specs.declared.program.Named.{Named}
use Rattle.ground_program.specs.declared.program.Program.{Program}
use Rattle.normal_program.specs.declared.normal.Normal.{Normal}
use Rattle.normal_program.specs.declared.spent.SpentTest.{SpentTest}
use Rattle.normal_program.specs.Normal.{IsNormalFormOf}
use Rattle.report.specs.declared.lines.Line.{Line}
use Rattle.report.specs.declared.lines.Line.TheVariants as lines
use Rattle.report.specs.Text.{text_of_line, text_of_lines}
use Rattle.run_words.specs.declared.task.Settings.{Settings}
use Rattle.master_record.specs.declared.verdict.Verdict.{Verdict}
use Rattle.master_record.specs.declared.verdict.Verdict.TheVariants as verdicts
use Rattle.master_record.specs.Books.{open_list}
use Rattle.master_record.specs.Told.{AreLegalN}
use Rattle.master_record.specs.Verdicts.{IsVerdict}
use Rattle.query_run.specs.declared.answering.Ended.{Ended}
use Rattle.query_run.specs.Answers.{Answers, Ends}
use Rattle.query_run.specs.Ending.{HasEnded, HasEndedPartial, HasFinished}
use Rattle.query_run.specs.Way.{Begins, HasReached, HasStopped, IsOnWay, Stands, Way, first_sizes, left_of}
use Rattle.query_run.proofs.AnswerLemmas.{answers_complete, answers_incoherent, answers_no_memory}
use Rattle.query_run.proofs.AnswerLemmas.{answers_open, answers_unknown}

-- the text of more lines
text_more : (names : List Named) (told more : List Line)
    → text_of_lines names told ++ text_of_lines names more ≡ text_of_lines names (told ++ more)
text_more names told more = sym (flat_map-append (text_of_line names) told more)

module _ {K : Type 0} (written : K → Option (List ℕ)) (faults : K → ℕ) (program : Program)
    (settings : Settings) (start : K) (old : Way) (begins : Begins program settings old) where
  legal_by : (told : List Line) → AreLegalN old.books.normal old.books.mode told
      → AreLegalN old.books.normal settings.mode told
  legal_by told legal =
      subst (λ (m : Mode). AreLegalN old.books.normal m told) begins.mode legal

  -- the sink failed before the run stopped
  pub ends_early : {error : WriteFault} (sink : K) (last : Way) (result : Result Ended WriteFault)
      → IsErr result → HasReached written faults start sink old last (Err error)
      → Ends written faults start sink (Answers program settings) result
  ends_early sink last (Ok told) is_err reached = cc
  ends_early sink last (Err other) is_err reached = record {
    status = 7;
    spent = [];
    text = text_of_lines old.books.normal.names (reached.told ++ lines.NoMemory ∷ []);
    fits = answers_no_memory program settings begins.alone.watch old.books.normal reached.told
        begins.form (legal_by reached.told reached.legal);
    writes = writes_same (text_more old.books.normal.names reached.told (lines.NoMemory ∷ []))
        (writes_fault refl (writes_longer
        (text_of_lines old.books.normal.names (lines.NoMemory ∷ [])) reached.writes));
    given = tt;
  }

  module _ (mid sink : K) (last : Way) (verdict : Verdict) (result : Result Ended WriteFault)
      (reached : HasReached {E = WriteFault} written faults start mid old last (Ok verdict)) where
    normal_is : last.books.normal ≡ old.books.normal
    normal_is = reached.same.normal

    -- the lines of the rounds and the last lines
    ended_behind : (more : List Line) (status : ℕ) (spent : List SpentTest)
        → HasEnded written faults mid sink last.books.normal.names more status spent result
        → Answers program settings status spent
        (text_of_lines last.books.normal.names (reached.told ++ more))
        → Ends written faults start sink (Answers program settings) result
    ended_behind more status spent ended fits = record {
      status = status;
      spent = spent;
      text = text_of_lines last.books.normal.names (reached.told ++ more);
      fits = fits;
      writes = writes_same (text_more last.books.normal.names reached.told more)
          (writes_then
          (writes_same (ap (λ (n : Normal). text_of_lines n.names reached.told) (sym normal_is))
          reached.writes)
          ended.writes);
      given = ended.given;
    }

    form : IsNormalFormOf last.books.normal program
    form = subst (λ (n : Normal). IsNormalFormOf n program) (sym normal_is) begins.form

    mode : last.books.mode ≡ settings.mode
    mode = reached.same.mode ∙ begins.mode

    budget : last.books.budget ≡ settings.budget
    budget = reached.same.budget ∙ begins.budget

    lost : HasEnded written faults mid sink last.books.normal.names (lines.NoMemory ∷ []) 7 []
        result → Ends written faults start sink (Answers program settings) result
    lost ended =
        ended_behind (lines.NoMemory ∷ []) 7 [] ended
        (answers_no_memory program settings begins.alone.watch last.books.normal reached.told form
        (subst (λ (n : Normal). AreLegalN n settings.mode reached.told) (sym normal_is)
        (legal_by reached.told reached.legal)))

    partly : Stands reached.told last → IsOnWay last → IsVerdict last.books verdicts.Partial
        → HasEndedPartial written faults mid sink (left_of last) result
        → Ends written faults start sink (Answers program settings) result
    partly stands on is (inl (unanswered, end)) =
        ended_behind (first_sizes last ++ ((lines.Unknown last.books.budget ∷ []) ++ lines.Partial ∷ []))
        1 end.spent end.ended
        (answers_unknown program settings begins.alone.watch reached.told last stands form mode budget
        on.sound (on.agreed.one ∙ sym begins.alone.workers) is end.spent end.are unanswered)
    partly stands on is (inr (inl (some, end))) =
        ended_behind
        (first_sizes last ++ (map (λ (cand : ℕ). lines.Unsettled cand last.books.budget)
        (open_list last.books) ++ lines.Partial ∷ []))
        1 end.spent end.ended
        (answers_open program settings begins.alone.watch reached.told last stands form mode budget
        on.sound (on.agreed.one ∙ sym begins.alone.workers) is end.spent end.are on.unsettled some)
    partly stands on is (inr (inr ended)) = lost ended

    by_verdict : (other : Verdict) → HasStopped reached.told other last
        → HasFinished written faults mid sink (left_of last) other result
        → Ends written faults start sink (Answers program settings) result
    by_verdict verdicts.Complete (inl is_lost) end = cc
    by_verdict verdicts.Complete (inr (stands, on, is)) end =
        ended_behind (first_sizes last ++ lines.Complete ∷ []) 0 [] end
        (answers_complete program settings begins.alone.watch reached.told last stands form mode
        budget is)
    by_verdict verdicts.Partial (inl is_lost) end = cc
    by_verdict verdicts.Partial (inr (stands, on, is)) end = partly stands on is end
    by_verdict verdicts.Incoherent (inl is_lost) end = cc
    by_verdict verdicts.Incoherent (inr (stands, on, is)) end =
        ended_behind (lines.Incoherent ∷ []) 2 [] end
        (answers_incoherent program settings begins.alone.watch reached.told last stands form mode
        budget on.sound is)
    by_verdict verdicts.NoMemory stopped end = lost end
    by_verdict verdicts.Running stopped end = lost end

    pub ends_finished : HasFinished written faults mid sink (left_of last) verdict result
        → Ends written faults start sink (Answers program settings) result
    ends_finished end = by_verdict verdict reached.stopped end
