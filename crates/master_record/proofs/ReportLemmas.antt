-- A verdict makes a legal report of the lines that a record told.
use Rattle.std.proofs.Common.{◌≡◌, ◌≢◌, ◌≤◌, ◌<◌, ◌+◌, ◌-◌, ℕ, Bool, true, false, not, List, []}
use Rattle.std.proofs.Common.{◌∷◌}
use Rattle.std.proofs.Common.{◌++◌, length, get_or, refl, sym, ap, subst, ◌∙◌, arith, inl}
use Rattle.std.proofs.Common.{true≢false}
use Rattle.std.specs.Prelude.{count_by}
use Rattle.ground_program.specs.declared.program.Named.{Named}
use Rattle.ground_program.specs.declared.program.Program.{Program}
use Rattle.ground_program.specs.Bounds.{IsCandidate}
use Rattle.normal_program.specs.Normal.{IsNormalFormOf}
use Rattle.normal_program.proofs.NormalLemmas.{SameAnswerSets-normal_form}
use Rattle.report.specs.declared.lines.Line.{Line}
use Rattle.report.specs.declared.lines.Line.TheVariants.{Complete, Partial, Incoherent, Unknown}
use Rattle.report.specs.Legal.{IsLegalReport, KeepsInside, EachWatched, EndsSized, IsSettled}
use Rattle.report.proofs.LegalLemmas.{legal_complete, legal_incoherent, legal_partial}
use Rattle.master_record.specs.Course.{IsOpenIn, is_open}
use Rattle.master_record.specs.Books.{Books}
use Rattle.master_record.specs.Verdicts.{IsFinished}
use Rattle.master_record.specs.Sound.{IsSound}
use Rattle.master_record.specs.Told.{IsToldBy}
use Rattle.master_record.proofs.CourseLemmas.{and_left, and_right, not_true, not_so}

module _ (program : Program) (watch : ℕ) (lines : List Line) (books : Books)
    (form : IsNormalFormOf books.normal program) (told : IsToldBy lines books)
    (inside : KeepsInside watch lines) (watched : EachWatched watch lines) where
  -- a finished record settles each candidate
  settled_all : IsFinished books → (cand : ℕ) → IsCandidate program.names cand
      → IsSettled lines cand
  settled_all finished cand candidate =
      let known : IsCandidate books.normal.names cand =
      subst (λ (names : List Named). IsCandidate names cand) (sym form.names) candidate in
      let low : Bool = get_or books.pair.lower (cand - 1) false in
      let up : Bool = get_or books.pair.upper (cand - 1) false in
      (told.settled cand known).1
      (not_so (is_open books.pair cand)
      (λ is. finished.settled cand (record {
        candidate = known;
        unproved = λ has. true≢false (sym has ∙ not_true low (and_left (not low) up is));
        possible = and_right (not low) up is;
      })))

  -- where the record is finished, behind lines that end with their sizes
  pub complete_report : IsFinished books → EndsSized lines
      → IsLegalReport program books.mode watch books.budget (lines ++ Complete ∷ [])
  complete_report finished sized =
      legal_complete program books.mode watch books.budget lines
      (told.legal.each program watch form) inside
      (record {
        answered = subst (λ n. 1 ≤ n) told.answers finished.answered;
        settled = settled_all finished;
        sized = sized;
        watched = watched;
      })

  -- where a gain said that there is no answer set
  pub incoherent_report : IsSound books → books.incoherent ≡ true
      → IsLegalReport program books.mode watch books.budget (lines ++ Incoherent ∷ [])
  incoherent_report sound says =
      legal_incoherent program books.mode watch books.budget lines
      (told.legal.each program watch form) inside
      (record {
        none = λ members answer. sound.unanswerable says
            (members, (SameAnswerSets-normal_form books.normal program form members).1 answer);
        watched = watched;
      })

  -- where the test of coherence was spent and no answer set was given
  pub unknown_report : books.answers ≡ 0 → EndsSized lines
      → IsLegalReport program books.mode watch books.budget
      (lines ++ ((Unknown books.budget ∷ []) ++ Partial ∷ []))
  unknown_report unanswered sized =
      legal_partial program books.mode watch books.budget lines
      (told.legal.each program watch form) inside (Unknown books.budget ∷ [])
      (record {
        spent = inl (record { unanswered = sym told.answers ∙ unanswered; test = refl });
        sized = sized;
        watched = watched;
      })
