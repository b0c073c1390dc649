-- A merge put together from its steps.
use Rattle.std.proofs.Common.{◌≡◌, ◌≢◌, ◌≤◌, ◌<◌, ◌+◌, ◌-◌, ◌^◌, ◌||◌, ℕ, Bool, true, false, List}
use Rattle.std.proofs.Common.{[], ◌∷◌}
use Rattle.std.proofs.Common.{◌++◌, length, refl, sym, ap, subst, ◌∙◌, arith, Option, Some, None}
use Rattle.std.specs.Prelude.{All}
use Rattle.std.proofs.lemmas.List.Elements.{All-append}
use Rattle.ground_program.specs.Bounds.{IsCandidate}
use Rattle.anytime_core.specs.Truth.{IsCoherent}
use Rattle.report.specs.declared.lines.Line.{Line}
use Rattle.worker_jobs.specs.declared.gain.Gain.{Gain}
use Rattle.worker_jobs.specs.Gain.{IsTrueGain}
use Rattle.master_record.specs.Settling.{AreAnswers, AreSettled}
use Rattle.master_record.specs.Merging.{HasMerged, IsTrueLine, settled_by, round_ended, merged}
use Rattle.master_record.specs.Merging.{says_incoherent}
use Rattle.master_record.specs.Books.{Books}
use Rattle.master_record.proofs.TrueLemmas.{GivesSet, give_sets, true_answers, true_settled}
use Rattle.master_record.proofs.TrueLemmas.{coherent_by}

or_false : (b : Bool) → (b || false) ≡ b
or_false true = refl
or_false false = refl

or_true : (b : Bool) → (b || true) ≡ true
or_true true = refl
or_true false = refl

-- the candidates that a true gain proves are candidates
pub proved_candidates : (books : Books) (gain : Gain) → IsTrueGain books.normal books.mode gain
    → All (IsCandidate books.normal.names) gain.proved
proved_candidates books gain sound = λ k d within. (sound.proved k d within).candidate

module _ (old : Books) (worker : ℕ) (gain : Gain) (answers settled lines : List Line)
    (sound : IsTrueGain old.normal old.mode gain)
    (given : AreAnswers old.normal.names old.mode old.pair old.answers gain.sets answers)
    (gained : AreSettled old.normal.names old.mode old.pair answers gain.proved settled)
    (parts : lines ≡ answers ++ settled) where
  gives : All (GivesSet old.normal) answers
  gives =
      give_sets old.normal old.mode old.pair old.answers gain.sets answers sound.sets given

  -- its lines are true
  pub lines_true : All (IsTrueLine old.normal old.mode) lines
  lines_true =
      subst (All (IsTrueLine old.normal old.mode)) (sym parts)
      (All-append (IsTrueLine old.normal old.mode) answers settled
      (true_answers old.normal old.mode answers gives)
      (true_settled old.normal old.mode old.pair answers gain.proved settled gives sound.proved
      gained.each))

  -- where it gives an answer set there is one
  pub coherent_where : 1 ≤ length answers → IsCoherent old.normal
  coherent_where some = coherent_by old.normal answers gives some

  -- the record after it, where the gain doesn't say that there is no answer set
  pub merged_is : (count : ℕ) (ended new : Books) → count ≡ length answers
      → ended ≡ round_ended old worker gain.ended → new ≡ settled_by ended count lines
      → says_incoherent gain.coherent ≡ false → HasMerged old worker gain lines new
  merged_is count ended new counted first second quiet = record {
    answers = answers;
    settled = settled;
    parts = parts;
    given = given;
    gained = gained;
    after =
        second
        ∙ ap (λ (b : Books). settled_by b count lines) first
        ∙ ap (λ n. settled_by (round_ended old worker gain.ended) n lines) counted
        ∙ ap (λ b. record (settled_by (round_ended old worker gain.ended) (length answers) lines) {
          incoherent = b;
        }) (sym (ap (λ b. old.incoherent || b) quiet ∙ or_false old.incoherent));
  }

  -- and where it does
  pub merged_incoherent : (count : ℕ) (ended next new : Books) → count ≡ length answers
      → ended ≡ round_ended old worker gain.ended → next ≡ settled_by ended count lines
      → new ≡ record next { incoherent = true }
      → says_incoherent gain.coherent ≡ true → HasMerged old worker gain lines new
  merged_incoherent count ended next new counted first second third says = record {
    answers = answers;
    settled = settled;
    parts = parts;
    given = given;
    gained = gained;
    after =
        third
        ∙ ap (λ (b : Books). record b { incoherent = true })
        (second
        ∙ ap (λ (b : Books). settled_by b count lines) first
        ∙ ap (λ n. settled_by (round_ended old worker gain.ended) n lines) counted)
        ∙ ap (λ b. record (settled_by (round_ended old worker gain.ended) (length answers) lines) {
          incoherent = b;
        }) (sym (ap (λ b. old.incoherent || b) says ∙ or_true old.incoherent));
  }
