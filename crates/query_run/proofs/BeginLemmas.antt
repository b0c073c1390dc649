-- A run that begins.
use Rattle.std.proofs.Common.{◌≡◌, ℕ, true, false, List, [], ◌∷◌, length, refl, sym}
use Rattle.std.proofs.Common.{subst, inr, arith, true≢false, Option}
use Rattle.std.specs.Prelude.{Result}
use Rattle.std.proofs.lemmas.List.{take_all}
use Rattle.std.proofs.lemmas.List.Elements.{All-nil}
use Rattle.byte_edges.specs.declared.writing.WriteFault.{WriteFault}
use Rattle.ground_program.specs.declared.program.Program.{Program}
use Rattle.normal_program.specs.declared.normal.Normal.{Normal}
use Rattle.normal_program.specs.Normal.{IsNormalFormOf}
use Rattle.normal_program.specs.Clauses.{base_clauses}
use Rattle.report.specs.declared.lines.Line.TheVariants.{NoMemory}
use Rattle.run_words.specs.declared.task.Settings.{Settings}
use Rattle.run_words.specs.Words.{AreSettings, IsAlone}
use Rattle.worker_jobs.specs.declared.job.Strategy.TheVariants.{Single}
use Rattle.worker_strategies.specs.Testing.{IsFrontOf}
use Rattle.worker_strategies.specs.Working.{HasBegun, hired}
use Rattle.worker_strategies.proofs.TestLemmas.{front_itself}
use Rattle.master_record.specs.declared.own.OwnTest.{OwnTest}
use Rattle.master_record.specs.Course.{is_open}
use Rattle.master_record.specs.Books.{opened}
use Rattle.master_record.specs.Sound.{IsSound}
use Rattle.master_record.proofs.LawLemmas.{begins}
use Rattle.query_run.specs.declared.answering.Ended.{Ended}
use Rattle.query_run.specs.Agreed.{IsBehind, IsInStep}
use Rattle.query_run.specs.Answers.{Answers, Ends}
use Rattle.query_run.specs.Ending.{HasEnded}
use Rattle.query_run.specs.Way.{Begins, IsOnWay, Stands, Way}
use Rattle.query_run.proofs.AnswerLemmas.{answers_no_memory}

module _ (program : Program) (normal : Normal) (settings : Settings)
    (form : IsNormalFormOf normal program) (are : AreSettings settings) (alone : IsAlone settings)
  where
    abbrev begun_way : Way
    begun_way = record {
      books = opened normal settings.mode settings.strategy 1 settings.budget;
      worker = hired normal settings.mode 1 settings.budget;
      slice = settings.slice;
      sized = false;
    }

    has_begun : HasBegun (hired normal settings.mode 1 settings.budget)
    has_begun = record {
      base = subst (IsFrontOf (base_clauses normal))
          (sym (take_all (length (base_clauses normal)) (base_clauses normal) (omega arith)))
          (front_itself (base_clauses normal));
      within = omega arith;
    }

    step : IsInStep (opened normal settings.mode settings.strategy 1 settings.budget)
        (hired normal settings.mode 1 settings.budget)
    step = record {
      normal = refl;
      mode = refl;
      number = refl;
      budget = refl;
      alive = refl;
      begun = has_begun;
      paused = λ is. absurd (true≢false (sym is));
      lists = omega arith;
      last = tt;
      own = All-nil (IsBehind (hired normal settings.mode 1 settings.budget));
    }

    on_way : IsSound (opened normal settings.mode settings.strategy 1 settings.budget)
        → IsOnWay begun_way
    on_way sound = record {
      sound = sound;
      told = [];
      tells = begins normal settings.mode settings.strategy 1 settings.budget;
      unsettled = All-nil (λ (one : OwnTest). is_open begun_way.books.pair one.cand ≡ true);
      agreed = record { one = refl; step = inr step };
      slice = are.slice.0;
    }

    stands : Stands [] begun_way
    stands = record {
      tells = begins normal settings.mode settings.strategy 1 settings.budget;
      ended = λ is. absurd (true≢false (sym is));
      begun = λ is. (refl, refl, refl);
    }

    -- a run that was opened begins
    pub begins_opened : (way : Way) → IsSound way.books → way ≡ begun_way
        → Begins program settings way
    begins_opened way sound is =
        subst (Begins program settings) (sym is)
        (record {
          form = form;
          mode = refl;
          budget = refl;
          alone = alone;
          on = on_way (subst (λ (w : Way). IsSound w.books) is sound);
          stands = stands;
        })

    -- a run for which there was no memory
    pub ends_lost : {K : Type 0} {written : K → Option (List ℕ)} {faults : K → ℕ} {old new : K}
        {result : Result Ended WriteFault}
        → HasEnded written faults old new normal.names (NoMemory ∷ []) 7 [] result
        → Ends written faults old new (Answers program settings) result
    ends_lost ended = record {
      status = 7;
      spent = [];
      text = _;
      fits = answers_no_memory program settings alone.watch normal [] form
          (begins normal settings.mode Single 1 1).legal;
      writes = ended.writes;
      given = ended.given;
    }
