-- Which answer a run that stopped gives.
use Rattle.std.proofs.Common.{◌≡◌, ◌≤◌, ℕ, Bool, true}
use Rattle.std.proofs.Common.{false, List, [], ◌∷◌, ◌++◌, length, refl, sym, ap, subst}
use Rattle.std.proofs.Common.{◌∙◌, ⊎_elim, inr, arith, true≢false, append_assoc}
use Rattle.std.proofs.Common.{Option, Some, None}
use Rattle.std.specs.Prelude.{All, AllPairs, Contains, IfSome, IsSome, filter, map}
use Rattle.std.specs.Prelude.{◌↔◌}
use Rattle.std.proofs.lemmas.Bool.{cases_lt}
use Rattle.std.proofs.lemmas.List.Elements.{filter-append}
use Rattle.std.specs.Option.{option_to_list}
use Rattle.std.specs.List.{AllZip}
use Rattle.ground_program.specs.declared.program.Mode.{Mode}
use Rattle.ground_program.specs.declared.program.Named.{Named}
use Rattle.ground_program.specs.declared.program.Program.{Program}
use Rattle.ground_program.specs.Bounds.{IsCandidate}
use Rattle.normal_program.specs.declared.normal.Normal.{Normal}
use Rattle.normal_program.specs.declared.spent.SpentTest.{SpentTest}
use Rattle.normal_program.specs.Normal.{IsNormalFormOf}
use Rattle.normal_program.specs.Spent.{AreApart}
use Rattle.report.specs.declared.lines.Line.{Line}
use Rattle.report.specs.declared.lines.Line.TheVariants.{Unsettled, Unknown, Complete}
use Rattle.report.specs.declared.lines.Line.TheVariants.{Partial, Incoherent, NoMemory}
use Rattle.report.specs.Legal.{IsLegalReport, IsOpen}
use Rattle.report.specs.Text.{text_of_lines}
use Rattle.report.proofs.LegalLemmas.{legal_no_memory, legal_partial, inside_unwatched}
use Rattle.report.proofs.LegalLemmas.{watched_unwatched}
use Rattle.run_words.specs.declared.task.Settings.{Settings}
use Rattle.master_record.specs.declared.own.OwnTest.{OwnTest}
use Rattle.master_record.specs.declared.verdict.Verdict.TheVariants as verdicts
use Rattle.master_record.specs.Course.{is_open}
use Rattle.master_record.specs.Books.{IsOpenCandidate, open_list}
use Rattle.master_record.specs.Sound.{IsSound, IsSpentByOne}
use Rattle.master_record.specs.Told.{AreLegalN}
use Rattle.master_record.specs.Verdicts.{IsVerdict, AreSpent, AreOwnTests}
use Rattle.master_record.specs.Verdicts.{IsTested}
use Rattle.master_record.proofs.FoundLemmas.{is_open_of}
use Rattle.master_record.proofs.ReportLemmas.{complete_report, incoherent_report, unknown_report}
use Rattle.query_run.specs.Answers.{IsReport, IsPartialReport, IsNamedBy, names_test, Answers}
use Rattle.query_run.specs.Answers as answers
use Rattle.query_run.specs.Way.{Way, Stands, first_sizes}
use Rattle.query_run.proofs.TellLemmas.{sized_told, sized_ends}
use Rattle.query_run.proofs.JobLemmas.{open_by}
use Rattle.query_run.proofs.PartialLemmas.{none_named, all_named, tests_named, tests_apart}
use Rattle.query_run.proofs.PartialLemmas.{listed_open, open_by_list, list_ascends}
use Rattle.query_run.proofs.PartialLemmas.{tests_are_open}

module _ (program : Program) (settings : Settings) (unwatched : settings.watch ≡ 0) where
  -- a legal report of a run without watchers is one by the settings
  by_settings : (mode : Mode) (budget : ℕ) (lines : List Line) → mode ≡ settings.mode
      → budget ≡ settings.budget → IsLegalReport program mode 0 budget lines
      → IsLegalReport program settings.mode settings.watch settings.budget lines
  by_settings mode budget lines same_mode same_budget legal =
      subst (λ n. IsLegalReport program settings.mode n settings.budget lines) (sym unwatched)
      (subst (λ n. IsLegalReport program settings.mode 0 n lines) same_budget
      (subst (λ (m : Mode). IsLegalReport program m 0 budget lines) same_mode legal))

  -- a run may end for want of memory behind lines that may begin a report
  pub answers_no_memory : (normal : Normal) (lines : List Line) → IsNormalFormOf normal program
      → AreLegalN normal settings.mode lines
      → Answers program settings 7 [] (text_of_lines normal.names (lines ++ NoMemory ∷ []))
  answers_no_memory normal lines form legal =
      answers.no_memory
      (record {
        before = lines;
        legal = by_settings settings.mode settings.budget (lines ++ NoMemory ∷ []) refl refl
            (legal_no_memory program settings.mode 0 settings.budget lines
            (legal.each program 0 form) (inside_unwatched lines));
        whole = ap (λ (names : List Named). text_of_lines names (lines ++ NoMemory ∷ [])) form.names;
      })

  module _ (told : List Line) (way : Way) (stands : Stands told way)
      (form : IsNormalFormOf way.books.normal program) (same_mode : way.books.mode ≡ settings.mode)
      (same_budget : way.books.budget ≡ settings.budget) where
    body : List Line
    body = told ++ first_sizes way

    -- the text behind the lines of the rounds
    text_is : (last : List Line)
        → text_of_lines way.books.normal.names (told ++ (first_sizes way ++ last))
        ≡ text_of_lines program.names ((told ++ first_sizes way) ++ last)
    text_is last =
        ap (λ (lines : List Line). text_of_lines way.books.normal.names lines)
        (sym (append_assoc told (first_sizes way) last))
        ∙ ap (λ (names : List Named). text_of_lines names ((told ++ first_sizes way) ++ last)) form.names

    pub answers_complete : IsVerdict way.books verdicts.Complete
        → Answers program settings 0 []
        (text_of_lines way.books.normal.names (told ++ (first_sizes way ++ Complete ∷ [])))
    answers_complete finished =
        answers.complete
        (record {
          before = told ++ first_sizes way;
          legal = by_settings way.books.mode way.books.budget
              ((told ++ first_sizes way) ++ Complete ∷ []) same_mode same_budget
              (complete_report program 0 (told ++ first_sizes way) way.books form
              (sized_told told way stands) (inside_unwatched (told ++ first_sizes way))
              (watched_unwatched (told ++ first_sizes way)) finished (sized_ends told way stands));
          whole = text_is (Complete ∷ []);
        })

    pub answers_incoherent : IsSound way.books → IsVerdict way.books verdicts.Incoherent
        → Answers program settings 2 []
        (text_of_lines way.books.normal.names (told ++ Incoherent ∷ []))
    answers_incoherent sound verdict =
        answers.incoherent
        (record {
          before = told;
          legal = by_settings way.books.mode way.books.budget (told ++ Incoherent ∷ []) same_mode
              same_budget
              (incoherent_report program 0 told way.books form stands.tells (inside_unwatched told)
              (watched_unwatched told) sound verdict.1);
          whole = ap (λ (names : List Named). text_of_lines names (told ++ Incoherent ∷ [])) form.names;
        })

    -- the lines of tests and PARTIAL behind them
    partial_answer : (tests : List Line) (spent : List SpentTest)
        → IsLegalReport program way.books.mode 0 way.books.budget
        ((told ++ first_sizes way) ++ (tests ++ Partial ∷ []))
        → filter names_test tests ≡ tests
        → AllZip (IsNamedBy way.books.normal settings) tests spent
        → AllPairs (λ earlier later. earlier.by ≡ later.by
        → AreApart way.books.normal earlier later) spent
        → Answers program settings 1 spent
        (text_of_lines way.books.normal.names
        (told ++ (first_sizes way ++ (tests ++ Partial ∷ []))))
    partial_answer tests spent legal named each apart =
        let whole : (told ++ first_sizes way) ++ (tests ++ Partial ∷ [])
        ≡ ((told ++ first_sizes way) ++ tests) ++ Partial ∷ [] =
        sym (append_assoc (told ++ first_sizes way) tests (Partial ∷ [])) in
        let none : filter names_test (told ++ first_sizes way) ≡ [] =
        none_named program way.books.mode 0 (told ++ first_sizes way)
        ((sized_told told way stands).legal.each program 0 form) in
        let just : filter names_test ((told ++ first_sizes way) ++ tests) ≡ tests =
        filter-append names_test (told ++ first_sizes way) tests
        ∙ ap (λ (xs : List Line). xs ++ filter names_test tests) none ∙ named in
        answers.partial
        (record {
          before = (told ++ first_sizes way) ++ tests;
          legal = subst (λ (xs : List Line).
              IsLegalReport program settings.mode settings.watch settings.budget xs) whole
              (by_settings way.books.mode way.books.budget
              ((told ++ first_sizes way) ++ (tests ++ Partial ∷ [])) same_mode same_budget legal);
          whole = text_is (tests ++ Partial ∷ [])
              ∙ ap (λ (xs : List Line). text_of_lines program.names xs) whole;
          normal = way.books.normal;
          form = form;
          each = subst (λ (xs : List Line). AllZip (IsNamedBy way.books.normal settings) xs spent)
              (sym just) each;
          apart = apart;
        })

    module _ (sound : IsSound way.books) (alone : length way.books.workers ≡ settings.workers)
        (verdict : IsVerdict way.books verdicts.Partial) (spent : List SpentTest)
        (are : AreSpent way.books spent) where
      -- the one test of coherence
      one_test : way.books.answers ≡ 0 → (test : Option SpentTest) → way.books.coherence ≡ test
          → AllZip (IsNamedBy way.books.normal settings) (Unknown way.books.budget ∷ [])
          (option_to_list test)
      one_test unanswered None is =
          absurd (⊎_elim
          (λ found. none_there (subst IsSome is found.1))
          (λ each. omega (arith, unanswered, each.0))
          verdict.2)
        where
          none_there : ¬ IsSome {T = SpentTest} None
          none_there found = cc
      one_test unanswered (Some test) is = (
        subst (λ n. IsSpentByOne way.books.normal n settings.workers test) same_budget
            (subst (λ n. IsSpentByOne way.books.normal way.books.budget n test) alone
            (subst (λ (o : Option SpentTest).
            IfSome o (IsSpentByOne way.books.normal way.books.budget (length way.books.workers))) is
            sound.coherence)),
        tt,
      )

      none_apart : (test : Option SpentTest)
          → AllPairs (λ earlier later. earlier.by ≡ later.by
          → AreApart way.books.normal earlier later) (option_to_list test)
      none_apart None = λ i j d less within. absurd (omega (arith, within))
      none_apart (Some test) = λ i j d less within. absurd (omega (arith, less, within))

      pub answers_unknown : way.books.answers ≡ 0
          → Answers program settings 1 spent
          (text_of_lines way.books.normal.names
          (told ++ (first_sizes way ++ ((Unknown way.books.budget ∷ []) ++ Partial ∷ []))))
      answers_unknown unanswered =
          let is : spent ≡ option_to_list way.books.coherence =
          ⊎_elim (λ none. none.1) (λ some. absurd (omega (arith, unanswered, some.0))) are in
          partial_answer (Unknown way.books.budget ∷ []) spent
          (unknown_report program 0 (told ++ first_sizes way) way.books form
          (sized_told told way stands) (inside_unwatched (told ++ first_sizes way))
          (watched_unwatched (told ++ first_sizes way)) unanswered (sized_ends told way stands))
          refl
          (subst (AllZip (IsNamedBy way.books.normal settings) (Unknown way.books.budget ∷ []))
          (sym is) (one_test unanswered way.books.coherence refl))
          (subst (AllPairs (λ earlier later. earlier.by ≡ later.by
          → AreApart way.books.normal earlier later)) (sym is) (none_apart way.books.coherence))

      -- each open candidate has its line
      open_line : (cand : ℕ)
          → Contains (open_list way.books) cand ↔ IsOpen program.names (told ++ first_sizes way) cand
      open_line cand = (
        λ has.
            let free : IsOpenCandidate way.books cand = open_by_list way.books cand has in
            record {
              candidate = subst (λ (names : List Named). IsCandidate names cand) form.names
                  free.candidate;
              unsettled = λ settled. true≢false
                  (sym (is_open_of way.books.normal.names way.books.pair cand free)
                  ∙ ((sized_told told way stands).settled cand free.candidate).0 settled);
            },
        λ free.
            let candidate : IsCandidate way.books.normal.names cand =
            subst (λ (names : List Named). IsCandidate names cand) (sym form.names) free.candidate in
            listed_open way.books cand
            (open_by way.books.normal.names way.books.pair cand candidate
            (by_test (is_open way.books.pair cand)
            (λ closed. free.unsettled
            (((sized_told told way stands).settled cand candidate).1 closed)))),
      )
        where
          by_test : (b : Bool) → (b ≡ false → ⊥) → b ≡ true
          by_test true none = refl
          by_test false none = absurd (none refl)

      some_listed : 1 ≤ way.books.answers → 1 ≤ length (open_list way.books)
      some_listed answered =
          ⊎_elim
          (λ none. absurd (verdict.0 (record {
            answered = answered;
            settled = λ cand free.
                let (k, within, is) = listed_open way.books cand free in
                omega (arith, none, within);
          })))
          (λ some. some)
          (cases_lt (length (open_list way.books)) 1)

      each_tested : 1 ≤ way.books.answers → (cand : ℕ) → IsOpenCandidate way.books cand
          → IsTested way.books cand
      each_tested answered =
          ⊎_elim (λ none. absurd (omega (arith, none.0, answered))) (λ each. each.1) verdict.2

      pub answers_open : All (λ (one : OwnTest). is_open way.books.pair one.cand ≡ true) way.books.own
          → 1 ≤ way.books.answers
          → Answers program settings 1 spent
          (text_of_lines way.books.normal.names
          (told ++ (first_sizes way
          ++ (map (λ (cand : ℕ). Unsettled cand way.books.budget) (open_list way.books)
          ++ Partial ∷ []))))
      answers_open unsettled answered =
          let tests : List Line =
          map (λ (cand : ℕ). Unsettled cand way.books.budget) (open_list way.books) in
          let own : AreOwnTests way.books.own spent =
          ⊎_elim (λ none. absurd (omega (arith, none.0, answered))) (λ some. some.1) are in
          let cands : own.cands ≡ open_list way.books =
          tests_are_open way.books sound unsettled (each_tested answered) spent own in
          partial_answer tests spent
          (legal_partial program way.books.mode 0 way.books.budget (told ++ first_sizes way)
          ((sized_told told way stands).legal.each program 0 form)
          (inside_unwatched (told ++ first_sizes way)) tests
          (record {
            spent = inr (record {
              answered = subst (λ n. 1 ≤ n) (sized_told told way stands).answers answered;
              cands = open_list way.books;
              lines = refl;
              each = open_line;
              ascending = list_ascends way.books;
              some = some_listed answered;
            });
            sized = sized_ends told way stands;
            watched = watched_unwatched (told ++ first_sizes way);
          }))
          (all_named way.books.budget (open_list way.books))
          (subst (λ (xs : List ℕ). AllZip (IsNamedBy way.books.normal settings)
          (map (λ (cand : ℕ). Unsettled cand way.books.budget) xs) spent) cands
          (tests_named way.books sound settings same_mode same_budget alone own.cands spent own.each))
          (tests_apart way.books sound own.cands spent own.each own.ascending)
