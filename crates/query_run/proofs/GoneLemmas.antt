-- A round, put together from its steps.
use Rattle.std.proofs.Common.{◌≡◌, ◌≤◌, ◌<◌, ◌+◌, ℕ, Bool, true, List, [], ◌∷◌}
use Rattle.std.proofs.Common.{◌++◌, get_or, refl, sym, ap, subst, ◌∙◌, ⊎_elim, inl, inr}
use Rattle.std.specs.Prelude.{All, IfOk, Result}
use Rattle.std.proofs.Common.{Ok, Err}
use Rattle.std.proofs.lemmas.List.Elements.{filter_map-append, filter_passes, All-append, All-nil}
use Rattle.std.proofs.lemmas.List.Elements.{All-cons, All-head, All-tail}
use Rattle.ground_program.specs.declared.pair.Pair.{Pair}
use Rattle.ground_program.specs.declared.program.Mode.{Mode}
use Rattle.ground_program.specs.declared.program.Mode.TheVariants.{Cautious, Brave}
use Rattle.ground_program.specs.declared.program.Named.{Named}
use Rattle.ground_program.specs.Bounds.{IsCandidate}
use Rattle.report.specs.declared.lines.Line.{Line}
use Rattle.report.specs.declared.lines.Line.TheVariants.{Answer}
use Rattle.report.specs.Legal.{Extent, all_sizes, sizes_in}
use Rattle.report.specs.Text.{NamesCandidate}
use Rattle.worker_jobs.specs.declared.job.Job.{Job}
use Rattle.worker_jobs.specs.declared.gain.Gain.{Gain}
use Rattle.worker_jobs.specs.Gain.{IsTrueGain}
use Rattle.worker_jobs.specs.Job.{IsJobOver}
use Rattle.worker_jobs.specs.Spent.{IsTrueEnd}
use Rattle.worker_strategies.specs.Working.{HasSelectorFor}
use Rattle.worker_strategies.specs.Working.{Working}
use Rattle.master_record.specs.declared.own.OwnTest.{OwnTest}
use Rattle.master_record.specs.declared.verdict.Verdict.TheVariants.{Running}
use Rattle.master_record.specs.Course.{is_open}
use Rattle.master_record.specs.Books.{Books, IsOwed, job_of, open_own}
use Rattle.master_record.specs.Jobs.{HasGiven}
use Rattle.master_record.specs.Merging.{HasMerged, IsApart, spent_own}
use Rattle.master_record.specs.Settling.{AreAnswers, IsGainedLine, IsShownLine, IsProvedLine}
use Rattle.master_record.specs.Settling.{cand_of, shown_line, proved_line}
use Rattle.master_record.specs.Sound.{IsSound}
use Rattle.master_record.specs.Told.{IsToldBy}
use Rattle.master_record.specs.Verdicts.{IsVerdict}
use Rattle.master_record.proofs.LawLemmas.{jobs_told}
use Rattle.query_run.specs.Agreed.{HasWorked, IsAgreed, only}
use Rattle.query_run.specs.Progress.{to_do}
use Rattle.query_run.specs.Way.{Way, HasGone, IsOnWay, IsSameRun}
use Rattle.query_run.proofs.MergeLemmas.{now_told}
use Rattle.query_run.proofs.AgreeLemmas.{own_is}
use Rattle.query_run.proofs.GoLemmas.{agreed_now, fits_apart, fits_end, fits_gain, fits_over}
use Rattle.query_run.proofs.GoLemmas.{fits_owed, fits_selector, less_now, mid_is, mid_job}

-- ---- the lines of a merge

-- lines of answer sets are no PAIR lines, and name no candidate
answers_unsized : (names : List Named) (mode : Mode) (pair : Pair) (count : ℕ)
    (sets : List (List Bool)) (lines : List Line) → AreAnswers names mode pair count sets lines
    → all_sizes lines ≡ []
answers_unsized names mode pair count [] lines given =
    ap (λ (xs : List Line). all_sizes xs) given
answers_unsized names mode pair count (first ∷ sets) lines (inl (news, (rest, parts, next))) =
    ap (λ (xs : List Line). all_sizes xs) parts
    ∙ answers_unsized names mode pair (count + 1) sets rest next
answers_unsized names mode pair count (first ∷ sets) lines (inr (old, next)) =
    answers_unsized names mode pair count sets lines next

answers_named : (names : List Named) (mode : Mode) (pair : Pair) (count : ℕ)
    (sets : List (List Bool)) (lines : List Line) → AreAnswers names mode pair count sets lines
    → All (NamesCandidate names) lines
answers_named names mode pair count [] lines given =
    subst (All (NamesCandidate names)) (sym given) (All-nil (NamesCandidate names))
answers_named names mode pair count (first ∷ sets) lines (inl (news, (rest, parts, next))) =
    subst (All (NamesCandidate names)) (sym parts)
    (All-cons (NamesCandidate names) (Answer (count + 1) first) rest tt
    (answers_named names mode pair (count + 1) sets rest next))
answers_named names mode pair count (first ∷ sets) lines (inr (old, next)) =
    answers_named names mode pair count sets lines next

-- what holds of the lines of candidates holds of a gained line
by_gained : (P : Line → Type 0) (names : List Named) (mode : Mode) (pair : Pair)
    (answers : List Line) (proved : List ℕ) (line : Line)
    → IsGainedLine names mode pair answers proved line
    → ((by : ℕ) → P (shown_line mode (cand_of line) by)) → P (proved_line mode (cand_of line))
    → P line
by_gained P names mode pair answers proved line gained shown is_proved =
    ⊎_elim
    (λ (one : IsShownLine names mode answers (cand_of line) line).
    subst P (sym one.line_is) (shown one.by))
    (λ (one : IsProvedLine mode proved (cand_of line) line). subst P (sym one.line_is) is_proved)
    gained.told

shown_sizes : (mode : Mode) (cand by : ℕ) (rest : List Line)
    → all_sizes (shown_line mode cand by ∷ rest) ≡ all_sizes rest
shown_sizes Cautious cand by rest = refl
shown_sizes Brave cand by rest = refl

proved_sizes : (mode : Mode) (cand : ℕ) (rest : List Line)
    → all_sizes (proved_line mode cand ∷ rest) ≡ all_sizes rest
proved_sizes Cautious cand rest = refl
proved_sizes Brave cand rest = refl

settled_unsized : (names : List Named) (mode : Mode) (pair : Pair) (answers : List Line)
    (proved : List ℕ) (lines : List Line) → All (IsGainedLine names mode pair answers proved) lines
    → all_sizes lines ≡ []
settled_unsized names mode pair answers proved [] each = refl
settled_unsized names mode pair answers proved (line ∷ lines) each =
    by_gained (λ (one : Line). all_sizes (one ∷ lines) ≡ all_sizes lines) names mode pair answers proved
    line (All-head (IsGainedLine names mode pair answers proved) line lines each)
    (λ by. shown_sizes mode (cand_of line) by lines) (proved_sizes mode (cand_of line) lines)
    ∙ settled_unsized names mode pair answers proved lines
    (All-tail (IsGainedLine names mode pair answers proved) line lines each)

names_shown : (names : List Named) (mode : Mode) (cand by : ℕ) → IsCandidate names cand
    → NamesCandidate names (shown_line mode cand by)
names_shown names Cautious cand by candidate = candidate
names_shown names Brave cand by candidate = candidate

names_proved : (names : List Named) (mode : Mode) (cand : ℕ) → IsCandidate names cand
    → NamesCandidate names (proved_line mode cand)
names_proved names Cautious cand candidate = candidate
names_proved names Brave cand candidate = candidate

settled_named : (names : List Named) (mode : Mode) (pair : Pair) (answers : List Line)
    (proved : List ℕ) (lines : List Line) → All (IsGainedLine names mode pair answers proved) lines
    → All (NamesCandidate names) lines
settled_named names mode pair answers proved lines each = λ k d within.
    let line : Line = get_or lines k d in
    let gained : IsGainedLine names mode pair answers proved line = each k d within in
    by_gained (NamesCandidate names) names mode pair answers proved line gained
    (λ by. names_shown names mode (cand_of line) by gained.unsettled.candidate)
    (names_proved names mode (cand_of line) gained.unsettled.candidate)

-- ---- the round

module _ (old : Way) (mid : Books) (next : Working) (new : Way) (job : Job) (gain : Gain)
    (lines : List Line) (on : IsOnWay old) (running : IsVerdict old.books Running)
    (given : HasGiven old.books (job ∷ []) mid) (sound_mid : IsSound mid)
    (worked : HasWorked old.worker job old.slice next gain)
    (is_true : IsTrueGain old.worker.normal old.worker.mode gain)
    (merge : HasMerged mid 1 gain lines new.books) (sound_new : IsSound new.books)
    (worker_is : new.worker ≡ next) (slice_is : new.slice ≡ old.slice)
    (sized_is : new.sized ≡ old.sized) where
  mid_true : IsTrueGain mid.normal mid.mode gain
  mid_true =
      fits_gain old.books mid (job ∷ []) job old.worker on.sound running on.agreed given refl next
      old.slice gain is_true

  tells_by : (before : List Line) → IsToldBy before old.books → IsToldBy (before ++ lines) new.books
  tells_by before tells =
      now_told mid new.books gain lines before sound_mid mid_true
      (jobs_told before old.books mid (job ∷ []) tells given) merge

  same_run : IsSameRun old.books new.books
  same_run = record {
    normal = ap (λ (b : Books). b.normal) merge.after ∙ ap (λ (b : Books). b.normal) given.after;
    mode = ap (λ (b : Books). b.mode) merge.after ∙ ap (λ (b : Books). b.mode) given.after;
    budget = ap (λ (b : Books). b.budget) merge.after ∙ ap (λ (b : Books). b.budget) given.after;
  }

  all_open : All (λ (one : OwnTest). is_open new.books.pair one.cand ≡ true) new.books.own
  all_open =
      let before : List OwnTest =
      open_own mid.pair (mid.own ++ spent_own mid.own (only mid).job gain.ended) in
      subst (All (λ (one : OwnTest). is_open new.books.pair one.cand ≡ true))
      (sym (own_is mid new.books gain lines merge
      (mid_is old.books mid (job ∷ []) job old.worker on.sound running on.agreed given refl)))
      (filter_passes (λ (one : OwnTest). is_open new.books.pair one.cand) before)

  unsized_lines : all_sizes lines ≡ []
  unsized_lines =
      ap (λ (xs : List Line). all_sizes xs) merge.parts
      ∙ filter_map-append sizes_in merge.answers merge.settled
      ∙ ap (λ (xs : List Extent). xs ++ all_sizes merge.settled)
      (answers_unsized mid.normal.names mid.mode mid.pair mid.answers gain.sets merge.answers
      merge.given)
      ∙ settled_unsized mid.normal.names mid.mode mid.pair merge.answers gain.proved merge.settled
      merge.gained.each

  named_lines : All (NamesCandidate old.books.normal.names) lines
  named_lines =
      subst (λ (names : List Named). All (NamesCandidate names) lines)
      (ap (λ (b : Books). b.normal.names) given.after)
      (subst (All (NamesCandidate mid.normal.names)) (sym merge.parts)
      (All-append (NamesCandidate mid.normal.names) merge.answers merge.settled
      (answers_named mid.normal.names mid.mode mid.pair mid.answers gain.sets merge.answers
      merge.given)
      (settled_named mid.normal.names mid.mode mid.pair merge.answers gain.proved merge.settled
      merge.gained.each)))

  pub gone : HasGone old lines new
  gone = record {
    on = record {
      sound = sound_new;
      told = on.told ++ lines;
      tells = tells_by on.told on.tells;
      unsettled = all_open;
      agreed = subst (IsAgreed new.books) (sym worker_is)
          (agreed_now old.books mid (job ∷ []) job old.worker on.sound running on.agreed given refl
          next old.slice gain new.books lines on.told sound_mid mid_true on.tells merge on.slice
          worked);
      slice = subst (λ n. 1 ≤ n) (sym slice_is) on.slice;
    };
    same = same_run;
    tells = tells_by;
    unsized = unsized_lines;
    named = named_lines;
    less = subst (λ (w : Working). to_do new.books w < to_do old.books old.worker) (sym worker_is)
        (less_now old.books mid (job ∷ []) job old.worker on.sound running on.agreed given refl next
        old.slice gain new.books lines on.told sound_mid mid_true on.tells merge on.slice worked);
    slice = slice_is;
    sized = sized_is;
  }

-- ---- by what contracts see of the steps

module _ (old mid : Way) (job : Job) (on : IsOnWay old) (running : IsVerdict old.books Running)
    (given : HasGiven old.books (job ∷ []) mid.books)
    (rest : mid ≡ record old { books = mid.books }) where
  -- the job fits the worker
  pub job_over : IsJobOver mid.worker.normal.names job
  job_over =
      subst (λ (way : Way). IsJobOver way.worker.normal.names job) (sym rest)
      (fits_over old.books mid.books (job ∷ []) job old.worker on.sound running on.agreed given refl)

  pub job_selector : HasSelectorFor mid.worker job
  job_selector =
      subst (λ (way : Way). HasSelectorFor way.worker job) (sym rest)
      (fits_selector old.books mid.books (job ∷ []) job old.worker on.sound running on.agreed given
      refl)

  pub some_slice : 1 ≤ mid.slice
  some_slice = subst (λ (way : Way). 1 ≤ way.slice) (sym rest) on.slice

  module _ (next : Way) (gain : Gain)
      (worked_mid : HasWorked mid.worker job mid.slice next.worker gain)
      (true_mid : IsTrueGain mid.worker.normal mid.worker.mode gain)
      (rest_next : next ≡ record mid { worker = next.worker }) where
    books_is : next.books ≡ mid.books
    books_is = ap (λ (way : Way). way.books) rest_next

    worked : HasWorked old.worker job old.slice next.worker gain
    worked =
        subst (λ (way : Way). HasWorked way.worker job way.slice next.worker gain) rest worked_mid

    is_true : IsTrueGain old.worker.normal old.worker.mode gain
    is_true = subst (λ (way : Way). IsTrueGain way.worker.normal way.worker.mode gain) rest true_mid

    job_is : job ≡ job_of mid.books 1
    job_is =
        sym (mid_job old.books mid.books (job ∷ []) job old.worker on.sound running on.agreed given
        refl)

    pub gain_owed : IsOwed next.books 1
    gain_owed =
        subst (λ (b : Books). IsOwed b 1) (sym books_is)
        (fits_owed old.books mid.books (job ∷ []) job old.worker on.sound running on.agreed given
        refl)

    pub gain_true : IsTrueGain next.books.normal next.books.mode gain
    gain_true =
        subst (λ (b : Books). IsTrueGain b.normal b.mode gain) (sym books_is)
        (fits_gain old.books mid.books (job ∷ []) job old.worker on.sound running on.agreed given
        refl next.worker old.slice gain is_true)

    pub gain_end : IsTrueEnd next.books.normal next.books.mode 1 next.books.budget
        (job_of next.books 1) gain.ended
    gain_end =
        subst (λ (b : Books). IsTrueEnd b.normal b.mode 1 b.budget (job_of b 1) gain.ended)
        (sym books_is)
        (subst (λ (j : Job).
        IsTrueEnd mid.books.normal mid.books.mode 1 mid.books.budget j gain.ended) job_is
        (fits_end old.books mid.books (job ∷ []) job old.worker on.sound running on.agreed given refl
        next.worker old.slice gain worked))

    pub gain_apart : IsApart next.books 1 (job_of next.books 1) gain.ended
    gain_apart =
        subst (λ (b : Books). IsApart b 1 (job_of b 1) gain.ended) (sym books_is)
        (subst (λ (j : Job). IsApart mid.books 1 j gain.ended) job_is
        (fits_apart old.books mid.books (job ∷ []) job old.worker on.sound running on.agreed given
        refl next.worker old.slice gain worked))

    pub gone_by : IsSound mid.books → (last : Way) (lines : List Line)
        → HasMerged next.books 1 gain lines last.books → IsSound last.books
        → last ≡ record next { books = last.books } → HasGone old lines last
    gone_by sound_mid last lines merge sound_last rest_last =
        gone old mid.books next.worker last job gain lines on running given sound_mid worked is_true
        (subst (λ (b : Books). HasMerged b 1 gain lines last.books) books_is merge) sound_last
        (ap (λ (way : Way). way.worker) rest_last)
        (ap (λ (way : Way). way.slice) rest_last ∙ ap (λ (way : Way). way.slice) rest_next
        ∙ ap (λ (way : Way). way.slice) rest)
        (ap (λ (way : Way). way.sized) rest_last ∙ ap (λ (way : Way). way.sized) rest_next
        ∙ ap (λ (way : Way). way.sized) rest)

-- what follows from what holds at Ok
pub if_ok_then : {T E : Type 0} {P Q : T → Type 0} (result : Result T E) → IfOk result P
    → ((value : T) → P value → Q value) → IfOk result Q
if_ok_then (Ok value) holds then = then value holds
if_ok_then (Err error) holds then = tt
