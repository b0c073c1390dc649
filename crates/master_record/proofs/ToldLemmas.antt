-- What a merge and a pair that was taken in tell.
use Rattle.std.proofs.Common.{◌≡◌, ◌≢◌, ◌≤◌, ◌<◌, ◌+◌, ◌-◌, ◌⊎◌, ℕ, zero, suc, Bool, true, false}
use Rattle.std.proofs.Common.{List, []}
use Rattle.std.proofs.Common.{◌∷◌, ◌++◌, length, get_or, refl, sym, ap, subst, ◌∙◌, ⊎_elim, arith}
use Rattle.std.proofs.Common.{not}
use Rattle.std.proofs.Common.{inl, inr, append-nil, append_assoc, true≢false, fold, length-append}
use Rattle.std.specs.Prelude.{All, Any, AllPairs, Contains}
use Rattle.std.proofs.lemmas.List.Elements.{All-head, All-tail}
use Rattle.std.proofs.lemmas.List.Sums.{fold-append}
use Rattle.ground_program.specs.declared.pair.Pair.{Pair}
use Rattle.ground_program.specs.declared.program.Mode.{Mode}
use Rattle.ground_program.specs.declared.program.Mode.TheVariants.{Cautious, Brave}
use Rattle.ground_program.specs.Bounds.{IsCandidate}
use Rattle.normal_program.specs.declared.normal.Normal.{Normal}
use Rattle.anytime_core.specs.Truth.{EnclosesN}
use Rattle.report.specs.declared.lines.Line.{Line}
use Rattle.report.specs.declared.lines.Line.TheVariants.{Answer, SettledIn, SettledOut, Sizes}
use Rattle.report.specs.Legal.{IsShownBy, IsSettled, GivesShown, Settles}
use Rattle.worker_jobs.specs.declared.gain.Gain.{Gain}
use Rattle.worker_jobs.specs.Gain.{IsProvedCandidate}
use Rattle.master_record.specs.Course.{IsOpenIn, is_open, with_line, with_lines}
use Rattle.master_record.specs.Settling.{AreSettled, IsGainedLine, IsDue, cand_of, shown_line}
use Rattle.master_record.specs.Settling.{proved_line, IsShownLine, IsProvedLine, IsShownIn}
use Rattle.master_record.specs.Merging.{IsTrueLine}
use Rattle.master_record.specs.Books.{Books}
use Rattle.master_record.specs.Told.{IsToldBy}
use Rattle.master_record.proofs.CourseLemmas.{was_open_all, not_so, and_left, and_right, not_true}
use Rattle.master_record.proofs.TellLemmas.{Part}
use Rattle.master_record.proofs.MergeLemmas.{IsTellable, part_lines, any_of_both}
use Rattle.master_record.proofs.TrueLemmas.{GivesSet}

-- some item of the second list is one of both
pub any_later : {X : Type 0} (P : X → Type 0) (xs ys : List X) → Any P ys → Any P (xs ++ ys)
any_later P [] ys found = found
any_later P (x ∷ xs) ys found =
    let (k, y, within, is, holds) = any_later P xs ys found in (suc k, y, omega arith, is, holds)

-- lines of answer sets settle nothing
pub answers_settle_none : (normal : Normal) (pair : Pair) (answers : List Line)
    → All (GivesSet normal) answers → with_lines pair answers ≡ pair
answers_settle_none normal pair [] gives = refl
answers_settle_none normal pair (line ∷ answers) gives =
    ap (λ (p : Pair). with_lines p answers)
    (same line (All-head (GivesSet normal) line answers gives))
    ∙ answers_settle_none normal pair answers (All-tail (GivesSet normal) line answers gives)
  where
    same : (one : Line) → GivesSet normal one → with_line pair one ≡ pair
    same (Answer number members) is = refl
    same (SettledIn cand by) is = absurd is
    same (SettledOut cand by) is = absurd is
    same _ is = refl

tell_shown : (normal : Normal) (mode : Mode) (lines : List Line) (cand by : ℕ)
    → IsTrueLine normal mode (shown_line mode cand by) → IsShownBy normal.names mode lines cand by
    → IsTellable normal mode lines (shown_line mode cand by)
tell_shown normal Cautious lines cand by holds shown = (holds.1, shown)
tell_shown normal Brave lines cand by holds shown = (holds.1, shown)

tell_proved : (normal : Normal) (mode : Mode) (lines : List Line) (cand : ℕ)
    → IsTrueLine normal mode (proved_line mode cand)
    → IsTellable normal mode lines (proved_line mode cand)
tell_proved normal Cautious lines cand holds = (holds.1, refl)
tell_proved normal Brave lines cand holds = (holds.1, refl)

-- the line of a candidate settles it
settles_shown : (mode : Mode) (cand by : ℕ) → Settles cand (shown_line mode cand by)
settles_shown Cautious cand by = refl
settles_shown Brave cand by = refl

settles_proved : (mode : Mode) (cand : ℕ) → Settles cand (proved_line mode cand)
settles_proved Cautious cand = refl
settles_proved Brave cand = refl

-- a line that settles gives no answer set
gives_none : (normal : Normal) (mode other : Mode) (pair : Pair) (answers : List Line)
    (proved : List ℕ) (line : Line) (cand by : ℕ)
    → IsGainedLine normal.names mode pair answers proved line
    → ¬ GivesShown normal.names other cand by line
gives_none normal mode other pair answers proved (Answer number members) cand by gained gives =
    let none : ⊥ = omega (arith, gained.unsettled.candidate.first) in none
gives_none normal mode other pair answers proved (SettledIn one other_by) cand by gained gives =
    gives
gives_none normal mode other pair answers proved (SettledOut one other_by) cand by gained gives =
    gives
gives_none normal mode other pair answers proved _ cand by gained gives = gives

module _ (lines answers settled : List Line) (old : Books) (proved : List ℕ)
    (told : IsToldBy lines old) (gives : All (GivesSet old.normal) answers)
    (holds : All (IsTrueLine old.normal old.mode) settled)
    (gained : AreSettled old.normal.names old.mode old.pair answers proved settled)
    (part : Part old.normal old.mode (old.answers + length answers) old.pair (lines ++ answers))
  where
    abbrev pub after : Pair
    after = with_lines old.pair (answers ++ settled)

    tellable : (line : Line) → IsTrueLine old.normal old.mode line
        → IsGainedLine old.normal.names old.mode old.pair answers proved line
        → IsTellable old.normal old.mode (lines ++ answers) line
    tellable line true_line is =
        ⊎_elim
        (λ (shown : IsShownLine old.normal.names old.mode answers (cand_of line) line).
        let first = shown.shown in
        let by_first : IsShownBy old.normal.names old.mode
        (first.before ++ Answer shown.by first.set ∷ first.after) (cand_of line) shown.by =
        any_later (GivesShown old.normal.names old.mode (cand_of line) shown.by) first.before
        (Answer shown.by first.set ∷ first.after)
        (0, Answer shown.by first.set, omega arith, refl, (refl, first.shown)) in
        subst (IsTellable old.normal old.mode (lines ++ answers)) (sym shown.line_is)
        (tell_shown old.normal old.mode (lines ++ answers) (cand_of line) shown.by
        (subst (IsTrueLine old.normal old.mode) shown.line_is true_line)
        (any_later (GivesShown old.normal.names old.mode (cand_of line) shown.by) lines answers
        (subst (λ (xs : List Line). IsShownBy old.normal.names old.mode xs (cand_of line) shown.by)
        (sym first.parts) by_first))))
        (λ (is_proved : IsProvedLine old.mode proved (cand_of line) line).
        subst (IsTellable old.normal old.mode (lines ++ answers)) (sym is_proved.line_is)
        (tell_proved old.normal old.mode (lines ++ answers) (cand_of line)
        (subst (IsTrueLine old.normal old.mode) is_proved.line_is true_line)))
        is.told

    after_is : after ≡ with_lines old.pair settled
    after_is =
        fold-append with_line old.pair answers settled
        ∙ ap (λ (p : Pair). with_lines p settled)
        (answers_settle_none old.normal old.pair answers gives)

    whole : Part old.normal old.mode (old.answers + length answers) after
        (lines ++ (answers ++ settled))
    whole =
        subst (Part old.normal old.mode (old.answers + length answers) after)
        (append_assoc lines answers settled)
        (subst (λ (p : Pair). Part old.normal old.mode (old.answers + length answers) p
        ((lines ++ answers) ++ settled)) (sym after_is)
        (part_lines old.normal old.mode (old.answers + length answers) old.pair (lines ++ answers)
        settled part gained.ascending
        (λ k d within. (gained.each k d within).unsettled)
        (λ k d within. tellable (get_or settled k d) (holds k d within) (gained.each k d within))))

    -- a line about a candidate settles it
    settles_its : (line : Line) (cand : ℕ) → cand_of line ≡ cand
        → IsGainedLine old.normal.names old.mode old.pair answers proved line → Settles cand line
    settles_its line cand same is =
        subst (λ n. Settles n line) same
        (⊎_elim
        (λ (shown : IsShownLine old.normal.names old.mode answers (cand_of line) line).
        subst (Settles (cand_of line)) (sym shown.line_is)
        (settles_shown old.mode (cand_of line) shown.by))
        (λ (is_proved : IsProvedLine old.mode proved (cand_of line) line).
        subst (Settles (cand_of line)) (sym is_proved.line_is)
        (settles_proved old.mode (cand_of line)))
        is.told)

    -- an unsettled candidate has its parts
    open_of : (cand : ℕ) → IsCandidate old.normal.names cand → is_open old.pair cand ≡ true
        → IsOpenIn old.normal.names old.pair cand
    open_of cand candidate is =
        let low : Bool = get_or old.pair.lower (cand - 1) false in
        let up : Bool = get_or old.pair.upper (cand - 1) false in
        record {
          candidate = candidate;
          unproved = λ has. true≢false (sym has ∙ not_true low (and_left (not low) up is));
          possible = and_right (not low) up is;
        }

    closed_by : (cand by : ℕ) → IsCandidate old.normal.names cand
        → IsShownBy old.normal.names old.mode answers cand by → is_open after cand ≡ true → ⊥
    closed_by cand by candidate shown open_now =
        let free : IsOpenIn old.normal.names old.pair cand =
        open_of cand candidate (was_open_all old.pair (answers ++ settled) (cand - 1) open_now) in
        let (k, line, within, is, about) =
        gained.all cand (record { unsettled = free; gained = inl (by, shown) }) in
        let each : IsGainedLine old.normal.names old.mode old.pair answers proved line =
        subst (IsGainedLine old.normal.names old.mode old.pair answers proved) is
        (gained.each k line within) in
        let settles : IsSettled settled cand =
        (k, line, within, is, settles_its line cand about each) in
        true≢false (sym open_now
        ∙ (whole.settled cand candidate).0
        (any_later (Settles cand) lines (answers ++ settled)
        (any_later (Settles cand) answers settled settles)))

    pub told_shown : (cand by : ℕ) → IsCandidate old.normal.names cand
        → IsShownBy old.normal.names old.mode (lines ++ (answers ++ settled)) cand by
        → is_open after cand ≡ false
    told_shown cand by candidate shown =
        not_so (is_open after cand)
        (λ open_now.
        ⊎_elim
        (λ earlier. true≢false
        (sym (was_open_all old.pair (answers ++ settled) (cand - 1) open_now)
        ∙ told.shown cand by candidate earlier))
        (λ now.
        ⊎_elim
        (λ given. closed_by cand by candidate given open_now)
        (λ (k, line, within, is, gives_it).
        gives_none old.normal old.mode old.mode old.pair answers proved line cand by
        (subst (IsGainedLine old.normal.names old.mode old.pair answers proved) is
        (gained.each k line within)) gives_it)
        (any_of_both (GivesShown old.normal.names old.mode cand by) answers settled now))
        (any_of_both (GivesShown old.normal.names old.mode cand by) lines (answers ++ settled) shown))

    -- so the lines are told by a record with that pair
    pub told_then : IsToldBy (lines ++ (answers ++ settled))
        (record old { answers = old.answers + length answers; pair = after })
    told_then = record {
      legal = whole.legal;
      answers = whole.answers_are;
      lower = whole.lower;
      upper = whole.upper;
      settled = whole.settled;
      shown = told_shown;
      sized = whole.sized;
    }
