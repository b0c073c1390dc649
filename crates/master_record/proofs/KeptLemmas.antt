-- What is kept when lines are taken in.
use Rattle.std.proofs.Common.{◌≡◌, ◌≢◌, ◌≤◌, ◌<◌, ◌+◌, ◌-◌, ◌^◌, ◌&&◌, not, ℕ, Bool, true, false}
use Rattle.std.proofs.Common.{List}
use Rattle.std.proofs.Common.{[], ◌∷◌, length, get_or, set, refl, sym, ap, subst, ◌∙◌, ⊎_elim}
use Rattle.std.proofs.Common.{arith}
use Rattle.std.proofs.Common.{length-set, true≢false, fold}
use Rattle.std.specs.Prelude.{All, Any, ◌↔◌, Vec, filter}
use Rattle.std.specs.declared.alloc.Global.{Global}
use Rattle.std.proofs.lemmas.List.{get_or-set_same, get_or-set_other}
use Rattle.std.proofs.lemmas.List.Elements.{All-head, All-tail, All-filter}
use Rattle.std.proofs.lemmas.List.Kept.{AllPairs-filter}
use Rattle.std.proofs.lemmas.Bool.{cases_eq, cases_lt}
use Rattle.ground_program.specs.declared.pair.Pair.{Pair}
use Rattle.ground_program.specs.declared.program.Mode.{Mode}
use Rattle.ground_program.specs.Bounds.{IsCandidate, HasCandidate}
use Rattle.normal_program.specs.declared.normal.Normal.{Normal}
use Rattle.normal_program.specs.declared.spent.SpentTest.{SpentTest}
use Rattle.normal_program.specs.Spent.{AreApart}
use Rattle.anytime_core.specs.Truth.{EnclosesN, IsConsequenceN, IsCoherent}
use Rattle.report.specs.declared.lines.Line.{Line}
use Rattle.report.specs.declared.lines.Line.TheVariants.{Answer, SettledIn, SettledOut, Sizes}
use Rattle.report.specs.declared.lines.Line.TheVariants.{Watch, Unsettled, Unknown, Complete}
use Rattle.report.specs.declared.lines.Line.TheVariants.{Partial, Incoherent, NoMemory, Refused}
use Rattle.master_record.specs.declared.own.OwnTest.{OwnTest}
use Rattle.master_record.specs.Course.{Course, course_after, is_open, with_line, with_lines}
use Rattle.master_record.specs.Books.{Books, open_own}
use Rattle.master_record.specs.Merging.{IsTrueLine, settled_by}
use Rattle.master_record.specs.Sound.{IsKept, IsLeftAt, IsOwn, AreDistinct, AreEachApart}
use Rattle.master_record.proofs.CourseLemmas.{was_open_all, pair_of_fold, filter_again}

module _ (normal : Normal) (mode : Mode) where
  -- two candidates at one place are one
  same_cand : (one other : ℕ) → IsCandidate normal.names one → 1 ≤ other → one - 1 ≡ other - 1
      → one ≡ other
  same_cand one other candidate first same = let low : 1 ≤ one = candidate.first in omega arith

  pub encloses_line : (pair : Pair) (line : Line) → EnclosesN normal mode pair
      → IsTrueLine normal mode line → EnclosesN normal mode (with_line pair line)
  encloses_line pair (SettledIn cand by) was holds = record {
    over = record {
      lower = length-set pair.lower (cand - 1) true ∙ was.over.lower;
      upper = was.over.upper;
    };
    lower = λ other candidate has.
        ⊎_elim
        (λ same. subst (IsConsequenceN normal mode)
        (sym (same_cand other cand candidate holds.0.first same)) holds.1)
        (λ differ. was.lower other candidate
        (sym (get_or-set_other pair.lower (cand - 1) (other - 1) true false differ) ∙ has))
        (cases_eq (other - 1) (cand - 1));
    upper = λ other candidate is. was.upper other candidate is;
  }
  encloses_line pair (SettledOut cand by) was holds = record {
    over = record {
      lower = was.over.lower;
      upper = length-set pair.upper (cand - 1) false ∙ was.over.upper;
    };
    lower = λ other candidate has. was.lower other candidate has;
    upper = λ other candidate is.
        ⊎_elim
        (λ same. absurd (holds.1 (subst (IsConsequenceN normal mode)
        (same_cand other cand candidate holds.0.first same) is)))
        (λ differ. get_or-set_other pair.upper (cand - 1) (other - 1) false false differ
        ∙ was.upper other candidate is)
        (cases_eq (other - 1) (cand - 1));
  }
  encloses_line pair _ was holds = was

  pub encloses_lines : (pair : Pair) (lines : List Line) → EnclosesN normal mode pair
      → All (IsTrueLine normal mode) lines → EnclosesN normal mode (with_lines pair lines)
  encloses_lines pair [] was holds = was
  encloses_lines pair (line ∷ lines) was holds =
      encloses_lines (with_line pair line) lines
      (encloses_line pair line was (All-head (IsTrueLine normal mode) line lines holds))
      (All-tail (IsTrueLine normal mode) line lines holds)

-- the parts of an equivalence, each replaced by the same
pub iff_along : (x now_x o now_o : Bool) (Rest : Type 0) → now_x ≡ x → now_o ≡ o
    → ((x ≡ true) ↔ ((o ≡ true) × Rest)) → ((now_x ≡ true) ↔ ((now_o ≡ true) × Rest))
iff_along x now_x o now_o Rest same_x same_o was = (
  λ is. let both = was.0 (sym same_x ∙ is) in (same_o ∙ both.0, both.1),
  λ both. same_x ∙ was.1 (sym same_o ∙ both.0, both.1),
)

-- both sides are false
pub iff_none : (x o : Bool) (Rest : Type 0) → x ≡ false → o ≡ false
    → ((x ≡ true) ↔ ((o ≡ true) × Rest))
iff_none x o Rest none closed = (
  λ is. absurd (true≢false (sym is ∙ none)),
  λ both. absurd (true≢false (sym both.0 ∙ closed)),
)

module _ (normal : Normal) (mode : Mode) (raw : List OwnTest) where
  -- what fits a pair: the consequences lie within it, and what is left is unsettled without a test
  pub record Fits (pair : Pair) (left : List Bool) : Type 0 where
    pub encloses : EnclosesN normal mode pair
    pub count : length left ≡ length normal.names
    pub left_is : (place : ℕ) → IsLeftAt pair raw left place

  fits_in : (pair : Pair) (left : List Bool) (cand : ℕ) → Fits pair left
      → IsCandidate normal.names cand → (place : ℕ)
      → IsLeftAt (record { lower = set pair.lower (cand - 1) true; upper = pair.upper }) raw
      (set left (cand - 1) false) place
  fits_in pair left cand fits candidate place =
      let last : cand ≤ length normal.names = candidate.last in
      let first : 1 ≤ cand = candidate.first in
      let in_left : cand - 1 < length left =
      subst (λ n. cand - 1 < n) (sym fits.count) (omega arith) in
      let in_lower : cand - 1 < length pair.lower =
      subst (λ n. cand - 1 < n) (sym fits.encloses.over.lower) (omega arith) in
      let Rest : Type 0 = ¬ Any (λ (one : OwnTest). one.cand ≡ place + 1) raw in
      let now : Bool = get_or (set left (cand - 1) false) place false in
      let low : Bool = get_or (set pair.lower (cand - 1) true) place false in
      let up : Bool = get_or pair.upper place false in
      ⊎_elim
      (λ same.
      iff_none now (not low && up) Rest
      (subst (λ n. get_or (set left (cand - 1) false) n false ≡ false) (sym same)
      (get_or-set_same left (cand - 1) false false in_left))
      (ap (λ b. not b && up)
      (subst (λ n. get_or (set pair.lower (cand - 1) true) n false ≡ true) (sym same)
      (get_or-set_same pair.lower (cand - 1) true false in_lower))))
      (λ differ.
      iff_along (get_or left place false) now (not (get_or pair.lower place false) && up)
      (not low && up) Rest
      (get_or-set_other left (cand - 1) place false false differ)
      (ap (λ b. not b && up) (get_or-set_other pair.lower (cand - 1) place true false differ))
      (fits.left_is place))
      (cases_eq place (cand - 1))

  and_false : (a : Bool) → (a && false) ≡ false
  and_false true = refl
  and_false false = refl

  fits_out : (pair : Pair) (left : List Bool) (cand : ℕ) → Fits pair left
      → IsCandidate normal.names cand → (place : ℕ)
      → IsLeftAt (record { lower = pair.lower; upper = set pair.upper (cand - 1) false }) raw
      (set left (cand - 1) false) place
  fits_out pair left cand fits candidate place =
      let last : cand ≤ length normal.names = candidate.last in
      let first : 1 ≤ cand = candidate.first in
      let in_left : cand - 1 < length left =
      subst (λ n. cand - 1 < n) (sym fits.count) (omega arith) in
      let in_upper : cand - 1 < length pair.upper =
      subst (λ n. cand - 1 < n) (sym fits.encloses.over.upper) (omega arith) in
      let Rest : Type 0 = ¬ Any (λ (one : OwnTest). one.cand ≡ place + 1) raw in
      let now : Bool = get_or (set left (cand - 1) false) place false in
      let low : Bool = not (get_or pair.lower place false) in
      let up : Bool = get_or (set pair.upper (cand - 1) false) place false in
      ⊎_elim
      (λ same.
      iff_none now (low && up) Rest
      (subst (λ n. get_or (set left (cand - 1) false) n false ≡ false) (sym same)
      (get_or-set_same left (cand - 1) false false in_left))
      (ap (λ b. low && b)
      (subst (λ n. get_or (set pair.upper (cand - 1) false) n false ≡ false) (sym same)
      (get_or-set_same pair.upper (cand - 1) false false in_upper))
      ∙ and_false low))
      (λ differ.
      iff_along (get_or left place false) now (low && get_or pair.upper place false) (low && up)
      Rest
      (get_or-set_other left (cand - 1) place false false differ)
      (ap (λ b. low && b) (get_or-set_other pair.upper (cand - 1) place false false differ))
      (fits.left_is place))
      (cases_eq place (cand - 1))

  pub fits_line : (course : Course) (line : Line) → Fits course.pair course.left
      → IsTrueLine normal mode line
      → Fits (course_after course line).pair (course_after course line).left
  fits_line course (SettledIn cand by) fits holds = record {
    encloses = encloses_line normal mode course.pair (SettledIn cand by) fits.encloses holds;
    count = length-set course.left (cand - 1) false ∙ fits.count;
    left_is = fits_in course.pair course.left cand fits holds.0;
  }
  fits_line course (SettledOut cand by) fits holds = record {
    encloses = encloses_line normal mode course.pair (SettledOut cand by) fits.encloses holds;
    count = length-set course.left (cand - 1) false ∙ fits.count;
    left_is = fits_out course.pair course.left cand fits holds.0;
  }
  fits_line course _ fits holds = fits

  pub fits_lines : (course : Course) (lines : List Line) → Fits course.pair course.left
      → All (IsTrueLine normal mode) lines
      → Fits (fold course_after course lines).pair (fold course_after course lines).left
  fits_lines course [] fits holds = fits
  fits_lines course (line ∷ lines) fits holds =
      fits_lines (course_after course line) lines
      (fits_line course line fits (All-head (IsTrueLine normal mode) line lines holds))
      (All-tail (IsTrueLine normal mode) line lines holds)

-- the own tests that stay unsettled, filtered at once
pub own_again : (pair : Pair) (lines : List Line) (raw : List OwnTest)
    → open_own (with_lines pair lines) (open_own pair raw) ≡ open_own (with_lines pair lines) raw
own_again pair lines raw =
    filter_again (λ (one : OwnTest). is_open pair one.cand)
    (λ (one : OwnTest). is_open (with_lines pair lines) one.cand)
    (λ one is. was_open_all pair lines (one.cand - 1) is) raw

module _ (books : Books) (left : List Bool) (own : Vec OwnTest Global) (room : Vec SpentTest Global)
    (view : books.own ≡ open_own books.pair own.items) (kept : IsKept books left own room)
    (answers : ℕ) (lines : List Line) (after : Course)
    (after_is : after ≡ fold course_after (record { pair = books.pair; left = left }) lines) where
  abbrev course : Course
  course = record { pair = books.pair; left = left }

  pair_is : after.pair ≡ with_lines books.pair lines
  pair_is = ap (λ (it : Course). it.pair) after_is ∙ pair_of_fold course lines

  -- the record as its parts are now
  abbrev pub settled_books : Books
  settled_books = record books {
    answers = books.answers + answers;
    pair = after.pair;
    own = open_own after.pair own.items;
  }

  own_is : open_own after.pair own.items ≡ open_own (with_lines books.pair lines) books.own
  own_is =
      ap (λ (p : Pair). open_own p own.items) pair_is
      ∙ sym (own_again books.pair lines own.items)
      ∙ ap (λ (xs : List OwnTest). open_own (with_lines books.pair lines) xs) (sym view)

  -- that is the record after the lines
  pub settled_is : settled_books ≡ settled_by books answers lines
  settled_is =
      ap (λ (p : Pair). record books {
        answers = books.answers + answers;
        pair = p;
        own = open_own after.pair own.items;
      }) pair_is
      ∙ ap (λ (xs : List OwnTest). record books {
        answers = books.answers + answers;
        pair = with_lines books.pair lines;
        own = xs;
      }) own_is

  module _ (fits : books.answers + answers < 2 ^ 32) (coherent : 1 ≤ answers → IsCoherent books.normal)
      (holds : All (IsTrueLine books.normal books.mode) lines) where
    fitting : Fits books.normal books.mode own.items after.pair after.left
    fitting =
        subst (λ (it : Course). Fits books.normal books.mode own.items it.pair it.left)
        (sym after_is)
        (fits_lines books.normal books.mode own.items course lines
        (record {
          encloses = kept.sound.encloses;
          count = kept.count;
          left_is = kept.left_is;
        }) holds)

    answered : 1 ≤ books.answers + answers → IsCoherent books.normal
    answered some =
        ⊎_elim (λ new. coherent (omega (arith, new)))
        (λ none. kept.sound.answered (omega (arith, none, some)))
        (cases_lt 0 answers)

    -- it is kept
    pub kept_settled : IsKept settled_books after.left own room
    kept_settled =
        let p = λ (one : OwnTest). is_open (with_lines books.pair lines) one.cand in
        record {
          sound = record {
            normal_form = kept.sound.normal_form;
            some_worker = kept.sound.some_worker;
            few_workers = kept.sound.few_workers;
            encloses = fitting.encloses;
            answered = answered;
            unanswerable = kept.sound.unanswerable;
            coherence = kept.sound.coherence;
            own = subst (All (IsOwn books.normal books.mode books.budget (length books.workers)))
                (sym own_is)
                (All-filter p (IsOwn books.normal books.mode books.budget (length books.workers))
                books.own kept.sound.own);
            distinct = subst AreDistinct (sym own_is)
                (AllPairs-filter (λ (earlier later : OwnTest). earlier.cand ≢ later.cand) p books.own
                kept.sound.distinct);
            apart = subst (AreEachApart books.normal) (sym own_is)
                (AllPairs-filter (λ (earlier later : OwnTest). earlier.test.by ≡ later.test.by
                → AreApart books.normal earlier.test later.test) p books.own
                kept.sound.apart);
            strategy = kept.sound.strategy;
            jobs = kept.sound.jobs;
          };
          fits = fits;
          count = fitting.count;
          left_is = fitting.left_is;
          numbered = kept.numbered;
          distinct = kept.distinct;
          empty = kept.empty;
          none = kept.none;
          has_room = kept.has_room;
        }
