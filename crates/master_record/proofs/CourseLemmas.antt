-- What lines do to the pair, and to what is left.
use Rattle.std.proofs.Common.{◌≡◌, ◌≢◌, ◌≤◌, ◌<◌, ◌+◌, ◌-◌, ◌&&◌, ℕ, Bool, true, false, not, List}
use Rattle.std.proofs.Common.{[]}
use Rattle.std.proofs.Common.{◌∷◌, length, get_or, set, refl, sym, ap, subst, ◌∙◌, ⊎_elim, arith}
use Rattle.std.proofs.Common.{fold}
use Rattle.std.proofs.Common.{length-set, true≢false, cond}
use Rattle.std.specs.Prelude.{All, Any, filter, ◌↔◌}
use Rattle.std.proofs.lemmas.List.{get_or-set_same, get_or-set_other, get_or_past}
use Rattle.std.proofs.lemmas.Bool.{cases_eq, cases_lt}
use Rattle.ground_program.specs.declared.pair.Pair.{Pair}
use Rattle.report.specs.declared.lines.Line.{Line}
use Rattle.report.specs.declared.lines.Line.TheVariants.{Answer, SettledIn, SettledOut, Sizes}
use Rattle.report.specs.declared.lines.Line.TheVariants.{Watch, Unsettled, Unknown, Complete}
use Rattle.report.specs.declared.lines.Line.TheVariants.{Partial, Incoherent, NoMemory, Refused}
use Rattle.master_record.specs.Course.{Course, is_open_at, is_left_at, with_line, with_lines}
use Rattle.master_record.specs.Course.{left_after, course_after, IsLineOver}

-- both of two truth values
pub and_left : (a b : Bool) → (a && b) ≡ true → a ≡ true
and_left true b both = refl
and_left false b both = both

pub and_right : (a b : Bool) → (a && b) ≡ true → b ≡ true
and_right true b both = both
and_right false b both = absurd (true≢false (sym both))

pub and_both : (a b : Bool) → a ≡ true → b ≡ true → (a && b) ≡ true
and_both true b one other = other
and_both false b one other = absurd (true≢false (sym one))

pub not_true : (a : Bool) → not a ≡ true → a ≡ false
not_true true h = absurd (true≢false (sym h))
not_true false h = refl

pub true_not : (a : Bool) → a ≡ false → not a ≡ true
true_not true h = absurd (true≢false h)
true_not false h = refl

-- what isn't true is false
pub not_so : (a : Bool) → ¬ (a ≡ true) → a ≡ false
not_so true h = absurd (h refl)
not_so false h = refl

-- a place that becomes true
pub stays_true : (xs : List Bool) (at place : ℕ) → get_or xs place false ≡ true
    → get_or (set xs at true) place false ≡ true
stays_true xs at place has =
    ⊎_elim
    (λ same. ⊎_elim
    (λ within. subst (λ n. get_or (set xs at true) n false ≡ true) (sym same)
    (get_or-set_same xs at true false (subst (λ n. n < length xs) same within)))
    (λ past. absurd (true≢false (sym has ∙ get_or_past xs place false past)))
    (cases_lt place (length xs)))
    (λ other. get_or-set_other xs at place true false other ∙ has)
    (cases_eq place at)

-- a place that becomes false was what it is, where it is true
pub was_true : (xs : List Bool) (at place : ℕ) → get_or (set xs at false) place false ≡ true
    → get_or xs place false ≡ true
was_true xs at place has =
    ⊎_elim
    (λ same. absurd (⊎_elim
    (λ within. true≢false (sym has
    ∙ subst (λ n. get_or (set xs at false) n false ≡ false) (sym same)
    (get_or-set_same xs at false false (subst (λ n. n < length xs) same within))))
    (λ past. true≢false (sym has ∙ get_or_past (set xs at false) place false
    (subst (λ n. n ≤ place) (sym (length-set xs at false)) past)))
    (cases_lt place (length xs))))
    (λ other. sym (get_or-set_other xs at place false false other) ∙ has)
    (cases_eq place at)

-- a candidate that is unsettled after a line was unsettled before it
pub was_open : (pair : Pair) (line : Line) (place : ℕ)
    → is_open_at (with_line pair line) place ≡ true → is_open_at pair place ≡ true
was_open pair (SettledIn cand by) place is =
    let low : Bool = get_or pair.lower place false in
    let now : Bool = get_or (set pair.lower (cand - 1) true) place false in
    let up : Bool = get_or pair.upper place false in
    and_both (not low) up
    (true_not low (not_so low (λ has. true≢false
    (sym (stays_true pair.lower (cand - 1) place has)
    ∙ not_true now (and_left (not now) up is)))))
    (and_right (not now) up is)
was_open pair (SettledOut cand by) place is =
    let low : Bool = get_or pair.lower place false in
    let now : Bool = get_or (set pair.upper (cand - 1) false) place false in
    let up : Bool = get_or pair.upper place false in
    and_both (not low) up (and_left (not low) now is)
    (was_true pair.upper (cand - 1) place (and_right (not low) now is))
was_open pair _ place is = is

-- and after lines
pub was_open_all : (pair : Pair) (lines : List Line) (place : ℕ)
    → is_open_at (with_lines pair lines) place ≡ true → is_open_at pair place ≡ true
was_open_all pair [] place is = is
was_open_all pair (line ∷ lines) place is =
    was_open pair line place (was_open_all (with_line pair line) lines place is)

-- the two parts of what lines make
pub pair_of_fold : (course : Course) (lines : List Line)
    → (fold course_after course lines).pair ≡ with_lines course.pair lines
pair_of_fold course [] = refl
pair_of_fold course (line ∷ lines) = pair_of_fold (course_after course line) lines

-- a list that was filtered by a weaker test before
pub filter_again : {X : Type 0} (p q : X → Bool) → ((x : X) → q x ≡ true → p x ≡ true)
    → (xs : List X) → filter q (filter p xs) ≡ filter q xs
filter_again p q weaker [] = refl
filter_again {X = X} p q weaker (x ∷ xs) = by_p (p x) refl (filter_again p q weaker xs)
  where
    by_q : (b : Bool) → q x ≡ b → p x ≡ false → filter q (filter p xs) ≡ filter q xs
        → filter q (filter p (x ∷ xs)) ≡ filter q (x ∷ xs)
    by_q true is none rest = absurd (true≢false (sym (weaker x is) ∙ none))
    by_q false is none rest = rw (none, is) rest

    both : (b : Bool) → filter q (filter p xs) ≡ filter q xs
        → cond b (x ∷ filter q (filter p xs)) (filter q (filter p xs))
        ≡ cond b (x ∷ filter q xs) (filter q xs)
    both b rest = ap (λ (ys : List X). cond b (x ∷ ys) ys) rest

    by_p : (b : Bool) → p x ≡ b → filter q (filter p xs) ≡ filter q xs
        → filter q (filter p (x ∷ xs)) ≡ filter q (x ∷ xs)
    by_p true is rest = rw is (both (q x) rest)
    by_p false is rest = by_q (q x) refl is rest
