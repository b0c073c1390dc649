-- The lines of a record may begin a report.
use Rattle.std.proofs.Common.{◌≡◌, ◌≢◌, ◌≤◌, ◌<◌, ◌+◌, ◌-◌, ◌⊎◌, ℕ, Bool, true, false, cond, List}
use Rattle.std.proofs.Common.{[]}
use Rattle.std.proofs.Common.{◌∷◌, ◌++◌, length, get_or, set, refl, sym, ap, subst, ◌∙◌, ⊎_elim}
use Rattle.std.proofs.Common.{arith}
use Rattle.std.proofs.Common.{inl, inr, length-set, true≢false, append-nil, not, ◌&&◌, append_assoc}
use Rattle.std.specs.Prelude.{All, Any, count_by, ◌↔◌}
use Rattle.std.specs.List.{filter_map}
use Rattle.std.proofs.lemmas.List.{get_or-set_same, get_or-set_other}
use Rattle.std.proofs.lemmas.List.Sums.{sum_by_push, sum_by-set}
use Rattle.std.proofs.lemmas.List.Elements.{filter_map-append, All-append, All-push}
use Rattle.std.proofs.lemmas.List.Quantifiers.{Any-push}
use Rattle.std.proofs.lemmas.Bool.{cases_eq}
use Rattle.ground_program.specs.declared.pair.Pair.{Pair}
use Rattle.ground_program.specs.declared.program.Mode.{Mode}
use Rattle.ground_program.specs.declared.program.Named.{Named}
use Rattle.ground_program.specs.declared.program.Program.{Program}
use Rattle.ground_program.specs.Bounds.{IsCandidate, IsPairOver, Shows}
use Rattle.normal_program.specs.declared.normal.Normal.{Normal}
use Rattle.normal_program.specs.Normal.{IsAnswerSetN, IsNormalFormOf}
use Rattle.normal_program.proofs.NormalLemmas.{SameAnswerSets-normal_form}
use Rattle.report.specs.declared.lines.Line.{Line}
use Rattle.report.specs.declared.lines.Line.TheVariants.{Answer, SettledIn, SettledOut, Sizes}
use Rattle.report.specs.Legal.{is_answer, is_in, is_out, IsSettled, Settles, all_sizes, sizes_in}
use Rattle.report.specs.Legal.{IsInside, Extent, IsLegalLine, last_of}
use Rattle.report.proofs.LegalLemmas.{Any-before, Any-last, so_far_then, so_far_none}
use Rattle.master_record.specs.Course.{IsOpenIn, is_open, is_open_at, with_line}
use Rattle.master_record.specs.Settling.{IsNews, ShowsOpenIn}
use Rattle.master_record.specs.Told.{AreLegalN, sizes_of}
use Rattle.master_record.proofs.CourseLemmas.{was_open, not_so, and_left, not_true, and_right}
use Rattle.master_record.proofs.CourseLemmas.{and_both}
use Rattle.master_record.proofs.CourseLemmas.{true_not}

-- what a truth value adds to a count
abbrev counted : Bool → ℕ
counted b = cond b 1 0

module _ (normal : Normal) (mode : Mode) where
  -- what is known of lines, but for what their answer sets show
  pub record Part (answers : ℕ) (pair : Pair) (lines : List Line) : Type 0 where
    pub legal : AreLegalN normal mode lines
    pub answers_are : answers ≡ count_by is_answer lines
    pub lower : count_by (λ bit. bit) pair.lower ≡ count_by is_in lines
    pub upper : count_by (λ bit. bit) pair.upper + count_by is_out lines ≡ length normal.names
    pub settled : (cand : ℕ) → IsCandidate normal.names cand
        → IsSettled lines cand ↔ (is_open pair cand ≡ false)
    pub sized : All (IsInside (sizes_of pair)) (all_sizes lines)
    pub over : IsPairOver (length normal.names) pair

  -- an unsettled candidate is unsettled
  pub open_is : (pair : Pair) (cand : ℕ) → IsOpenIn normal.names pair cand
      → is_open pair cand ≡ true
  open_is pair cand unsettled =
      and_both (not (get_or pair.lower (cand - 1) false)) (get_or pair.upper (cand - 1) false)
      (true_not (get_or pair.lower (cand - 1) false)
      (not_so (get_or pair.lower (cand - 1) false) unsettled.unproved))
      unsettled.possible

  -- a line adds to a count what it is
  counts : (is : Line → Bool) (lines : List Line) (line : Line)
      → count_by is (lines ++ line ∷ []) ≡ count_by is lines + cond (is line) 1 0
  counts is lines line = sum_by_push (λ one. cond (is one) 1 0) lines line

  -- a line without sizes adds none
  same_sizes : (lines : List Line) (line : Line) → all_sizes (line ∷ []) ≡ []
      → all_sizes (lines ++ line ∷ []) ≡ all_sizes lines
  same_sizes lines line none =
      filter_map-append sizes_in lines (line ∷ [])
      ∙ ap (λ (xs : List Extent). all_sizes lines ++ xs) none
      ∙ append-nil (all_sizes lines)

  -- a line that settles nothing settles nothing more
  same_settled : (lines : List Line) (line : Line) (cand : ℕ) → ¬ Settles cand line
      → IsSettled (lines ++ line ∷ []) cand → IsSettled lines cand
  same_settled lines line cand none settled =
      ⊎_elim (λ earlier. earlier) (λ now. absurd (none now))
      (Any-last (Settles cand) lines line settled)

  -- the program's names are those of the normal form
  names_of : (program : Program) → IsNormalFormOf normal program → normal.names ≡ program.names
  names_of program form = form.names

  module _ (answers : ℕ) (pair : Pair) (lines : List Line) (part : Part answers pair lines) where
    -- an answer set that is news goes behind
    pub part_answer : (members : List Bool) → IsAnswerSetN normal members
        → IsNews normal.names mode pair answers members
        → Part (answers + 1) pair (lines ++ Answer (answers + 1) members ∷ [])
    part_answer members answer news = record {
      legal = record {
        each = λ program watch form.
            so_far_then program mode watch lines (Answer (answers + 1) members)
            (part.legal.each program watch form)
            (record {
              counted = ap (λ n. n + 1) part.answers_are;
              answer_set = (SameAnswerSets-normal_form normal program form members).0 answer;
              news =
                  ⊎_elim
                  (λ none. inl (sym part.answers_are ∙ none))
                  (λ (shows : ShowsOpenIn normal.names mode pair members). inr (record {
                    cand = shows.cand;
                    unsettled = record {
                      candidate = subst (λ (names : List Named). IsCandidate names shows.cand)
                          form.names shows.unsettled.candidate;
                      unsettled = λ done. true≢false
                          (sym (open_is pair shows.cand shows.unsettled)
                          ∙ (part.settled shows.cand shows.unsettled.candidate).0 done);
                    };
                    shown = subst (λ (names : List Named). Shows names mode members shows.cand)
                        form.names shows.shown;
                  }))
                  news;
            });
      };
      answers_are = omega (
        arith,
        part.answers_are,
        counts is_answer lines (Answer (answers + 1) members),
      );
      lower = omega (arith, part.lower, counts is_in lines (Answer (answers + 1) members));
      upper = omega (arith, part.upper, counts is_out lines (Answer (answers + 1) members));
      settled = λ cand candidate. (
        λ done. (part.settled cand candidate).0
            (same_settled lines (Answer (answers + 1) members) cand (λ never. never) done),
        λ closed. Any-before (Settles cand) lines (Answer (answers + 1) members ∷ [])
            ((part.settled cand candidate).1 closed),
      );
      sized = subst (All (IsInside (sizes_of pair)))
          (sym (same_sizes lines (Answer (answers + 1) members) refl)) part.sized;
      over = part.over;
    }

    -- the line of an unsettled candidate goes behind
    module _ (cand by : ℕ) (unsettled : IsOpenIn normal.names pair cand) where
      last : cand - 1 < length normal.names
      last = let low : 1 ≤ cand = unsettled.candidate.first in
          let high : cand ≤ length normal.names = unsettled.candidate.last in omega arith

      more_in : count_by (λ bit. bit) (set pair.lower (cand - 1) true)
          ≡ count_by (λ bit. bit) pair.lower + 1
      more_in =
          let none : get_or pair.lower (cand - 1) false ≡ false =
          not_so (get_or pair.lower (cand - 1) false) unsettled.unproved in
          let was : counted (get_or pair.lower (cand - 1) false) ≡ 0 =
          ap counted none in
          omega (
            arith,
            was,
            sum_by-set counted pair.lower (cand - 1) true false
                (subst (λ n. cand - 1 < n) (sym part.over.lower) last),
          )

      less_out : count_by (λ bit. bit) (set pair.upper (cand - 1) false) + 1
          ≡ count_by (λ bit. bit) pair.upper
      less_out =
          let was : counted (get_or pair.upper (cand - 1) false) ≡ 1 =
          ap counted unsettled.possible in
          omega (
            arith,
            was,
            sum_by-set counted pair.upper (cand - 1) false false
                (subst (λ n. cand - 1 < n) (sym part.over.upper) last),
          )

      -- what is settled after a line of the candidate
      settled_then : (line : Line) → Settles cand line
          → ((other : ℕ) → Settles other line → cand ≡ other)
          → is_open (with_line pair line) cand ≡ false
          → ((place : ℕ) → place ≢ cand - 1
          → is_open_at (with_line pair line) place ≡ is_open_at pair place)
          → (other : ℕ) → IsCandidate normal.names other
          → IsSettled (lines ++ line ∷ []) other ↔ (is_open (with_line pair line) other ≡ false)
      settled_then line here only closed same other candidate = (
        λ done.
            ⊎_elim
            (λ earlier. not_so (is_open (with_line pair line) other)
            (λ open_now. true≢false (sym (was_open pair line (other - 1) open_now)
            ∙ (part.settled other candidate).0 earlier)))
            (λ now. subst (λ n. is_open (with_line pair line) n ≡ false) (only other now) closed)
            (Any-last (Settles other) lines line done),
        λ shut.
            ⊎_elim
            (λ equal.
            let one : 1 ≤ other = candidate.first in
            let two : 1 ≤ cand = unsettled.candidate.first in
            let is : cand ≡ other = omega arith in
            subst (λ n. IsSettled (lines ++ line ∷ []) n) is (Any-push (Settles cand) lines line here))
            (λ differ. Any-before (Settles other) lines (line ∷ [])
            ((part.settled other candidate).1 (sym (same (other - 1) differ) ∙ shut)))
            (cases_eq (other - 1) (cand - 1)),
      )

      pub part_in : ((program : Program) (watch : ℕ) → IsNormalFormOf normal program
          → IsLegalLine program mode watch lines (SettledIn cand by))
          → Part answers (with_line pair (SettledIn cand by)) (lines ++ SettledIn cand by ∷ [])
      part_in legal = record {
        legal = record {
          each = λ program watch form.
              so_far_then program mode watch lines (SettledIn cand by)
              (part.legal.each program watch form) (legal program watch form);
        };
        answers_are = omega (arith, part.answers_are, counts is_answer lines (SettledIn cand by));
        lower = omega (arith, part.lower, more_in, counts is_in lines (SettledIn cand by));
        upper = omega (arith, part.upper, counts is_out lines (SettledIn cand by));
        settled = settled_then (SettledIn cand by) refl (λ other is. is)
            (ap (λ b. not b && get_or pair.upper (cand - 1) false)
            (get_or-set_same pair.lower (cand - 1) true false
            (subst (λ n. cand - 1 < n) (sym part.over.lower) last)))
            (λ place differ. ap (λ b. not b && get_or pair.upper place false)
            (get_or-set_other pair.lower (cand - 1) place true false differ));
        sized = subst (All (IsInside (sizes_of (with_line pair (SettledIn cand by)))))
            (sym (same_sizes lines (SettledIn cand by) refl))
            (λ k d within. let was = part.sized k d within in
            record { lower = omega (arith, more_in, was.lower); upper = was.upper });
        over = record {
          lower = length-set pair.lower (cand - 1) true ∙ part.over.lower;
          upper = part.over.upper;
        };
      }

      and_none : (a : Bool) → (a && false) ≡ false
      and_none true = refl
      and_none false = refl

      pub part_out : ((program : Program) (watch : ℕ) → IsNormalFormOf normal program
          → IsLegalLine program mode watch lines (SettledOut cand by))
          → Part answers (with_line pair (SettledOut cand by)) (lines ++ SettledOut cand by ∷ [])
      part_out legal = record {
        legal = record {
          each = λ program watch form.
              so_far_then program mode watch lines (SettledOut cand by)
              (part.legal.each program watch form) (legal program watch form);
        };
        answers_are = omega (arith, part.answers_are, counts is_answer lines (SettledOut cand by));
        lower = omega (arith, part.lower, counts is_in lines (SettledOut cand by));
        upper = omega (arith, part.upper, less_out, counts is_out lines (SettledOut cand by));
        settled = settled_then (SettledOut cand by) refl (λ other is. is)
            (ap (λ b. not (get_or pair.lower (cand - 1) false) && b)
            (get_or-set_same pair.upper (cand - 1) false false
            (subst (λ n. cand - 1 < n) (sym part.over.upper) last))
            ∙ and_none (not (get_or pair.lower (cand - 1) false)))
            (λ place differ. ap (λ b. not (get_or pair.lower place false) && b)
            (get_or-set_other pair.upper (cand - 1) place false false differ));
        sized = subst (All (IsInside (sizes_of (with_line pair (SettledOut cand by)))))
            (sym (same_sizes lines (SettledOut cand by) refl))
            (λ k d within. let was = part.sized k d within in
            record { lower = was.lower; upper = omega (arith, less_out, was.upper) });
        over = record {
          lower = part.over.lower;
          upper = length-set pair.upper (cand - 1) false ∙ part.over.upper;
        };
      }
