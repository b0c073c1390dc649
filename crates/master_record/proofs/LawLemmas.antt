-- What a record tells at the opening, after jobs, and with its sizes.
use Rattle.std.proofs.Common.{◌≡◌, ◌≤◌, ◌<◌, ◌+◌, ◌-◌, ℕ, zero, suc, Bool, true, false, cond, not}
use Rattle.std.proofs.Common.{List, []}
use Rattle.std.proofs.Common.{◌∷◌, ◌++◌, length, get_or, replicate, refl, sym, ap, subst, ◌∙◌}
use Rattle.std.proofs.Common.{arith}
use Rattle.std.proofs.Common.{true≢false, ◌&&◌, inl, inr}
use Rattle.std.specs.Prelude.{All, Any, count_by}
use Rattle.std.specs.List.{filter_map}
use Rattle.std.proofs.lemmas.List.{get_or-replicate}
use Rattle.std.proofs.lemmas.List.Sums.{sum_by_push, sum_by-cons}
use Rattle.std.proofs.lemmas.List.Elements.{filter_map-append, All-append, All-push}
use Rattle.ground_program.specs.declared.pair.Pair.{Pair}
use Rattle.ground_program.specs.declared.program.Named.{Named}
use Rattle.ground_program.specs.Bounds.{IsCandidate}
use Rattle.report.specs.declared.lines.Line.{Line}
use Rattle.report.specs.declared.lines.Line.TheVariants.{Sizes}
use Rattle.report.specs.Legal.{is_answer, is_in, is_out, IsSettled, Settles, all_sizes, sizes_in}
use Rattle.report.specs.Legal.{IsInside, Extent, IsShownBy, GivesShown}
use Rattle.report.proofs.LegalLemmas.{Any-before, Any-last, so_far_then, so_far_none}
use Rattle.master_record.specs.Course.{is_open, is_open_at}
use Rattle.master_record.specs.Books.{Books}
use Rattle.master_record.specs.Jobs.{HasGiven}
use Rattle.master_record.specs.Told.{IsToldBy, IsResized, sizes_of}
use Rattle.master_record.specs.Laws.{BeginsWithNoLine, JobsTellNothing, SizesAreTold, MergesAreTold}
use Rattle.master_record.specs.Laws.{TakenPairsAreTold}
use Rattle.master_record.specs.Course.{with_lines}
use Rattle.master_record.specs.Merging.{IsTrueLine, proved_list}
use Rattle.master_record.specs.Sound.{IsSound}
use Rattle.master_record.proofs.TellLemmas.{Part}
use Rattle.master_record.proofs.MergeLemmas.{part_answers}
use Rattle.master_record.proofs.TrueLemmas.{GivesSet, give_sets, true_settled}
use Rattle.master_record.proofs.ProvedLemmas.{all_proved}
use Rattle.master_record.proofs.ToldLemmas.{told_then}

-- how many of the same truth values are true
count_none : (n : ℕ) → count_by (λ (bit : Bool). bit) (replicate n false) ≡ 0
count_none zero = refl
count_none (suc n) =
    omega (arith, sum_by-cons (λ (bit : Bool). cond bit 1 0) false (replicate n false), count_none n)

count_all : (n : ℕ) → count_by (λ (bit : Bool). bit) (replicate n true) ≡ n
count_all zero = refl
count_all (suc n) =
    omega (arith, sum_by-cons (λ (bit : Bool). cond bit 1 0) true (replicate n true), count_all n)

pub begins : BeginsWithNoLine
begins normal mode strategy workers budget = record {
  legal = record { each = λ program watch form. so_far_none program mode watch };
  answers = refl;
  lower = count_none (length normal.names);
  upper = omega (arith, count_all (length normal.names));
  settled = λ cand candidate. (
    λ (k, line, within, is, settles). absurd (omega arith),
    λ closed.
        let first : 1 ≤ cand = candidate.first in
        let last : cand ≤ length normal.names = candidate.last in
        let within : cand - 1 < length normal.names = omega arith in
        absurd (true≢false
        (ap (λ b. not b && true) (sym (get_or-replicate (length normal.names) (cand - 1) false false
        within))
        ∙ ap (λ b. not (get_or (replicate (length normal.names) false) (cand - 1) false) && b)
        (sym (get_or-replicate (length normal.names) (cand - 1) true false within))
        ∙ closed)),
  );
  shown = λ cand by candidate (k, line, within, is, gives). absurd (omega arith);
  sized = λ k d within. absurd (omega arith);
}

pub jobs_told : JobsTellNothing
jobs_told lines old new jobs told given =
    subst (IsToldBy lines) (sym given.after)
    (record {
      legal = told.legal;
      answers = told.answers;
      lower = told.lower;
      upper = told.upper;
      settled = told.settled;
      shown = told.shown;
      sized = told.sized;
    })

-- a PAIR line goes behind
pub sizes_told : SizesAreTold
sizes_told lines books told resized =
    let sizes : Extent = sizes_of books.pair in
    let line : Line = Sizes sizes.lower sizes.upper in
    record {
      legal = record {
        each = λ program watch form.
            let same : length books.normal.names ≡ length program.names =
            ap (λ (names : List Named). length names) form.names in
            so_far_then program books.mode watch lines line (told.legal.each program watch form)
            (record {
              lower = told.lower;
              upper = omega (arith, told.upper, same);
              shown = λ cand by candidate shown.
                  let known : IsCandidate books.normal.names cand =
                  subst (λ (names : List Named). IsCandidate names cand) (sym form.names) candidate in
                  (told.settled cand known).1
                  (told.shown cand by known
                  (subst (λ (names : List Named). IsShownBy names books.mode lines cand by)
                  (sym form.names) shown));
              news = resized;
            });
      };
      answers = omega (arith, told.answers, sum_by_push (λ one. cond (is_answer one) 1 0) lines line);
      lower = omega (arith, told.lower, sum_by_push (λ one. cond (is_in one) 1 0) lines line);
      upper = omega (arith, told.upper, sum_by_push (λ one. cond (is_out one) 1 0) lines line);
      settled = λ cand candidate. (
        λ done. (told.settled cand candidate).0 (earlier_settled cand done),
        λ closed. Any-before (Settles cand) lines (line ∷ []) ((told.settled cand candidate).1 closed),
      );
      shown = λ cand by candidate shown. told.shown cand by candidate (earlier_shown cand by shown);
      sized = subst (All (IsInside sizes)) (sym (filter_map-append sizes_in lines (line ∷ [])))
          (All-push (IsInside sizes) (all_sizes lines) sizes told.sized
          (record { lower = omega arith; upper = omega arith }));
    }
  where
    earlier_settled : (cand : ℕ)
        → IsSettled (lines ++ Sizes (sizes_of books.pair).lower (sizes_of books.pair).upper ∷ []) cand
        → IsSettled lines cand
    earlier_settled cand done =
        elim (Any-last (Settles cand) lines
        (Sizes (sizes_of books.pair).lower (sizes_of books.pair).upper) done) [
          | inl earlier ↦ earlier
          | inr never ↦ absurd never
        ]

    earlier_shown : (cand by : ℕ)
        → IsShownBy books.normal.names books.mode
        (lines ++ Sizes (sizes_of books.pair).lower (sizes_of books.pair).upper ∷ []) cand by
        → IsShownBy books.normal.names books.mode lines cand by
    earlier_shown cand by shown =
        elim (Any-last (GivesShown books.normal.names books.mode cand by) lines
        (Sizes (sizes_of books.pair).lower (sizes_of books.pair).upper) shown) [
          | inl earlier ↦ earlier
          | inr never ↦ absurd never
        ]

-- what the record knows of the lines, without what their answer sets show
part_of : (lines : List Line) (books : Books) → IsSound books → IsToldBy lines books
    → Part books.normal books.mode books.answers books.pair lines
part_of lines books sound told = record {
  legal = told.legal;
  answers_are = told.answers;
  lower = told.lower;
  upper = told.upper;
  settled = told.settled;
  sized = told.sized;
  over = sound.encloses.over;
}

pub merges_told : MergesAreTold
merges_told lines more old new worker gain sound gained told merge =
    let gives : All (GivesSet old.normal) merge.answers =
    give_sets old.normal old.mode old.pair old.answers gain.sets merge.answers gained.sets
    merge.given in
    let part : Part old.normal old.mode (old.answers + length merge.answers) old.pair
    (lines ++ merge.answers) =
    part_answers old.normal old.mode old.pair gain.sets old.answers merge.answers lines
    (part_of lines old sound told) gained.sets merge.given in
    let holds : All (IsTrueLine old.normal old.mode) merge.settled =
    true_settled old.normal old.mode old.pair merge.answers gain.proved merge.settled gives
    gained.proved merge.gained.each in
    let base : IsToldBy (lines ++ more)
    (record old { answers = old.answers + length merge.answers; pair = with_lines old.pair more }) =
    subst (λ (xs : List Line). IsToldBy (lines ++ xs)
    (record old { answers = old.answers + length merge.answers; pair = with_lines old.pair xs }))
    (sym merge.parts)
    (told_then lines merge.answers merge.settled old gain.proved told gives holds merge.gained part)
    in
    subst (IsToldBy (lines ++ more)) (sym merge.after)
    (record {
      legal = base.legal;
      answers = base.answers;
      lower = base.lower;
      upper = base.upper;
      settled = base.settled;
      shown = base.shown;
      sized = base.sized;
    })

pub takes_told : TakenPairsAreTold
takes_told lines more old new pair sound encloses told taken =
    let gives : All (GivesSet old.normal) [] = λ k d within. absurd (omega arith) in
    let part : Part old.normal old.mode (old.answers + 0) old.pair (lines ++ []) =
    part_answers old.normal old.mode old.pair [] old.answers [] lines
    (part_of lines old sound told) (λ k d within. absurd (omega arith)) refl in
    let holds : All (IsTrueLine old.normal old.mode) more =
    true_settled old.normal old.mode old.pair [] (proved_list old pair) more gives
    (all_proved old pair encloses) taken.gained.each in
    let base : IsToldBy (lines ++ more)
    (record old { answers = old.answers + 0; pair = with_lines old.pair more }) =
    told_then lines [] more old (proved_list old pair) told gives holds taken.gained part in
    subst (IsToldBy (lines ++ more)) (sym taken.after)
    (record {
      legal = base.legal;
      answers = base.answers;
      lower = base.lower;
      upper = base.upper;
      settled = base.settled;
      shown = base.shown;
      sized = base.sized;
    })
