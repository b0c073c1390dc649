-- The candidates that a pair has on the proved side are proved.
use Rattle.std.proofs.Common.{◌≡◌, ◌≤◌, ◌<◌, ◌+◌, ◌-◌, ℕ, Bool, true, false, not, List, length}
use Rattle.std.proofs.Common.{get_or}
use Rattle.std.proofs.Common.{refl, sym, subst, ◌∙◌, arith, true≢false}
use Rattle.std.specs.Prelude.{All, filter}
use Rattle.std.specs.List.{range_with_len}
use Rattle.std.proofs.lemmas.List.Elements.{All-filter, filter_passes}
use Rattle.std.proofs.lemmas.List.FromFn.{get_or-range_with_len, length-range_with_len}
use Rattle.ground_program.specs.declared.pair.Pair.{Pair}
use Rattle.ground_program.specs.declared.program.Mode.{Mode}
use Rattle.ground_program.specs.declared.program.Mode.TheVariants.{Cautious, Brave}
use Rattle.ground_program.specs.declared.program.Named.{Named}
use Rattle.ground_program.specs.Bounds.{IsCandidate}
use Rattle.normal_program.specs.declared.normal.Normal.{Normal}
use Rattle.anytime_core.specs.Truth.{EnclosesN}
use Rattle.worker_jobs.specs.Gain.{IsProved, IsProvedCandidate}
use Rattle.master_record.specs.Course.{is_open}
use Rattle.master_record.specs.Books.{Books, open_list}
use Rattle.master_record.specs.Merging.{is_proved_in, proved_list}
use Rattle.master_record.proofs.CourseLemmas.{not_true}

-- each number of the range is a candidate
pub all_candidates : (names : List Named) → All (IsCandidate names) (range_with_len 1 (length names))
all_candidates names = λ k d within.
    let less : k < length names =
    subst (λ n. k < n) (length-range_with_len 1 (length names)) within in
    subst (IsCandidate names) (sym (get_or-range_with_len 1 (length names) k d less))
    (record { first = omega arith; last = omega arith })

pub open_candidates_are : (books : Books) → All (IsCandidate books.normal.names) (open_list books)
open_candidates_are books =
    All-filter (is_open books.pair) (IsCandidate books.normal.names)
    (range_with_len 1 (length books.normal.names)) (all_candidates books.normal.names)

pub proved_from : (normal : Normal) (mode : Mode) (pair : Pair) (cand : ℕ)
    → EnclosesN normal mode pair → IsCandidate normal.names cand
    → is_proved_in mode pair cand ≡ true → IsProved normal mode cand
proved_from normal Cautious pair cand encloses candidate is = encloses.lower cand candidate is
proved_from normal Brave pair cand encloses candidate is = λ holds.
    true≢false (sym (encloses.upper cand candidate holds)
    ∙ not_true (get_or pair.upper (cand - 1) false) is)

pub all_proved : (books : Books) (pair : Pair) → EnclosesN books.normal books.mode pair
    → All (IsProvedCandidate books.normal books.mode) (proved_list books pair)
all_proved books pair encloses = λ k d within.
    let candidate : IsCandidate books.normal.names (get_or (proved_list books pair) k d) =
    All-filter (is_proved_in books.mode pair) (IsCandidate books.normal.names) (open_list books)
    (open_candidates_are books) k d within in
    record {
      candidate = candidate;
      proved = proved_from books.normal books.mode pair (get_or (proved_list books pair) k d) encloses
          candidate
          (filter_passes (is_proved_in books.mode pair) (open_list books) k d within);
    }
