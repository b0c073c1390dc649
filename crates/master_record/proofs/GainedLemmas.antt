-- The lines that a gain settles.
use Rattle.std.proofs.Common.{◌≡◌, ◌≤◌, ◌<◌, ◌+◌, ◌-◌, ℕ, List, [], ◌∷◌, length, get_or}
use Rattle.std.proofs.Common.{refl, sym, subst, ⊎_elim, inl, inr, arith}
use Rattle.std.specs.Prelude.{All, Contains, IsPermutation}
use Rattle.std.specs.List.{range_with_len}
use Rattle.std.specs.List.Sorted.{IsNonDecreasing}
use Rattle.std.proofs.lemmas.List.Elements.{All-filter}
use Rattle.std.proofs.lemmas.List.Sorted.{IsPermutation-sym, Contains-permutation}
use Rattle.std.proofs.lemmas.List.Kept.{IsNonDecreasingBy-filter}
use Rattle.std.proofs.lemmas.List.FromFn.{get_or-range_with_len, length-range_with_len}
use Rattle.ground_program.specs.declared.program.Named.{Named}
use Rattle.ground_program.specs.declared.program.Mode.{Mode}
use Rattle.ground_program.specs.declared.pair.Pair.{Pair}
use Rattle.ground_program.specs.Bounds.{IsCandidate}
use Rattle.report.specs.declared.lines.Line.{Line}
use Rattle.master_record.specs.Course.{IsOpenIn, is_open}
use Rattle.master_record.specs.Settling.{IsGainedLine, IsDue, AreSettled, AreSettledAmong, cand_of}
use Rattle.master_record.specs.Settling.{IsShownLine, IsProvedLine, IsShownIn}
use Rattle.master_record.specs.Books.{Books, open_list}
use Rattle.master_record.specs.Merging.{is_proved_in, proved_list}
use Rattle.master_record.proofs.FoundLemmas.{is_open_of}
use Rattle.master_record.proofs.OwnLemmas.{has_filtered}
use Rattle.master_record.proofs.ProvedLemmas.{open_candidates_are}

-- a list of no length has nothing
pub nothing_in : {X : Type 0} (xs : List X) → length xs ≡ 0 → xs ≡ []
nothing_in [] none = refl
nothing_in (x ∷ xs) none = absurd (omega (arith, none))

-- proved candidates in another order
module _ (names : List Named) (mode : Mode) (pair : Pair) (answers : List Line) (xs ys : List ℕ)
    (same : IsPermutation xs ys) where
  gained_permuted : (line : Line) → IsGainedLine names mode pair answers ys line
      → IsGainedLine names mode pair answers xs line
  gained_permuted line gained = record {
    unsettled = gained.unsettled;
    told = ⊎_elim
        (λ (shown : IsShownLine names mode answers (cand_of line) line). inl shown)
        (λ (told : IsProvedLine mode ys (cand_of line) line). inr (record {
          has = Contains-permutation ys xs (cand_of line) (IsPermutation-sym xs ys same) told.has;
          line_is = told.line_is;
        }))
        gained.told;
  }

  due_permuted : (cand : ℕ) → IsDue names mode pair answers xs cand
      → IsDue names mode pair answers ys cand
  due_permuted cand due = record {
    unsettled = due.unsettled;
    gained = ⊎_elim (λ (shown : IsShownIn names mode answers cand). inl shown)
        (λ (has : Contains xs cand). inr (Contains-permutation xs ys cand same has))
        due.gained;
  }

  pub settled_permuted : (lines : List Line) → AreSettled names mode pair answers ys lines
      → AreSettled names mode pair answers xs lines
  settled_permuted lines settled = record {
    ascending = settled.ascending;
    each = λ k d within. gained_permuted (get_or lines k d) (settled.each k d within);
    all = λ cand due. settled.all cand (due_permuted cand due);
  }

-- an unsettled candidate is in the list of them
open_in_list : (books : Books) (cand : ℕ) → IsOpenIn books.normal.names books.pair cand
    → Contains (open_list books) cand
open_in_list books cand unsettled =
    let first : 1 ≤ cand = unsettled.candidate.first in
    let last : cand ≤ length books.normal.names = unsettled.candidate.last in
    let less : cand - 1 < length books.normal.names = omega arith in
    let same : 1 + (cand - 1) ≡ cand = omega arith in
    has_filtered (is_open books.pair) (range_with_len 1 (length books.normal.names)) cand
    (is_open_of books.normal.names books.pair cand unsettled) (
      cand - 1,
      subst (λ n. cand - 1 < n) (sym (length-range_with_len 1 (length books.normal.names))) less,
      subst (λ n. get_or (range_with_len 1 (length books.normal.names)) (cand - 1) cand ≡ n) same
          (get_or-range_with_len 1 (length books.normal.names) (cand - 1) cand less),
    )

-- whoever looks at all unsettled candidates misses none
pub settled_of_open : (books : Books) (answers : List Line) (proved : List ℕ) (lines : List Line)
    → AreSettledAmong books.normal.names books.mode books.pair answers proved (open_list books)
    lines
    → AreSettled books.normal.names books.mode books.pair answers proved lines
settled_of_open books answers proved lines among = record {
  ascending = among.ascending;
  each = among.each;
  all = λ cand due. among.all cand (open_in_list books cand due.unsettled) due;
}

range_ascends : (n : ℕ) → IsNonDecreasing (range_with_len 1 n)
range_ascends n = λ i j d le within.
    let less : j < n = subst (λ k. j < k) (length-range_with_len 1 n) within in
    let one : get_or (range_with_len 1 n) i d ≡ 1 + i =
    get_or-range_with_len 1 n i d (omega arith) in
    let two : get_or (range_with_len 1 n) j d ≡ 1 + j = get_or-range_with_len 1 n j d less in
    omega (arith, one, two, le)

-- the list of unsettled candidates ascends
pub open_ascends : (books : Books) → IsNonDecreasing (open_list books)
open_ascends books =
    IsNonDecreasingBy-filter (λ (n : ℕ). n) (is_open books.pair)
    (range_with_len 1 (length books.normal.names)) (range_ascends (length books.normal.names))

-- so does that of those that a pair has on the proved side
pub proved_ascends : (books : Books) (pair : Pair) → IsNonDecreasing (proved_list books pair)
proved_ascends books pair =
    IsNonDecreasingBy-filter (λ (n : ℕ). n) (is_proved_in books.mode pair) (open_list books)
    (open_ascends books)

pub proved_are : (books : Books) (pair : Pair)
    → All (IsCandidate books.normal.names) (proved_list books pair)
proved_are books pair =
    All-filter (is_proved_in books.mode pair) (IsCandidate books.normal.names) (open_list books)
    (open_candidates_are books)
