-- The first answer set that shows a candidate.
use Rattle.std.proofs.Common.{◌≡◌, ◌≤◌, ◌<◌, ◌+◌, ℕ, suc, Bool, List, [], ◌∷◌, ◌++◌, length}
use Rattle.std.proofs.Common.{get_or, take, drop, sym, ap, subst, ◌∙◌, ⊎_elim, arith}
use Rattle.std.proofs.Common.{drop-cons}
use Rattle.std.specs.Prelude.{Any}
use Rattle.std.proofs.lemmas.List.{take_more, take-append-drop, take_all}
use Rattle.report.proofs.LegalLemmas.{Any-last}
use Rattle.ground_program.specs.declared.program.Named.{Named}
use Rattle.ground_program.specs.declared.program.Mode.{Mode}
use Rattle.ground_program.specs.Bounds.{Shows}
use Rattle.report.specs.declared.lines.Line.{Line}
use Rattle.report.specs.declared.lines.Line.TheVariants.{Answer, SettledIn, SettledOut, Sizes}
use Rattle.report.specs.declared.lines.Line.TheVariants.{Watch, Unsettled, Unknown, Complete}
use Rattle.report.specs.declared.lines.Line.TheVariants.{Partial, Incoherent, NoMemory, Refused}
use Rattle.report.specs.Legal.{GivesShown, IsShownBy}
use Rattle.master_record.specs.Settling.{IsFirstShown, IsShownIn}

-- none of these answer sets shows the candidate
pub record IsHiddenIn (names : List Named) (mode : Mode) (answers : List Line) (cand : ℕ) : Type 0
  where
    pub each : (by : ℕ) → ¬ IsShownBy names mode answers cand by

-- a line that shows a candidate gives the answer set
pub record IsGivenBy (names : List Named) (mode : Mode) (cand by : ℕ) (line : Line) : Type 0 where
  pub set : List Bool
  pub line_is : line ≡ Answer by set
  pub shown : Shows names mode set cand

module _ (names : List Named) (mode : Mode) (cand : ℕ) where
  pub given_by : (by : ℕ) (line : Line) → GivesShown names mode cand by line
      → IsGivenBy names mode cand by line
  given_by by (Answer number set) gives = record {
    set = set;
    line_is = ap (λ n. Answer n set) gives.0;
    shown = gives.1;
  }
  given_by by (SettledIn one other) gives = absurd gives
  given_by by (SettledOut one other) gives = absurd gives
  given_by by (Sizes lower upper) gives = absurd gives
  given_by by (Watch watcher lower upper) gives = absurd gives
  given_by by (Unsettled one units) gives = absurd gives
  given_by by (Unknown units) gives = absurd gives
  given_by by Complete gives = absurd gives
  given_by by Partial gives = absurd gives
  given_by by Incoherent gives = absurd gives
  given_by by NoMemory gives = absurd gives
  given_by by (Refused one_line why value) gives = absurd gives

  pub hidden_none : IsHiddenIn names mode [] cand
  hidden_none = record { each = λ by (k, line, within, is, gives). absurd (omega (arith, within)) }

  module _ (answers : List Line) (at : ℕ) (line : Line) (within : at < length answers)
      (is : get_or answers at line ≡ line) (none : IsHiddenIn names mode (take at answers) cand)
    where
      -- one answer set more that doesn't show it
      pub hidden_more : ((by : ℕ) → ¬ GivesShown names mode cand by line)
          → IsHiddenIn names mode (take (at + 1) answers) cand
      hidden_more hidden = record {
        each = λ by shown.
            ⊎_elim (none.each by) (hidden by)
            (Any-last (GivesShown names mode cand by) (take at answers) line
            (subst (Any (GivesShown names mode cand by))
            (take_more answers at line within ∙ ap (λ (x : Line). take at answers ++ x ∷ []) is)
            shown));
      }

      -- or that does
      pub first_here : (by : ℕ) → GivesShown names mode cand by line
          → IsFirstShown names mode answers cand by
      first_here by gives =
          let given : IsGivenBy names mode cand by line = given_by by line gives in
          record {
            before = take at answers;
            after = drop (suc at) answers;
            set = given.set;
            parts = sym (take-append-drop at answers)
                ∙ ap (λ (xs : List Line). take at answers ++ xs) (drop-cons answers at line within)
                ∙ ap (λ (x : Line). take at answers ++ x ∷ drop (suc at) answers)
                (is ∙ given.line_is);
            shown = given.shown;
            first = λ other. none.each other;
          }

  -- none at all
  pub hidden_all : (answers : List Line) (at : ℕ) → length answers ≤ at
      → IsHiddenIn names mode (take at answers) cand → ¬ IsShownIn names mode answers cand
  hidden_all answers at past none = λ (by, shown).
      none.each by
      (subst (Any (GivesShown names mode cand by)) (sym (take_all at answers past)) shown)
