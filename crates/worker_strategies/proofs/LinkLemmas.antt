-- Tables of the candidates of each test literal.
use Rattle.std.proofs.Common.{◌≡◌, ◌≢◌, ◌+◌, ◌⊎◌, ◌∙◌, ℕ, List, get_or, length, replicate, set}
use Rattle.std.proofs.Common.{sym, ap, subst, arith, inl, inr}
use Rattle.std.proofs.lemmas.Bool.{cases_eq, cases_lt}
use Rattle.std.proofs.lemmas.Grind.{get_or-set_at}
use Rattle.std.proofs.lemmas.List.{get_or-replicate, get_or-set_other, get_or_past}
use Rattle.std.proofs.lemmas.List.{length-replicate, set_past}
use Rattle.ground_program.specs.declared.program.Mode.{Mode}
use Rattle.ground_program.specs.declared.program.Named.{Named}
use Rattle.ground_program.specs.Bounds.{IsCandidate}
use Rattle.worker_jobs.specs.Job.{test_literal}
use Rattle.worker_strategies.specs.Links.{AreBelow, AreLinked, HasCode, IsNext}

-- what a table has at a place after a number was put
put_cases : (numbers : List ℕ) (place number at : ℕ)
    → ((at ≡ place) × (get_or (set numbers place number) at 0 ≡ number))
    ⊎ (get_or (set numbers place number) at 0 ≡ get_or numbers at 0)
put_cases numbers place number at =
    elim (cases_eq at place) [
      | inl same ↦ elim (cases_lt place (length numbers)) [
        | inl within ↦ inl (same, get_or-set_at numbers place at number 0 same within)
        | inr past ↦ inr (ap (λ all. get_or all at 0) (set_past numbers place number past))
      ]
      | inr other ↦ inr (get_or-set_other numbers place at number 0 other)
    ]

zero_at : (count at : ℕ) → ◌≡◌ {A = ℕ} (get_or (replicate count 0) at 0) 0
zero_at count at =
    elim (cases_lt at count) [
      | inl within ↦ get_or-replicate count at 0 0 within
      | inr past ↦
          let size = length-replicate {A = ℕ} count 0 in
          get_or_past (replicate count 0) at 0 (omega (arith, past, size))
    ]

module _ (names : List Named) (mode : Mode) where
  -- no candidate is linked at first
  pub none_linked : (codes count : ℕ)
      → AreLinked names mode (replicate codes 0) (replicate count 0)
  none_linked codes count =
      record {
        heads = λ code some. absurd (some (zero_at codes code));
        nexts = λ cand some. absurd (some (zero_at count cand));
      }

  pub none_above : (codes : ℕ) → AreBelow (replicate codes 0) 1
  none_above codes at = let zero = zero_at codes at in omega (arith, zero)

  -- a candidate that is greater than all so far
  module _ (greatest smaller : List ℕ) (cand : ℕ) (candidate : IsCandidate names cand)
      (below : AreBelow greatest cand) (linked : AreLinked names mode greatest smaller) where
    abbrev code_of : ℕ
    code_of = (test_literal names mode cand).0

    abbrev next_of : ℕ
    next_of = get_or greatest code_of 0

    next_is : next_of ≢ 0 → IsNext names mode cand next_of
    next_is some = record { smaller = below code_of; has = linked.heads code_of some }

    pub more_linked : AreLinked names mode (set greatest code_of cand) (set smaller cand next_of)
    more_linked =
        record {
          heads =
              λ code some.
              elim (put_cases greatest code_of cand code) [
                | inl new ↦
                    subst (HasCode names mode code) (sym new.1)
                    (record { candidate = candidate; same = sym new.0 })
                | inr old ↦
                    subst (HasCode names mode code) (sym old)
                    (linked.heads code (λ zero. some (old ∙ zero)))
              ];
          nexts =
              λ at some.
              elim (put_cases smaller cand next_of at) [
                | inl new ↦
                    subst (IsNext names mode at) (sym new.1)
                    (subst (λ it. IsNext names mode it next_of) (sym new.0)
                    (next_is (λ zero. some (new.1 ∙ zero))))
                | inr old ↦
                    subst (IsNext names mode at) (sym old)
                    (linked.nexts at (λ zero. some (old ∙ zero)))
              ];
        }

    pub more_below : AreBelow (set greatest code_of cand) (cand + 1)
    more_below at =
        elim (put_cases greatest code_of cand at) [
          | inl new ↦ let is = new.1 in omega (arith, is)
          | inr old ↦ let low = below at in omega (arith, old, low)
        ]
