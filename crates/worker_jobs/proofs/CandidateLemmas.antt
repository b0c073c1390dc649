-- The atoms of candidates, and what it says of a candidate that its test literal is true.
use Rattle.std.proofs.Common.{◌≡◌, ◌≤◌, ◌-◌, ◌∙◌, ℕ, Bool, true, false, not, List}
use Rattle.std.proofs.Common.{map, refl, sym, ap, subst, arith, ⊎_elim, true≢false}
use Rattle.std.specs.Prelude.{◌↔◌}
use Rattle.std.specs.Option.{option_map_or}
use Rattle.std.proofs.lemmas.Option.{slice_get_cases}
use Rattle.std.proofs.lemmas.List.{get_or_append_left}
use Rattle.ground_program.specs.declared.program.Mode.{Mode}
use Rattle.ground_program.specs.declared.program.Mode.TheVariants.{Cautious, Brave}
use Rattle.ground_program.specs.declared.program.Named.{Named}
use Rattle.ground_program.specs.Meaning.{has}
use Rattle.ground_program.specs.Bounds.{IsCandidate, Shows, atom_of}
use Rattle.clause_store.specs.Clause.{IsTrueIn, truth}
use Rattle.normal_program.specs.declared.normal.Normal.{Normal}
use Rattle.normal_program.specs.Body.{body_holds}
use Rattle.normal_program.specs.Limit.{IsNormal}
use Rattle.normal_program.specs.Loop.{IsAtomOf}
use Rattle.normal_program.specs.Normal.{IsAnswerSetN, extension}
use Rattle.normal_program.proofs.RangeLemmas.{IsNormal-in_range}
use Rattle.normal_program.proofs.lemmas.Base.TruthLemmas.{makes_true-positive, makes_true-negative}
use Rattle.worker_jobs.specs.Job.{test_literal}
use Rattle.worker_jobs.specs.Laws.{TestLiteralShows, ShownIsNotProved}

-- the atom of a candidate is one of the atoms
pub atom_of_candidate : (normal : Normal) → IsNormal normal → (cand : ℕ)
    → IsCandidate normal.names cand → IsAtomOf normal (atom_of normal.names cand)
atom_of_candidate normal is cand candidate =
    ⊎_elim
    (λ found. subst (λ entry. IsAtomOf normal (option_map_or (λ named. named.atom) entry 0))
    (sym found.2)
    (subst (λ (named : Named). IsAtomOf normal named.atom) found.3
    ((IsNormal-in_range normal is).names (cand - 1) found.0 found.1)))
    (λ past. absurd (omega (arith, past.0, candidate.first, candidate.last)))
    (slice_get_cases normal.names (cand - 1)).1

-- the variable of an atom is true in an extension just where the set has the atom
pub truth_of_atom : (normal : Normal) (set : List Bool) (atom : ℕ) → IsAnswerSetN normal set
    → atom ≤ normal.atoms → truth (extension normal set set) atom ≡ has set atom
truth_of_atom normal set atom answers low =
    get_or_append_left set (map (body_holds set set) normal.bodies) false atom
    (omega (arith, low, answers.over.positions))

-- the values of a truth and of its opposite
not_from : (b : Bool) → ¬ (b ≡ true) → not b ≡ true
not_from true never = absurd (never refl)
not_from false never = refl

never_from : (b : Bool) → not b ≡ true → ¬ (b ≡ true)
never_from true is = λ same. true≢false (sym is)
never_from false is = λ same. true≢false (sym same)

-- an answer set shows a candidate just where its extension makes the test literal true
pub test_literal_shows : TestLiteralShows
test_literal_shows normal mode set cand is answers candidate = by mode
  where
    atom : ℕ
    atom = atom_of normal.names cand

    read : truth (extension normal set set) atom ≡ has set atom
    read = truth_of_atom normal set atom answers
        (atom_of_candidate normal is cand candidate).last

    by : (mode : Mode) → Shows normal.names mode set cand
        ↔ IsTrueIn (extension normal set set) (test_literal normal.names mode cand)
    by Cautious = (
      λ shows. makes_true-negative (extension normal set set) atom ∙ ap not read
          ∙ not_from (has set atom) shows,
      λ is_true. never_from (has set atom)
          (sym (ap not read) ∙ sym (makes_true-negative (extension normal set set) atom) ∙ is_true),
    )
    by Brave = (
      λ shows. makes_true-positive (extension normal set set) atom ∙ read ∙ shows,
      λ is_true. sym read ∙ sym (makes_true-positive (extension normal set set) atom) ∙ is_true,
    )

-- what an answer set shows isn't proved
pub shown_is_not_proved : ShownIsNotProved
shown_is_not_proved normal Cautious set cand answers shows = λ proved. shows (proved set answers)
shown_is_not_proved normal Brave set cand answers shows = λ proved. proved (set, answers, shows)
