-- The disjunction of candidates, and what answers of a tester say of them.
use Rattle.std.proofs.Common.{◌≡◌, ◌≢◌, ◌≤◌, ◌+◌, ◌*◌, ◌∙◌, ℕ, Bool, false}
use Rattle.std.proofs.Common.{List, []}
use Rattle.std.proofs.Common.{◌∷◌, length, refl, sym, ap, subst, inl, inr, arith, Some, None}
use Rattle.std.proofs.Common.{fold, get_or, map, ◌⊎◌, suc}
use Rattle.std.specs.Prelude.{All, Any, Contains, IsTrue}
use Rattle.std.proofs.lemmas.Bool.{cases_Bool, false≢true}
use Rattle.std.proofs.lemmas.List.Quantifiers.{all_pairs_push}
use Rattle.std.proofs.lemmas.List.Elements.{All-contains, All-nil, All-push}
use Rattle.std.proofs.lemmas.List.Elements.{All-map, All-weaker, All-contains_itself}
use Rattle.std.proofs.lemmas.List.Elements.{Contains-append_left, Contains-push}
use Rattle.std.proofs.lemmas.List.Elements.{Contains-push_cases}
use Rattle.ground_program.specs.declared.program.Mode.{Mode}
use Rattle.ground_program.specs.declared.program.Mode.TheVariants.{Cautious, Brave}
use Rattle.ground_program.specs.declared.program.Named.{Named}
use Rattle.ground_program.specs.Bounds.{IsCandidate, atom_of}
use Rattle.clause_store.specs.declared.literal.Lit.{Lit}
use Rattle.clause_store.specs.Clause.{HasNoVariableTwice, IsOver, IsTrueIn, variable}
use Rattle.clause_store.proofs.LiteralLemmas.{first_or_later, lit_of_code}
use Rattle.normal_program.specs.declared.normal.Normal.{Normal}
use Rattle.normal_program.specs.Normal.{extension, greatest_body_var}
use Rattle.normal_program.specs.Limit.{IsNormal}
use Rattle.normal_program.proofs.lemmas.Base.TruthLemmas.{variable-negative, variable-positive}
use Rattle.coherence_test.specs.declared.asked.Core.{Core}
use Rattle.coherence_test.specs.Asked.{Answers as Meets, IsCoreFor}
use Rattle.worker_jobs.specs.declared.job.Job.TheVariants.{Reduce}
use Rattle.worker_jobs.specs.declared.gain.RoundEnd.TheVariants.{Done}
use Rattle.worker_jobs.specs.Gain.{HasGained, IsProvedCandidate}
use Rattle.worker_jobs.specs.Job.{AreCandidates, test_literal}
use Rattle.worker_jobs.proofs.CandidateLemmas.{atom_of_candidate}
use Rattle.worker_strategies.specs.Disjunction.{asked_for, disjunction_of, has_literal}
use Rattle.worker_strategies.specs.Disjunction.{with_literal}
use Rattle.worker_strategies.specs.Outcome.{IsAnswer}
use Rattle.worker_strategies.proofs.ChunkLemmas.{HasCandidateOf, any_here, has_by, has_there}
use Rattle.worker_strategies.proofs.GainLemmas.{gained_by_set, incoherent_is_true, no_answer_set}
use Rattle.worker_strategies.proofs.GainLemmas.{none_among, proved_by, proved_is_true, set_is_true}
use Rattle.worker_strategies.proofs.GainLemmas.{shows_by}

-- ---- lists of literals

with_has : (lits : List Lit) (lit : Lit) → Contains (with_literal lits lit) lit
with_has lits lit =
    elim (cases_Bool (has_literal lits lit)) [
      | inl is ↦ rw is (has_there lits lit is)
      | inr lacks ↦ rw lacks (Contains-push lits lit)
    ]

with_keeps : (lits : List Lit) (lit other : Lit) → Contains lits other
    → Contains (with_literal lits lit) other
with_keeps lits lit other here =
    elim (cases_Bool (has_literal lits lit)) [
      | inl is ↦ rw is here
      | inr lacks ↦ rw lacks (Contains-append_left lits (lit ∷ []) other here)
    ]

with_from : (lits : List Lit) (lit other : Lit) → Contains (with_literal lits lit) other
    → Contains lits other ⊎ (lit ≡ other)
with_from lits lit other here =
    elim (cases_Bool (has_literal lits lit)) [
      | inl is ↦ inl (rw is at here)
      | inr lacks ↦ Contains-push_cases lits lit other (rw lacks at here)
    ]

-- ---- the literals of candidates

-- a test literal is on its side: positive in brave mode, negative in cautious mode
abbrev IsOnSide : Mode → Lit → Type 0
IsOnSide Cautious lit = lit.0 ≡ 2 * variable lit + 1
IsOnSide Brave lit = lit.0 ≡ 2 * variable lit

side_of : (names : List Named) (mode : Mode) (cand : ℕ)
    → IsOnSide mode (test_literal names mode cand)
side_of names Cautious cand =
    let is = variable-negative (atom_of names cand) in omega (arith, is)
side_of names Brave cand =
    let is = variable-positive (atom_of names cand) in omega (arith, is)

-- two on one side with one variable are the same
same_on_side : (mode : Mode) (one two : Lit) → IsOnSide mode one → IsOnSide mode two
    → variable one ≡ variable two → one ≡ two
same_on_side Cautious one two first second same =
    lit_of_code one two (first ∙ ap (λ var. 2 * var + 1) same ∙ sym second)
same_on_side Brave one two first second same =
    lit_of_code one two (first ∙ ap (λ var. 2 * var) same ∙ sym second)

module _ (names : List Named) (mode : Mode) where
  abbrev gathered : List Lit → List ℕ → List Lit
  gathered lits cands =
      fold (λ lits cand. with_literal lits (test_literal names mode cand)) lits cands

  gathered_keeps : (cands : List ℕ) (lits : List Lit) (other : Lit) → Contains lits other
      → Contains (gathered lits cands) other
  gathered_keeps [] lits other here = here
  gathered_keeps (cand ∷ cands) lits other here =
      gathered_keeps cands (with_literal lits (test_literal names mode cand)) other
      (with_keeps lits (test_literal names mode cand) other here)

  -- each candidate's literal is there
  gathered_has : (cands : List ℕ) (lits : List Lit) (cand : ℕ) → Contains cands cand
      → Contains (gathered lits cands) (test_literal names mode cand)
  gathered_has [] lits cand here = absurd (omega (arith, here.1))
  gathered_has (one ∷ cands) lits cand here =
      elim (first_or_later one cand cands here) [
        | inl same ↦
            gathered_keeps cands (with_literal lits (test_literal names mode one))
            (test_literal names mode cand)
            (subst
            (λ it. Contains (with_literal lits (test_literal names mode one))
            (test_literal names mode it)) same (with_has lits (test_literal names mode one)))
        | inr later ↦
            gathered_has cands (with_literal lits (test_literal names mode one)) cand later
      ]

  any_later : (one : ℕ) (cands : List ℕ) (lit : Lit) → HasCandidateOf names mode cands lit
      → HasCandidateOf names mode (one ∷ cands) lit
  any_later one cands lit (at, cand, within, here, its) =
      (suc at, cand, omega (arith, within), here, its)

  -- and each literal is that of a candidate
  gathered_from : (cands : List ℕ) (lits : List Lit) (other : Lit)
      → Contains (gathered lits cands) other
      → Contains lits other ⊎ HasCandidateOf names mode cands other
  gathered_from [] lits other here = inl here
  gathered_from (cand ∷ cands) lits other here =
      elim
      (gathered_from cands (with_literal lits (test_literal names mode cand)) other here) [
        | inl one ↦ elim (with_from lits (test_literal names mode cand) other one) [
          | inl before ↦ inl before
          | inr its ↦ inr (0, cand, omega arith, refl, its)
        ]
        | inr later ↦ inr (any_later cand cands other later)
      ]

  -- no variable comes twice
  with_once : (lits : List Lit) (lit : Lit) → All (IsOnSide mode) lits → IsOnSide mode lit
      → HasNoVariableTwice lits → HasNoVariableTwice (with_literal lits lit)
  with_once lits lit sides side once =
      elim (cases_Bool (has_literal lits lit)) [
        | inl is ↦ rw is once
        | inr lacks ↦
            rw lacks
            (all_pairs_push (λ one two. variable one ≢ variable two) lits lit once
            (λ k d within same.
            false≢true
            (sym lacks
            ∙ has_by lits lit
            (subst (Contains lits)
            (same_on_side mode (get_or lits k d) lit (sides k d within) side same)
            (All-contains_itself lits k d within)))))
      ]

  with_sides : (lits : List Lit) (lit : Lit) → All (IsOnSide mode) lits → IsOnSide mode lit
      → All (IsOnSide mode) (with_literal lits lit)
  with_sides lits lit sides side =
      elim (cases_Bool (has_literal lits lit)) [
        | inl is ↦ rw is sides
        | inr lacks ↦ rw lacks (All-push (IsOnSide mode) lits lit sides side)
      ]

  gathered_once : (cands : List ℕ) (lits : List Lit) → All (IsOnSide mode) lits
      → HasNoVariableTwice lits → HasNoVariableTwice (gathered lits cands)
  gathered_once [] lits sides once = once
  gathered_once (cand ∷ cands) lits sides once =
      gathered_once cands (with_literal lits (test_literal names mode cand))
      (with_sides lits (test_literal names mode cand) sides (side_of names mode cand))
      (with_once lits (test_literal names mode cand) sides (side_of names mode cand) once)

  pub disjunction_has : (cands : List ℕ) (cand : ℕ) → Contains cands cand
      → Contains (disjunction_of names mode cands) (test_literal names mode cand)
  disjunction_has cands cand here = gathered_has cands [] cand here

  pub disjunction_from : (cands : List ℕ) (lit : Lit)
      → Contains (disjunction_of names mode cands) lit → HasCandidateOf names mode cands lit
  disjunction_from cands lit here =
      elim (gathered_from cands [] lit here) [
        | inl none ↦ absurd (omega (arith, none.1))
        | inr some ↦ some
      ]

  pub disjunction_once : (cands : List ℕ) → HasNoVariableTwice (disjunction_of names mode cands)
  disjunction_once cands =
      gathered_once cands [] (All-nil (IsOnSide mode)) (λ i j d e low high. absurd (omega arith))

-- a test literal is over atoms
pub test_over : (normal : Normal) (mode : Mode) (cand : ℕ) → IsNormal normal
    → IsCandidate normal.names cand
    → IsOver (greatest_body_var normal) (test_literal normal.names mode cand)
test_over normal Cautious cand is candidate =
    let atom = atom_of_candidate normal is cand candidate in
    let var = variable-negative (atom_of normal.names cand) in
    let first = atom.first in
    let last = atom.last in
    record { first = omega (arith, var, first); last = omega (arith, var, last) }
test_over normal Brave cand is candidate =
    let atom = atom_of_candidate normal is cand candidate in
    let var = variable-positive (atom_of normal.names cand) in
    let first = atom.first in
    let last = atom.last in
    record { first = omega (arith, var, first); last = omega (arith, var, last) }

pub disjunction_over : (normal : Normal) (mode : Mode) (cands : List ℕ) → IsNormal normal
    → All (IsCandidate normal.names) cands
    → All (IsOver (greatest_body_var normal)) (disjunction_of normal.names mode cands)
disjunction_over normal mode cands is are k d within =
    let lits = disjunction_of normal.names mode cands in
    let lit = get_or lits k d in
    let from =
    disjunction_from normal.names mode cands lit (All-contains_itself lits k d within) in
    subst (IsOver (greatest_body_var normal)) from.4
    (test_over normal mode from.1 is
    (All-contains (IsCandidate normal.names) cands from.1 are (from.0, from.2, from.3)))

pub test_lits_over : (normal : Normal) (mode : Mode) (cands : List ℕ) → IsNormal normal
    → All (IsCandidate normal.names) cands
    → All (IsOver (greatest_body_var normal)) (map (test_literal normal.names mode) cands)
test_lits_over normal mode cands is are =
    All-map (IsOver (greatest_body_var normal)) (test_literal normal.names mode) cands
    (All-weaker (IsCandidate normal.names)
    (λ cand. IsOver (greatest_body_var normal) (test_literal normal.names mode cand))
    (λ cand candidate. test_over normal mode cand is candidate) cands are)

-- ---- what answers say

module _ (normal : Normal) (mode : Mode) (cands : List ℕ) (is : IsNormal normal)
    (are : AreCandidates normal.names cands) where
  pub reduce_found : (set : List Bool)
      → Meets normal (asked_for normal.names mode (Reduce cands)) set
      → IsAnswer normal mode (Reduce cands)
      (record { sets = set ∷ []; proved = []; coherent = None; ended = Done })
  reduce_found set meets =
      let (k, lit, within, here, is_true) = meets.some in
      let from = disjunction_from normal.names mode cands lit (k, within, here) in
      let cand = from.1 in
      let among : Contains cands cand = (from.0, from.2, from.3) in
      record {
        is_true = set_is_true normal mode set meets.answers;
        answers =
            inl
            (any_here
            (HasGained normal.names mode
            (record { sets = set ∷ []; proved = []; coherent = None; ended = Done })) cands cand
            among
            (gained_by_set normal mode cand set
            (shows_by normal mode cand set is
            (All-contains (IsCandidate normal.names) cands cand are.each among) meets.answers
            (subst (IsTrueIn (extension normal set set)) (sym from.4) is_true))));
        done = refl;
      }

  pub reduce_proved : (core : Core)
      → IsCoreFor normal (asked_for normal.names mode (Reduce cands)) core
      → IsAnswer normal mode (Reduce cands)
      (record { sets = []; proved = cands; coherent = None; ended = Done })
  reduce_proved core core_is =
      record {
        is_true = proved_is_true normal mode cands each;
        answers = inl (first cands are.some);
        done = refl;
      }
    where
      each : All (IsProvedCandidate normal mode) cands
      each k d within =
          let cand = get_or cands k d in
          proved_by normal mode cand is (are.each k d within)
          (λ set answers is_true.
          core_is.unmet set
          (record {
            answers = answers;
            lits =
                subst (All (IsTrueIn (extension normal set set)))
                (sym (none_among core.lits core_is.among))
                (All-nil (IsTrueIn (extension normal set set)));
            any =
                λ some.
                any_here (IsTrueIn (extension normal set set))
                (disjunction_of normal.names mode cands) (test_literal normal.names mode cand)
                (disjunction_has normal.names mode cands cand
                (All-contains_itself cands k d within)) is_true;
          }))

      first : (list : List ℕ) → 1 ≤ length list
          → Any (HasGained normal.names mode
          (record { sets = []; proved = list; coherent = None; ended = Done })) list
      first [] some = absurd (omega (arith, some))
      first (cand ∷ rest) some = (0, cand, omega arith, refl, inr (0, omega arith, refl))

  pub reduce_none : (core : Core)
      → IsCoreFor normal (asked_for normal.names mode (Reduce cands)) core → ¬ IsTrue core.any
      → IsAnswer normal mode (Reduce cands)
      (record { sets = []; proved = []; coherent = Some false; ended = Done })
  reduce_none core core_is plain =
      record {
        is_true =
            incoherent_is_true normal mode
            (no_answer_set normal (asked_for normal.names mode (Reduce cands)) core core_is
            (none_among core.lits core_is.among) plain);
        answers = inr refl;
        done = refl;
      }
