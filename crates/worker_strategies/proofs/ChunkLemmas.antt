-- What answers of a tester say of many candidates at once.
use Rattle.std.proofs.Common.{◌≡◌, ◌<◌, ◌≤◌, ◌+◌, ◌∙◌, ℕ, Bool, true, false, List, []}
use Rattle.std.proofs.Common.{◌∷◌, length}
use Rattle.std.proofs.Common.{refl, sym, ap, subst, inl, inr, arith, Some, None, map, filter, take}
use Rattle.std.proofs.Common.{get_or, fold, not, slice_get, zero, suc, ◌++◌, ◌==◌, ◌&&◌}
use Rattle.std.proofs.Common.{length-append}
use Rattle.std.specs.Prelude.{All, Any, Contains}
use Rattle.std.proofs.lemmas.Bool.{cases_Bool, eqb-true, eq-eqb, false≢true}
use Rattle.std.proofs.lemmas.List.{length-take-le}
use Rattle.std.proofs.lemmas.List.Elements.{All-contains, All-head, All-nil, All-weaker}
use Rattle.std.proofs.lemmas.List.Elements.{All-contains_itself, All-filter, All-take}
use Rattle.std.proofs.lemmas.List.Elements.{All-push, All-tail, Contains-push, filter_passes}
use Rattle.std.proofs.lemmas.List.Folds.{Any-from_list_any, list_any-from_Any}
use Rattle.item_list.proofs.ListLemmas.{Any-append_left}
use Rattle.ground_program.specs.declared.program.Mode.{Mode}
use Rattle.ground_program.specs.declared.program.Named.{Named}
use Rattle.ground_program.specs.Bounds.{IsCandidate}
use Rattle.clause_store.specs.declared.literal.Lit.{Lit}
use Rattle.clause_store.specs.Clause.{IsTrueIn}
use Rattle.clause_store.specs.Counted.{Counted}
use Rattle.clause_store.proofs.LiteralLemmas.{has_kept, lit_of_code, mapped_from}
use Rattle.normal_program.specs.declared.normal.Normal.{Normal}
use Rattle.normal_program.specs.Normal.{IsAnswerSetN, extension}
use Rattle.normal_program.specs.Limit.{IsNormal}
use Rattle.coherence_test.specs.declared.asked.Core.{Core}
use Rattle.coherence_test.specs.Asked.{Answers as Meets, IsCoreFor}
use Rattle.worker_jobs.specs.declared.job.Job.TheVariants.{Chunk}
use Rattle.worker_jobs.specs.declared.gain.RoundEnd.TheVariants.{Done}
use Rattle.worker_jobs.specs.Gain.{HasGained, IsProvedCandidate}
use Rattle.worker_jobs.specs.Job.{AreCandidates, test_literal}
use Rattle.worker_strategies.specs.declared.outcome.Outcome.{Outcome}
use Rattle.worker_strategies.specs.declared.outcome.Outcome.TheVariants.{Answered, Paused, Spent}
use Rattle.worker_strategies.specs.declared.outcome.Outcome.TheVariants.{SpentInside}
use Rattle.worker_strategies.specs.Chunks.{IsSmaller}
use Rattle.worker_strategies.specs.Disjunction.{asked_for, has_literal}
use Rattle.worker_strategies.specs.Literals.{has_same_literal, named_of, with_named}
use Rattle.worker_strategies.specs.Outcome.{IsAnswer, IsOutcome}
use Rattle.worker_strategies.proofs.GainLemmas.{gained_by_set, incoherent_is_true, no_answer_set}
use Rattle.worker_strategies.proofs.GainLemmas.{proved_by, proved_is_true, set_is_true, shows_by}

-- what holds of an item of a list holds of one of a list that has it
pub any_among : {X : Type 0} (P : X → Type 0) (part all : List X) → All (Contains all) part
    → Any P part → Any P all
any_among P part all among (at, x, within, here, holds) =
    let there = subst (Contains all) here (among at x within) in
    (there.0, x, there.1, there.2, holds)

-- an item of a list as one that holds
pub any_here : {X : Type 0} (P : X → Type 0) (all : List X) (x : X) → Contains all x → P x
    → Any P all
any_here P all x (at, within, here) holds = (at, x, within, here, holds)

-- ---- lists of literals

-- a list that has the literal by its test has it
pub has_there : (lits : List Lit) (lit : Lit) → has_literal lits lit ≡ true → Contains lits lit
has_there lits lit is =
    let some = Any-from_list_any (λ other. other.0 == lit.0) lits is in
    subst (Contains lits) (lit_of_code some.1 lit (eqb-true some.1.0 lit.0 some.4))
    (some.0, some.2, some.3)

pub has_by : (lits : List Lit) (lit : Lit) → Contains lits lit → has_literal lits lit ≡ true
has_by lits lit (at, within, here) =
    list_any-from_Any (λ other. other.0 == lit.0) lits
    (at, lit, within, here, eq-eqb lit.0 lit.0 refl)

-- ---- which candidates a clause names

-- one of the candidates has the literal
abbrev pub HasCandidateOf : List Named → Mode → List ℕ → Lit → Type 0
HasCandidateOf names mode cands lit = Any (λ cand. test_literal names mode cand ≡ lit) cands

-- candidates of a list, no more than it has, with each literal of a clause that one of the list has
pub record AreNamedIn (names : List Named) (mode : Mode) (cands : List ℕ) (clause : List Lit)
    (named : List ℕ) : Type 0 where
  pub among : All (Contains cands) named
  pub few : length named ≤ length cands
  pub all :
      (lit : Lit) → Contains clause lit → HasCandidateOf names mode cands lit
      → HasCandidateOf names mode named lit

-- a literal of the list of test literals is that of a candidate
candidate_of : (names : List Named) (mode : Mode) (cands : List ℕ) (lit : Lit)
    → Contains (map (test_literal names mode) cands) lit → HasCandidateOf names mode cands lit
candidate_of names mode cands lit here =
    let from = mapped_from (test_literal names mode) cands lit here in
    any_here (λ cand. test_literal names mode cand ≡ lit) cands from.0 from.1 from.2

module _ (names : List Named) (mode : Mode) (clause : List Lit) where
  abbrev one_more : List ℕ → ℕ → List ℕ
  one_more named cand = with_named names mode clause named cand

  abbrev is_named : List ℕ → ℕ → Bool
  is_named named cand =
      has_literal clause (test_literal names mode cand)
      && not (has_literal (map (test_literal names mode) named) (test_literal names mode cand))

  more_among : (P : ℕ → Type 0) (named : List ℕ) (cand : ℕ) → All P named → P cand
      → All P (one_more named cand)
  more_among P named cand all one =
      elim (cases_Bool (is_named named cand)) [
        | inl is ↦ rw is (All-push P named cand all one)
        | inr lacks ↦ rw lacks all
      ]

  more_few : (named : List ℕ) (cand : ℕ) → length (one_more named cand) ≤ length named + 1
  more_few named cand =
      elim (cases_Bool (is_named named cand)) [
        | inl is ↦ rw is (omega (arith, length-append named (cand ∷ [])))
        | inr lacks ↦ rw lacks (omega arith)
      ]

  more_keeps : (named : List ℕ) (cand : ℕ) (lit : Lit) → HasCandidateOf names mode named lit
      → HasCandidateOf names mode (one_more named cand) lit
  more_keeps named cand lit here =
      elim (cases_Bool (is_named named cand)) [
        | inl is ↦
            rw is
            (Any-append_left (λ one. test_literal names mode one ≡ lit) named (cand ∷ []) here)
        | inr lacks ↦ rw lacks here
      ]

  -- a candidate whose literal is in the clause is named, or another one of that literal
  more_has : (named : List ℕ) (cand : ℕ) → Contains clause (test_literal names mode cand)
      → HasCandidateOf names mode (one_more named cand) (test_literal names mode cand)
  more_has named cand here =
      let lit = test_literal names mode cand in
      let met = map (test_literal names mode) named in
      elim (cases_Bool (has_literal met lit)) [
        | inl is ↦
            more_keeps named cand lit (candidate_of names mode named lit (has_there met lit is))
        | inr lacks ↦
            let there : is_named named cand ≡ true =
            rw (has_by clause lit here, lacks) refl in
            rw there
            (any_here (λ one. test_literal names mode one ≡ lit) (named ++ cand ∷ []) cand
            (Contains-push named cand) refl)
      ]

  abbrev all_named : List ℕ → List ℕ → List ℕ
  all_named named cands = fold (with_named names mode clause) named cands

  all_among : (P : ℕ → Type 0) (cands named : List ℕ) → All P named → All P cands
      → All P (all_named named cands)
  all_among P [] named has each = has
  all_among P (cand ∷ cands) named has each =
      all_among P cands (one_more named cand)
      (more_among P named cand has (All-head P cand cands each)) (All-tail P cand cands each)

  all_few : (cands named : List ℕ)
      → length (all_named named cands) ≤ length named + length cands
  all_few [] named = omega arith
  all_few (cand ∷ cands) named =
      let later = all_few cands (one_more named cand) in
      let one = more_few named cand in
      omega (arith, later, one)

  all_keep : (cands named : List ℕ) (lit : Lit) → HasCandidateOf names mode named lit
      → HasCandidateOf names mode (all_named named cands) lit
  all_keep [] named lit here = here
  all_keep (cand ∷ cands) named lit here =
      all_keep cands (one_more named cand) lit (more_keeps named cand lit here)

  all_have : (cands named : List ℕ) (lit : Lit) → Contains clause lit
      → HasCandidateOf names mode cands lit → HasCandidateOf names mode (all_named named cands) lit
  all_have [] named lit there some = absurd (omega (arith, some.2))
  all_have (cand ∷ cands) named lit there (zero, one, within, here, its) =
      let is : test_literal names mode cand ≡ lit = ap (test_literal names mode) here ∙ its in
      all_keep cands (one_more named cand) lit
      (subst (HasCandidateOf names mode (one_more named cand)) is
      (more_has named cand (subst (Contains clause) (sym is) there)))
  all_have (cand ∷ cands) named lit there (suc at, one, within, here, its) =
      all_have cands (one_more named cand) lit there (at, one, omega (arith, within), here, its)

pub named_are : (names : List Named) (mode : Mode) (cands : List ℕ) (clause : List Lit)
    → AreNamedIn names mode cands clause (named_of names mode clause cands)
named_are names mode cands clause =
    record {
      among =
          all_among names mode clause (Contains cands) cands [] (All-nil (Contains cands))
          (All-contains_itself cands);
      few = let few = all_few names mode clause cands [] in omega (arith, few);
      all = λ lit there some. all_have names mode clause cands [] lit there some;
    }

-- a list of one item
single_list : (named : List ℕ) (one : ℕ) → length named ≡ 1 → slice_get named 0 ≡ Some one
    → named ≡ one ∷ []
single_list [] one single here = absurd (omega (arith, single))
single_list (cand ∷ []) one single here = cc
single_list (cand ∷ other ∷ rest) one single here = absurd (omega (arith, single))

-- a candidate with the literal is that item
only_one : (names : List Named) (mode : Mode) (one : ℕ) (lit : Lit)
    → HasCandidateOf names mode (one ∷ []) lit → test_literal names mode one ≡ lit
only_one names mode one lit (zero, cand, within, there, its) =
    ap (test_literal names mode) there ∙ its
only_one names mode one lit (suc at, cand, within, there, its) = absurd (omega (arith, within))

module _ (normal : Normal) (mode : Mode) (cands : List ℕ) (is : IsNormal normal)
    (are : AreCandidates normal.names cands) where
  pub chunk_found : (set : List Bool) → Meets normal (asked_for normal.names mode (Chunk cands)) set
      → IsAnswer normal mode (Chunk cands)
      (record { sets = set ∷ []; proved = []; coherent = None; ended = Done })
  chunk_found set meets =
      record {
        is_true = set_is_true normal mode set meets.answers;
        answers = inl (first cands are.some are.each meets.assumed);
        done = refl;
      }
    where
      first : (list : List ℕ) → 1 ≤ length list → All (IsCandidate normal.names) list
          → All (IsTrueIn (extension normal set set)) (map (test_literal normal.names mode) list)
          → Any (HasGained normal.names mode
          (record { sets = set ∷ []; proved = []; coherent = None; ended = Done })) list
      first [] some each true_ones = absurd (omega (arith, some))
      first (cand ∷ rest) some each true_ones = (
        0,
        cand,
        omega arith,
        refl,
        gained_by_set normal mode cand set
            (shows_by normal mode cand set is
            (All-head (IsCandidate normal.names) cand rest each) meets.answers
            (All-head (IsTrueIn (extension normal set set)) (test_literal normal.names mode cand)
            (map (test_literal normal.names mode) rest) true_ones)),
      )

  module _ (core : Core)
      (core_is : IsCoreFor normal (asked_for normal.names mode (Chunk cands)) core)
      (named : List ℕ) (names_all : AreNamedIn normal.names mode cands core.lits named) where
    -- each literal of the core is that of a named candidate
    its_named : (lit : Lit) → Contains core.lits lit → HasCandidateOf normal.names mode named lit
    its_named lit here =
        names_all.all lit here
        (candidate_of normal.names mode cands lit
        (All-contains (Contains (map (test_literal normal.names mode) cands)) core.lits lit
        core_is.among here))

    no_literal : length named ≡ 0 → (lits : List Lit) → lits ≡ core.lits → lits ≡ []
    no_literal empty [] same = refl
    no_literal empty (lit ∷ lits) same =
        let there = its_named lit (subst (λ all. Contains all lit) same (0, omega arith, refl)) in
        absurd (omega (arith, empty, there.2))

    pub chunk_none : length named ≡ 0
        → IsAnswer normal mode (Chunk cands)
        (record { sets = []; proved = []; coherent = Some false; ended = Done })
    chunk_none empty =
        record {
          is_true =
              incoherent_is_true normal mode
              (no_answer_set normal (asked_for normal.names mode (Chunk cands)) core core_is
              (no_literal empty core.lits refl) (λ some. false≢true (core_is.asks some)));
          answers = inr refl;
          done = refl;
        }

    -- where one is named, all candidates with its literal are proved
    pub chunk_proved : (one : ℕ) → length named ≡ 1 → slice_get named 0 ≡ Some one
        → IsAnswer normal mode (Chunk cands)
        (record {
          sets = [];
          proved = filter (has_same_literal normal.names mode one) cands;
          coherent = None;
          ended = Done;
        })
    chunk_proved one single first =
        let only = single_list named one single first in
        let among : Contains cands one =
        All-head (Contains cands) one []
        (subst (All (Contains cands)) only names_all.among) in
        let its : (lit : Lit) → Contains core.lits lit → test_literal normal.names mode one ≡ lit =
        λ lit here.
        only_one normal.names mode one lit
        (subst (λ list. HasCandidateOf normal.names mode list lit) only (its_named lit here)) in
        let same : List ℕ = filter (has_same_literal normal.names mode one) cands in
        record {
          is_true =
              proved_is_true normal mode same
              (proved_all its);
          answers =
              inl
              (any_here
              (HasGained normal.names mode
              (record { sets = []; proved = same; coherent = None; ended = Done })) cands one among
              (inr
              (has_kept (has_same_literal normal.names mode one) cands one among
              (eq-eqb (test_literal normal.names mode one).0 (test_literal normal.names mode one).0
              refl))));
          done = refl;
        }
      where
        unmet : ((lit : Lit) → Contains core.lits lit → test_literal normal.names mode one ≡ lit)
            → (set : List Bool) → IsAnswerSetN normal set
            → ¬ IsTrueIn (extension normal set set) (test_literal normal.names mode one)
        unmet its set answers is_true =
            core_is.unmet set
            (record {
              answers = answers;
              lits =
                  All-weaker (Contains core.lits) (IsTrueIn (extension normal set set))
                  (λ lit here. subst (IsTrueIn (extension normal set set)) (its lit here) is_true)
                  core.lits (All-contains_itself core.lits);
              any = λ some. absurd (false≢true (core_is.asks some));
            })

        proved_all : ((lit : Lit) → Contains core.lits lit
            → test_literal normal.names mode one ≡ lit)
            → All (IsProvedCandidate normal mode)
            (filter (has_same_literal normal.names mode one) cands)
        proved_all its k d within =
            let same = filter (has_same_literal normal.names mode one) cands in
            let cand = get_or same k d in
            let passes =
            filter_passes (has_same_literal normal.names mode one) cands k d within in
            let literal : test_literal normal.names mode cand ≡ test_literal normal.names mode one =
            lit_of_code (test_literal normal.names mode cand) (test_literal normal.names mode one)
            (eqb-true (test_literal normal.names mode cand).0
            (test_literal normal.names mode one).0 passes) in
            proved_by normal mode cand is
            (All-filter (has_same_literal normal.names mode one) (IsCandidate normal.names) cands
            are.each k d within)
            (λ set answers is_true.
            unmet its set answers
            (subst (IsTrueIn (extension normal set set)) literal is_true))

-- the first half of the named candidates, where there is more than one
pub half_is : (cands named : List ℕ) (half : ℕ) → All (Contains cands) named
    → length named ≤ length cands → 1 ≤ half → half < length named
    → IsSmaller cands (take half named)
half_is cands named half among few some less =
    let size : length (take half named) ≡ half = length-take-le half named (omega (arith, less)) in
    record {
      some = omega (arith, size, some);
      fewer = omega (arith, size, less, few);
      among = All-take (Contains cands) half named among;
    }

-- what answers some of the candidates answers all
pub outcome_of_part : (normal : Normal) (mode : Mode) (cands part : List ℕ) (stop : ℕ)
    (after : Counted) (outcome : Outcome) → All (Contains cands) part
    → IsOutcome normal mode (Chunk part) stop after outcome
    → IsOutcome normal mode (Chunk cands) stop after outcome
outcome_of_part normal mode cands part stop after (Answered gain) among is = (
  record {
    is_true = is.0.is_true;
    answers =
        elim is.0.answers [
          | inl some ↦ inl (any_among (HasGained normal.names mode gain) part cands among some)
          | inr none ↦ inr none
        ];
    done = is.0.done;
  },
  is.1,
)
outcome_of_part normal mode cands part stop after Paused among is = is
outcome_of_part normal mode cands part stop after Spent among is = is
outcome_of_part normal mode cands part stop after (SpentInside set units) among is = (
  tt,
  record { within = is.1.within; all = is.1.all; literal = tt },
  is.2,
)

-- some of the candidates are candidates
pub part_are : (names : List Named) (cands part : List ℕ) → AreCandidates names cands
    → IsSmaller cands part → AreCandidates names part
part_are names cands part are smaller =
    record {
      some = smaller.some;
      each =
          All-weaker (Contains cands) (IsCandidate names)
          (λ cand here. All-contains (IsCandidate names) cands cand are.each here) part
          smaller.among;
    }
