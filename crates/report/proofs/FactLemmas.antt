-- The program of one fact, with one name, has an answer set and a legal report that says so.
use Rattle.std.proofs.Common.{◌≡◌, ◌<◌, ◌⊎◌, ℕ, zero, suc, Bool, true, false, List, [], ◌∷◌}
use Rattle.std.proofs.Common.{length, get_or, refl, inl, inr, arith}
use Rattle.std.specs.Prelude.{All, Any}
use Rattle.ground_program.specs.declared.program.Mode.TheVariants.{Cautious}
use Rattle.ground_program.specs.declared.program.Kind.TheVariants.{Basic}
use Rattle.ground_program.specs.declared.program.Rule.{Rule}
use Rattle.ground_program.specs.declared.program.Program.{Program}
use Rattle.ground_program.specs.Meaning.{IsAnswerSet, IsProperSubset, Keeps, SomeFails, has, IsIn}
use Rattle.ground_program.specs.Bounds.{IsCandidate, IsConsequence}
use Rattle.report.specs.declared.lines.Line.{Line}
use Rattle.report.specs.declared.lines.Line.TheVariants.{Answer, SettledIn, Sizes, Complete}
use Rattle.report.specs.Legal.{IsLegalReport, IsLegalSoFar, IsComplete, IsOpen, IsSettled}
use Rattle.report.specs.Legal.{Settles}
use Rattle.report.proofs.LegalLemmas.{Any-last, so_far_none, so_far_then, legal_complete}
use Rattle.report.proofs.LegalLemmas.{inside_unwatched, watched_unwatched}

-- the rule of one head, atom 2, and no body
abbrev pub fact : Rule
fact = record { kind = Basic; heads = 2 ∷ []; bound = 0; body = [] }

-- the program of this rule: atom 2 is named `a`, and atom 1 is false
abbrev pub one_fact : Program
one_fact = record {
  atoms = 2;
  rules = fact ∷ [];
  names = record { atom = 2; name = 97 ∷ [] } ∷ [];
  must = [];
  must_not = 1 ∷ [];
  models = 1;
}

-- its answer set
abbrev pub fact_set : List Bool
fact_set = false ∷ false ∷ true ∷ []

-- a set that has atom 2 alone is that set
same_set : (set : List Bool) → length set ≡ 3 → ¬ IsIn set 0 → ¬ IsIn set 1 → IsIn set 2
    → set ≡ fact_set
same_set [] size none one two = absurd (omega arith)
same_set (a ∷ []) size none one two = absurd (omega arith)
same_set (a ∷ b ∷ []) size none one two = absurd (omega arith)
same_set (true ∷ b ∷ c ∷ []) size none one two = absurd (none refl)
same_set (false ∷ true ∷ c ∷ []) size none one two = absurd (one refl)
same_set (false ∷ false ∷ true ∷ []) size none one two = refl
same_set (false ∷ false ∷ false ∷ []) size none one two = absurd (cc)
same_set (a ∷ b ∷ c ∷ d ∷ set) size none one two = absurd (omega arith)

-- a set that keeps the fact has atom 2
has_fact : (by set : List Bool) → Keeps by set fact → IsIn set 2
has_fact by set keeps = keeps (omega arith) 0 0 (omega arith)

-- what holds of the only element of a list holds of each
only_one : {X : Type 0} (P : X → Type 0) (x : X) → P x → All P (x ∷ [])
only_one P x holds = λ k d inside. at_place P x holds k d inside
  where
    at_place : {X : Type 0} (P : X → Type 0) (x : X) → P x → (k : ℕ) (d : X) → k < 1
        → P (get_or (x ∷ []) k d)
    at_place P x holds zero d inside = holds
    at_place P x holds (suc k) d inside = absurd (omega arith)

-- the fact fails in each proper part of the set
fact_fails : (smaller : List Bool) → IsProperSubset smaller fact_set
    → SomeFails fact_set smaller (fact ∷ [])
fact_fails smaller proper = (
  0,
  fact,
  omega arith,
  refl,
  λ keeps. proper.other (same_set smaller proper.positions
      (λ in_zero. let no : has fact_set 0 ≡ true = proper.inside 0 in_zero in cc)
      (λ in_one. let no : has fact_set 1 ≡ true = proper.inside 1 in_one in cc)
      (has_fact fact_set smaller keeps)),
)

-- the set is an answer set
fact_answers : IsAnswerSet one_fact fact_set
fact_answers = record {
  over = record { positions = refl; no_atom = refl };
  compute = record {
    must = λ k d inside. absurd (omega arith);
    must_not = only_one (λ atom. ¬ IsIn fact_set atom) 1 (λ (no : has fact_set 1 ≡ true). cc);
  };
  keeps = only_one (Keeps fact_set fact_set) fact (λ holds. only_one (IsIn fact_set) 2 refl);
  least = fact_fails;
}

-- its lines so far: the answer set, the candidate, the sizes
abbrev pub fact_lines : List Line
fact_lines = Answer 1 fact_set ∷ SettledIn 1 0 ∷ Sizes 1 1 ∷ []

-- the candidate is a consequence
fact_follows : IsConsequence one_fact Cautious 1
fact_follows other answers = has_fact other other (answers.keeps 0 fact (omega arith))

-- no line settles it before its own
fact_open : IsOpen one_fact.names (Answer 1 fact_set ∷ []) 1
fact_open = record {
  candidate = record { first = omega arith; last = omega arith };
  unsettled = λ settled. no_answer (Any-last (Settles 1) [] (Answer 1 fact_set) settled);
}
  where
    no_answer : Any (Settles 1) [] ⊎ ⊥ → ⊥
    no_answer (inl (k, x, inside, is, holds)) = absurd (omega (arith, inside))
    no_answer (inr never) = never

-- it is the only one, and its line settles it
fact_settles : (after : List Line) (cand : ℕ) → IsCandidate one_fact.names cand
    → IsSettled (Answer 1 fact_set ∷ SettledIn 1 0 ∷ after) cand
fact_settles after cand candidate =
    let same : 1 ≡ cand = omega (arith, candidate.first, candidate.last) in
    (1, SettledIn 1 0, omega arith, refl, same)

-- each line may stand behind those before it
fact_so_far : IsLegalSoFar one_fact Cautious 0 fact_lines
fact_so_far =
    so_far_then one_fact Cautious 0 (Answer 1 fact_set ∷ SettledIn 1 0 ∷ []) (Sizes 1 1)
    (so_far_then one_fact Cautious 0 (Answer 1 fact_set ∷ []) (SettledIn 1 0)
    (so_far_then one_fact Cautious 0 [] (Answer 1 fact_set) (so_far_none one_fact Cautious 0)
    (record { counted = refl; answer_set = fact_answers; news = inl refl }))
    (record { unsettled = fact_open; consequence = fact_follows; named = refl }))
    (record {
      lower = refl;
      upper = refl;
      shown = λ cand by candidate shown. fact_settles [] cand candidate;
      news = λ same. cc;
    })

-- every candidate is settled
fact_complete : IsComplete one_fact 0 fact_lines
fact_complete = record {
  answered = omega arith;
  settled = fact_settles (Sizes 1 1 ∷ []);
  sized = record {
    before = Answer 1 fact_set ∷ SettledIn 1 0 ∷ [];
    after = [];
    sizes = record { lower = 1; upper = 1 };
    parts = refl;
    settled_in = refl;
    settled_out = refl;
  };
  watched = watched_unwatched fact_lines;
}

-- so this report is legal
pub legal_fact : (budget : ℕ) → IsLegalReport one_fact Cautious 0 budget
    (Answer 1 fact_set ∷ SettledIn 1 0 ∷ Sizes 1 1 ∷ Complete ∷ [])
legal_fact budget =
    legal_complete one_fact Cautious 0 budget fact_lines fact_so_far (inside_unwatched fact_lines)
    fact_complete
