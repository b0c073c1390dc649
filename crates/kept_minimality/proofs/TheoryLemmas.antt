-- The theory keeps its laws.
use Rattle.std.proofs.Common.{◌≡◌, ◌≤◌, ℕ, List, None, refl, subst}
use Rattle.std.specs.Prelude.{Result, Ok, Err, IfOk}
use Rattle.clause_store.specs.declared.literal.Lit.{Lit}
use Rattle.clause_store.specs.declared.theory_says.Says.{Says}
use Rattle.clause_store.specs.declared.theory_says.Says.TheVariants.{Quiet, Clause as Given}
use Rattle.clause_store.specs.Clause.{Meets}
use Rattle.clause_store.specs.Standing.{Followed}
use Rattle.clause_store.specs.Trail.{Assigned, IsTotal, IsTrail, values_of}
use Rattle.normal_program.specs.declared.normal.Normal.{Normal}
use Rattle.normal_program.specs.Clauses.{base_clauses}
use Rattle.normal_program.specs.Models.{set_of}
use Rattle.normal_program.specs.Normal.{greatest_body_var}
use Rattle.normal_program.proofs.RangeLemmas.{IsNormal-in_range}
use Rattle.weight_propagator.specs.Gives.{IsQuiet}
use Rattle.weight_propagator.specs.Weighed.{Weighed, IsSaid, IsGiven as GivenByWeights}
use Rattle.assumption_engine.specs.Theory.{IsGiven, IsChecked}
use Rattle.minimality_test.proofs.PartLemmas.{checked, speaks_over}
use Rattle.kept_minimality.specs.Pairing.{AreOfPair, meaning_of, Paired}
use Rattle.kept_minimality.proofs.ModelLemmas.{holds_beyond, total_model}

module _ (pair : Normal) (weights : Weighed) (are : AreOfPair pair weights) (trail : Assigned)
    (clause : List Lit) where
  -- what the weight bodies give may be given
  given_is : GivenByWeights None pair trail clause → IsGiven (meaning_of pair) trail clause
  given_is given = record {
    may = given.follows;
    holds =
        λ values model. holds_beyond pair values clause
        (speaks_over pair (IsNormal-in_range pair are.is_normal) clause given.follows.one.0
        given.follows.one.1 given.follows.one.2) model
        (given.follows.holds (set_of pair values) model.over);
    once = given.once;
    over = given.over;
    standing = given.standing;
  }

  said_given : (says : Says) → IsSaid weights.inside pair trail clause says → says ≡ Given
      → IsGiven (meaning_of pair) trail clause
  said_given Quiet said is = absurd (cc)
  said_given Given said is =
      given_is (subst (λ inside. GivenByWeights inside pair trail clause) are.everywhere said)

  -- what a call of the weight bodies gives
  pub call_gives : {E : Type 0} (result : Result Says E)
      → IfOk result (IsSaid weights.inside pair trail clause)
      → IfOk result (λ says. says ≡ Given → IsGiven (meaning_of pair) trail clause)
  call_gives (Ok says) said = said_given says said
  call_gives (Err e) said = tt

  -- the answer about a total trail
  call_checks : (limit : ℕ) → IsTrail trail → IsTotal trail
      → greatest_body_var pair ≤ trail.vars → Meets (values_of trail) (base_clauses pair)
      → (says : Says) → IsSaid weights.inside pair trail clause says
      → IsChecked (meaning_of pair) trail limit clause (checked says)
  call_checks limit is total range meets Quiet said =
      total_model pair trail are.is_normal
      (record { is_trail = is; total = total; over = range }) meets
      (subst (λ inside. IsQuiet inside pair trail.steps) are.everywhere said)
  call_checks limit is total range meets Given said = said_given Given said refl

  -- so in the words of what contracts see of the theory
  pub theory_checks : (theory : Paired) (followed : List Followed)
      → record { pair = pair; followed = followed } ≡ theory → (limit : ℕ)
      → IsTrail trail → IsTotal trail → greatest_body_var theory.pair ≤ trail.vars
      → Meets (values_of trail) (base_clauses theory.pair) → (says : Says)
      → IsSaid weights.inside pair trail clause says
      → IsChecked (meaning_of theory.pair) trail limit clause (checked says)
  theory_checks theory followed view limit is total range meets says said =
      subst
      (λ (it : Paired). greatest_body_var it.pair ≤ trail.vars
      → Meets (values_of trail) (base_clauses it.pair)
      → IsChecked (meaning_of it.pair) trail limit clause (checked says)) view
      (λ range meets. call_checks limit is total range meets says said) range meets
