-- The theory keeps its laws.
use Rattle.std.proofs.Common.{◌≡◌, ◌≤◌, ◌<◌, ◌+◌, ◌⊎◌, ℕ, Bool, List, length, take, get_or}
use Rattle.std.proofs.Common.{Some, refl, sym, subst, inl, inr, arith}
use Rattle.std.specs.Prelude.{All, Any, Result, Ok, Err, IfOk}
use Rattle.std.proofs.lemmas.List.Elements.{All-contains}
use Rattle.std.proofs.lemmas.Option.{slice_get_within, get_or_from_slice_get}
use Rattle.ground_program.specs.Meaning.{IsSetOver}
use Rattle.clause_store.specs.declared.literal.Lit.{Lit}
use Rattle.clause_store.specs.declared.theory_says.Says.{Says}
use Rattle.clause_store.specs.declared.theory_says.Says.TheVariants.{Quiet, Clause as Given}
use Rattle.clause_store.specs.Clause.{variable, HoldsIn, IsOver, Meets}
use Rattle.clause_store.specs.Standing.{Followed}
use Rattle.clause_store.specs.Trail.{Assigned, IsTotal, IsTrail, values_of}
use Rattle.clause_store.proofs.FrontLemmas.{holds_in_front}
use Rattle.normal_program.specs.declared.normal.Part.{Part}
use Rattle.normal_program.specs.declared.normal.BodyOf.{BodyOf}
use Rattle.normal_program.specs.declared.normal.Normal.{Normal}
use Rattle.normal_program.specs.Limit.{IsNormal}
use Rattle.normal_program.specs.Loop.{IsAtomOf, IsLocalWithin, SpeaksOf}
use Rattle.normal_program.specs.Models.{set_of}
use Rattle.normal_program.specs.Normal.{body_var, greatest_body_var}
use Rattle.normal_program.specs.Range.{IsInRange}
use Rattle.normal_program.specs.Spent.{inner_clauses}
use Rattle.normal_program.proofs.RangeLemmas.{IsNormal-in_range}
use Rattle.completion.proofs.SmallerLemmas.{met_makes_smaller}
use Rattle.weight_propagator.specs.Gives.{IsQuiet}
use Rattle.weight_propagator.specs.Weighed.{Weighed, IsSaid, IsGiven as GivenByWeights}
use Rattle.assumption_engine.specs.declared.check.Check.{Check}
use Rattle.assumption_engine.specs.declared.check.Check.TheVariants.{Accept, Clause as Refused}
use Rattle.assumption_engine.specs.Theory.{IsGiven, IsChecked}
use Rattle.minimality_test.specs.Parts.{AreParts, IsPartModel, PartsOf, meaning_of}
use Rattle.minimality_test.proofs.TotalLemmas.{assigns}
use Rattle.minimality_test.proofs.QuietLemmas.{quiet_means}

-- a clause that speaks of one weight body is over atoms and bodies
pub speaks_over : (normal : Normal) → IsInRange normal → (clause : List Lit) (number : ℕ)
    (body : BodyOf) → SpeaksOf normal clause number body
    → All (IsOver (greatest_body_var normal)) clause
speaks_over normal in_range clause number body is k d within =
    by (get_or clause k d) (is.only k d within)
  where
    low : number < length normal.bodies
    low = slice_get_within normal.bodies number body is.here

    atoms : All (λ (part : Part). IsAtomOf normal part.lit.atom) body.parts
    atoms =
        subst (λ (one : BodyOf). All (λ (part : Part). IsAtomOf normal part.lit.atom) one.parts)
        (get_or_from_slice_get normal.bodies number body body is.here)
        (in_range.parts number body low)

    by : (lit : Lit)
        → (variable lit ≡ body_var normal number)
        ⊎ Any (λ (part : Part). variable lit ≡ part.lit.atom) body.parts
        → IsOver (greatest_body_var normal) lit
    by lit (inl same) =
        record { first = omega (arith, same); last = omega (arith, same, low) }
    by lit (inr (at, part, inside, here, same)) =
        let atom =
        All-contains (λ (one : Part). IsAtomOf normal one.lit.atom) body.parts part atoms
        (at, inside, here) in
        record {
          first = omega (arith, same, atom.first);
          last = omega (arith, same, atom.last);
        }

-- a clause local within the set holds in each model
pub local_holds : (normal : Normal) → IsNormal normal → (set : List Bool)
    → IsSetOver normal.atoms set → (clause : List Lit) → IsLocalWithin normal set clause
    → (values : List Bool) → IsPartModel normal set values → HoldsIn values clause
local_holds normal is_normal set over clause local values model =
    let in_range = IsNormal-in_range normal is_normal in
    let part = met_makes_smaller normal in_range set over values model.assigns model.met in
    let count : normal.atoms + 1 + length normal.bodies ≡ greatest_body_var normal + 1 =
    omega arith in
    (holds_in_front (greatest_body_var normal) values clause
    (speaks_over normal in_range clause local.one.0 local.one.1 local.one.2)).1
    (subst (λ n. HoldsIn (take n values) clause) count
    (subst (λ front. HoldsIn front clause) (sym part.extends)
    (local.holds (set_of normal values) part.smaller.proper.positions part.smaller.proper.inside)))

-- what the weight bodies give may be given
pub given_is : (normal : Normal) → IsNormal normal → (set : List Bool)
    → IsSetOver normal.atoms set → (trail : Assigned) (clause : List Lit)
    → GivenByWeights (Some set) normal trail clause → IsGiven (meaning_of normal set) trail clause
given_is normal is_normal set over trail clause given = record {
  may = given.follows;
  holds = local_holds normal is_normal set over clause given.follows;
  once = given.once;
  over = given.over;
  standing = given.standing;
}

-- a total trail that meets the clauses, and on which no weight body gives one, is a model
pub accepted : (normal : Normal) → IsNormal normal → (set : List Bool) (trail : Assigned)
    → IsTrail trail → IsTotal trail → greatest_body_var normal ≤ trail.vars
    → Meets (values_of trail) (inner_clauses normal set)
    → IsQuiet (Some set) normal trail.steps → IsPartModel normal set (values_of trail)
accepted normal is_normal set trail is total range meets quiet = record {
  assigns = assigns normal trail is range;
  met = record {
    clauses = meets;
    weights =
        quiet_means normal (IsNormal-in_range normal is_normal) set trail total range quiet;
  };
}

-- ---- what is said

-- the answer about a total trail, by what the weight bodies say
abbrev pub checked : Says → Check
checked Quiet = Accept
checked Given = Refused

module _ (normal : Normal) (set : List Bool) (weights : Weighed) (are : AreParts normal set weights)
    (trail : Assigned) (clause : List Lit) where
  said_given : (says : Says) → IsSaid weights.inside normal trail clause says → says ≡ Given
      → IsGiven (meaning_of normal set) trail clause
  said_given Quiet said is = absurd (cc)
  said_given Given said is =
      given_is normal are.normal_form set are.over trail clause
      (subst (λ inside. GivenByWeights inside normal trail clause) are.inside said)

  -- what a call of the weight bodies gives
  pub call_gives : {E : Type 0} (result : Result Says E)
      → IfOk result (IsSaid weights.inside normal trail clause)
      → IfOk result (λ says. says ≡ Given → IsGiven (meaning_of normal set) trail clause)
  call_gives (Ok says) said = said_given says said
  call_gives (Err e) said = tt

  -- the answer about a total trail
  pub call_checks : (limit : ℕ) → IsTrail trail → IsTotal trail
      → greatest_body_var normal ≤ trail.vars
      → Meets (values_of trail) (inner_clauses normal set) → (says : Says)
      → IsSaid weights.inside normal trail clause says
      → IsChecked (meaning_of normal set) trail limit clause (checked says)
  call_checks limit is total range meets Quiet said =
      accepted normal are.normal_form set trail is total range meets
      (subst (λ inside. IsQuiet inside normal trail.steps) are.inside said)
  call_checks limit is total range meets Given said = said_given Given said refl

  -- so in the words of what contracts see of the theory
  pub theory_checks : (parts : PartsOf) (followed : List Followed)
      → record { normal = normal; set = set; followed = followed } ≡ parts → (limit : ℕ)
      → IsTrail trail → IsTotal trail → greatest_body_var parts.normal ≤ trail.vars
      → Meets (values_of trail) (inner_clauses parts.normal parts.set) → (says : Says)
      → IsSaid weights.inside normal trail clause says
      → IsChecked (meaning_of parts.normal parts.set) trail limit clause (checked says)
  theory_checks parts followed view limit is total range meets says said =
      subst
      (λ (it : PartsOf). greatest_body_var it.normal ≤ trail.vars
      → Meets (values_of trail) (inner_clauses it.normal it.set)
      → IsChecked (meaning_of it.normal it.set) trail limit clause (checked says)) view
      (λ range meets. call_checks limit is total range meets says said) range meets
