-- What weight bodies and founding say, and that what they give is what the theory gives.
use Rattle.std.proofs.Common.{◌≡◌, ◌≤◌, ◌<◌, ℕ, Bool, List, Option, None, inl, inr, subst, length}
use Rattle.std.proofs.Common.{arith, ⊎_elim}
use Rattle.std.specs.Prelude.{All, Err, Ok, OnOk, Result}
use Rattle.std.proofs.lemmas.List.Elements.{All-contains}
use Rattle.std.proofs.lemmas.Option.{slice_get_within, get_or_from_slice_get}
use Rattle.clause_store.specs.declared.literal.Lit.{Lit}
use Rattle.clause_store.specs.declared.theory_says.Says.{Says}
use Rattle.clause_store.specs.declared.theory_says.Says.TheVariants.{Quiet, Clause as Given}
use Rattle.clause_store.specs.Clause.{IsOver}
use Rattle.clause_store.specs.Trail.{Assigned}
use Rattle.normal_program.specs.declared.normal.Normal.{Normal}
use Rattle.normal_program.specs.declared.normal.Part.{Part}
use Rattle.normal_program.specs.declared.normal.BodyOf.{BodyOf}
use Rattle.normal_program.specs.Normal.{greatest_body_var}
use Rattle.normal_program.specs.Limit.{IsNormal}
use Rattle.normal_program.specs.Loop.{FollowsFromBody, IsAtomOf}
use Rattle.normal_program.proofs.RangeLemmas.{IsNormal-in_range}
use Rattle.weight_propagator.specs.Weighed.{IsSaid}
use Rattle.unfounded_sets.specs.Found.{AreFounded, IsLoopWritten}
use Rattle.assumption_engine.specs.Theory.{IsGiven}
use Rattle.coherence_test.specs.AnswerSets.{answer_sets}
use Rattle.coherence_test.specs.Looking.{HasNothing}
use Rattle.coherence_test.proofs.LocalLemmas.{local_holds}

-- a clause of one weight body is over atoms and bodies
speaks_over : (normal : Normal) (clause : List Lit) (vars : ℕ) → IsNormal normal
    → FollowsFromBody normal clause → All (IsOver vars) clause
    → All (IsOver (greatest_body_var normal)) clause
speaks_over normal clause vars is follows over k d within =
    let number = follows.one.0 in
    let body = follows.one.1 in
    let speaks = follows.one.2 in
    let range = IsNormal-in_range normal is in
    let low : number < length normal.bodies =
    slice_get_within normal.bodies number body speaks.here in
    let parts : All (λ (part : Part). IsAtomOf normal part.lit.atom) body.parts =
    subst (λ (one : BodyOf). All (λ (part : Part). IsAtomOf normal part.lit.atom) one.parts)
    (get_or_from_slice_get normal.bodies number body body speaks.here)
    (range.parts number body low) in
    record {
      first = (over k d within).first;
      last =
          ⊎_elim (λ same. omega (arith, same, low))
          (λ some.
          let atom : IsAtomOf normal some.1.lit.atom =
          All-contains (λ (part : Part). IsAtomOf normal part.lit.atom) body.parts some.1 parts
          (some.0, some.2, some.3) in
          omega (arith, some.4, atom.last))
          (speaks.only k d within);
    }

-- a clause of a weight body
pub weight_given : (normal : Normal) (inside : Option (List Bool)) (trail : Assigned)
    (clause : List Lit) (says : Says) → IsNormal normal → inside ≡ None → says ≡ Given
    → IsSaid inside normal trail clause says → IsGiven (answer_sets normal) trail clause
weight_given normal inside trail clause says is everywhere that said =
    let given = subst (λ (one : Says). IsSaid None normal trail clause one) that
    (subst (λ (one : Option (List Bool)). IsSaid one normal trail clause says) everywhere said) in
    record {
      may = record {
        local = inr given.follows;
        over = speaks_over normal clause trail.vars is given.follows given.over;
      };
      holds = λ values model. local_holds normal clause values is (inr given.follows) model;
      once = given.once;
      over = given.over;
      standing = given.standing;
    }

-- a loop clause
pub loop_given : (normal : Normal) (trail : Assigned) (clause : List Lit) → IsNormal normal
    → greatest_body_var normal ≤ trail.vars → IsLoopWritten normal trail clause
    → IsGiven (answer_sets normal) trail clause
loop_given normal trail clause is range written = record {
  may = record { local = inl written.is_loop; over = written.over };
  holds = λ values model. local_holds normal clause values is (inl written.is_loop) model;
  once = written.once;
  over = λ k d within. record {
    first = (written.over k d within).first;
    last = omega (arith, range, (written.over k d within).last);
  };
  standing = written.standing;
}

-- where a call wrote one
pub loops_given : {A E : Type 0} (normal : Normal) (trail : Assigned) (clause : List Lit)
    → IsNormal normal → greatest_body_var normal ≤ trail.vars → (result : Result A E)
    → OnOk result (IsLoopWritten normal trail clause)
    → OnOk result (IsGiven (answer_sets normal) trail clause)
loops_given normal trail clause is range (Ok done) written =
    loop_given normal trail clause is range written
loops_given normal trail clause is range (Err e) written = tt

-- weight bodies are quiet, and all is founded
pub nothing_said : (normal : Normal) (inside : Option (List Bool)) (trail : Assigned)
    (clause : List Lit) (says : Says) → inside ≡ None → says ≡ Quiet
    → IsSaid inside normal trail clause says → AreFounded normal trail.steps
    → HasNothing normal trail
nothing_said normal inside trail clause says everywhere quiet said founded = record {
  quiet =
      subst (λ (it : Says). IsSaid None normal trail clause it) quiet
      (subst (λ (it : Option (List Bool)). IsSaid it normal trail clause says) everywhere said);
  founded = founded;
}
