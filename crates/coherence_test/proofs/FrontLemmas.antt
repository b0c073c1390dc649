-- Parts of a theory that follow fronts of the same assignments.
use Rattle.std.proofs.Common.{◌≡◌, ◌≤◌, Bool, true, false, List, length, map, take, sym, ap}
use Rattle.std.proofs.Common.{◌∙◌, subst, inl, inr, arith, ltb}
use Rattle.std.specs.Prelude.{if◌then◌else◌}
use Rattle.std.proofs.lemmas.Bool.{cases_Bool, ltb-true, ltb-false}
use Rattle.std.proofs.lemmas.List.{length-take, take-map, take-take, take_all}
use Rattle.clause_store.specs.declared.step.Step.{Step}
use Rattle.clause_store.specs.Trail.{Assigned}
use Rattle.clause_store.specs.Standing.{Followed, AreFollowed, HasGoneBack, as_followed}
use Rattle.normal_program.specs.declared.normal.Normal.{Normal}
use Rattle.weight_propagator.specs.Weighed.{Weighed}
use Rattle.unfounded_sets.specs.Followed.{Founding}
use Rattle.coherence_test.specs.AnswerSets.{Theorised, AreOfOne, longer, IsFrontOf}

-- a front of followed assignments is followed
pub front_followed : (steps : List Step) (one all : List Followed) → AreFollowed steps all
    → IsFrontOf one all → AreFollowed steps one
front_followed steps one all are front =
    let few : length one ≤ length all =
    omega (arith, ap length front, length-take (length one) all) in
    front ∙ ap (take (length one)) are ∙ take-map as_followed (length one) (take (length all) steps)
    ∙ ap (map as_followed) (take-take (length one) (length all) steps few)

-- of two that are followed the shorter one is a front of the other
pub shorter_front : (steps : List Step) (one two : List Followed) → AreFollowed steps one
    → AreFollowed steps two → length one ≤ length two → IsFrontOf one two
shorter_front steps one two first second few =
    first
    ∙ sym
    (ap (take (length one)) second ∙ take-map as_followed (length one) (take (length two) steps)
    ∙ ap (map as_followed) (take-take (length one) (length two) steps few))

whole_front : (one : List Followed) → IsFrontOf one one
whole_front one = sym (take_all (length one) one (omega arith))

longer_is : (one two : List Followed) (b : Bool) → ltb (length one) (length two) ≡ b
    → longer one two ≡ (if b then two else one)
longer_is one two b is = ap (λ (c : Bool). if c then two else one) is

module _ (steps : List Step) (one two : List Followed) (first : AreFollowed steps one)
    (second : AreFollowed steps two) where
  pub longer_followed : AreFollowed steps (longer one two)
  longer_followed = elim (cases_Bool (ltb (length one) (length two))) [
    | inl less ↦ subst (AreFollowed steps) (sym (longer_is one two true less)) second
    | inr no_less ↦ subst (AreFollowed steps) (sym (longer_is one two false no_less)) first
  ]

  pub first_front : IsFrontOf one (longer one two)
  first_front = elim (cases_Bool (ltb (length one) (length two))) [
    | inl less ↦
        subst (IsFrontOf one) (sym (longer_is one two true less))
        (shorter_front steps one two first second
        (omega (arith, ltb-true (length one) (length two) less)))
    | inr no_less ↦
        subst (IsFrontOf one) (sym (longer_is one two false no_less)) (whole_front one)
  ]

  pub second_front : IsFrontOf two (longer one two)
  second_front = elim (cases_Bool (ltb (length one) (length two))) [
    | inl less ↦
        subst (IsFrontOf two) (sym (longer_is one two true less)) (whole_front two)
    | inr no_less ↦
        subst (IsFrontOf two) (sym (longer_is one two false no_less))
        (shorter_front steps two one second first
        (omega (arith, ltb-false (length one) (length two) no_less)))
  ]

-- what went back for all went back for a front
pub front_gone_back : (trail : Assigned) (one all : List Followed) → HasGoneBack trail all
    → IsFrontOf one all → HasGoneBack trail one
front_gone_back trail one all gone front = record {
  earlier = gone.earlier;
  level = gone.level;
  was_trail = gone.was_trail;
  were_followed = front_followed gone.earlier one all gone.were_followed front;
  went_back = gone.went_back;
}

-- the parts after each followed the same trail
pub of_one : (normal : Normal) (weights now_weights : Weighed) (unfounded now_unfounded : Founding)
    (disjunctive : Bool) (steps : List Step) → AreOfOne normal weights unfounded disjunctive
    → now_weights ≡ record weights { followed = now_weights.followed }
    → now_unfounded ≡ record unfounded { followed = now_unfounded.followed }
    → AreFollowed steps now_weights.followed → AreFollowed steps now_unfounded.followed
    → AreOfOne normal now_weights now_unfounded disjunctive
of_one normal weights now_weights unfounded now_unfounded disjunctive steps are first second
    weighed founded = record {
      is_normal = are.is_normal;
      weighed = ap (λ (it : Weighed). it.normal) first ∙ are.weighed;
      everywhere = ap (λ (it : Weighed). it.inside) first ∙ are.everywhere;
      founded = ap (λ (it : Founding). it.normal) second ∙ are.founded;
      weights_front = first_front steps now_weights.followed now_unfounded.followed weighed founded;
      founded_front =
          second_front steps now_weights.followed now_unfounded.followed weighed founded;
      judged = are.judged;
    }

-- what each part follows of a trail that the theory follows
module _ (normal : Normal) (weights : Weighed) (unfounded : Founding) (disjunctive : Bool)
    (are : AreOfOne normal weights unfounded disjunctive) (theory : Theorised)
    (is : longer weights.followed unfounded.followed ≡ theory.followed) where
  pub weights_followed : (steps : List Step) → AreFollowed steps theory.followed
      → AreFollowed steps weights.followed
  weights_followed steps followed =
      front_followed steps weights.followed (longer weights.followed unfounded.followed)
      (subst (AreFollowed steps) (sym is) followed) are.weights_front

  pub founded_followed : (steps : List Step) → AreFollowed steps theory.followed
      → AreFollowed steps unfounded.followed
  founded_followed steps followed =
      front_followed steps unfounded.followed (longer weights.followed unfounded.followed)
      (subst (AreFollowed steps) (sym is) followed) are.founded_front

  pub weights_back : (trail : Assigned) → HasGoneBack trail theory.followed
      → HasGoneBack trail weights.followed
  weights_back trail back =
      front_gone_back trail weights.followed (longer weights.followed unfounded.followed)
      (subst (HasGoneBack trail) (sym is) back) are.weights_front

  pub founded_back : (trail : Assigned) → HasGoneBack trail theory.followed
      → HasGoneBack trail unfounded.followed
  founded_back trail back =
      front_gone_back trail unfounded.followed (longer weights.followed unfounded.followed)
      (subst (HasGoneBack trail) (sym is) back) are.founded_front
