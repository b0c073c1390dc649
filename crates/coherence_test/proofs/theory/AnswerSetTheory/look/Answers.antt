use Rattle.std.proofs.Common.{refl, ap, subst}
use Rattle.coherence_test.specs.AnswerSets.{Theorised}
use Rattle.coherence_test.specs.Looking.{IsFoundOn}
use Rattle.coherence_test.proofs.FrontLemmas.{founded_followed, longer_followed, of_one}
use Rattle.coherence_test.proofs.FrontLemmas.{weights_followed}
use Rattle.coherence_test.proofs.GivenLemmas.{loop_given, nothing_said, weight_given}
use Rattle.coherence_test.proofs.theory.AnswerSetTheory.look.Goals as goal

pub returns-in-Clause-clause-says : goal.returns-in-Clause-clause-says
returns-in-Clause-clause-says c =
    rw (← c.self.view_is)
    (weight_given c.self.inside.normal.now c.self.inside.weights.inside c.args.trail.now
    c.propagate.new.out c.in_ok-propagate.field-0 c.self.invariant.0.is_normal
    c.self.invariant.0.everywhere c.in-Clause.is c.in_ok-propagate.ensures.says)

pub returns-in-Loop-clause-says : goal.returns-in-Loop-clause-says
returns-in-Loop-clause-says c =
    let range = rw (← c.self.view_is) at c.requires.range in
    rw (← c.self.view_is)
    (loop_given c.self.inside.normal.now c.args.trail.now c.find_unfounded.new.out
    c.self.invariant.0.is_normal range
    (subst (IsFoundOn c.self.inside.normal.now c.args.trail.now c.find_unfounded.new.out)
    c.in-Loop.is c.in_ok-find_unfounded.ensures.found))

pub returns-in-Nothing-clause-says : goal.returns-in-Nothing-clause-says
returns-in-Nothing-clause-says c =
    rw (← c.self.view_is)
    (nothing_said c.self.inside.normal.now c.self.inside.weights.inside c.args.trail.now
    c.propagate.new.out c.in_ok-propagate.field-0 c.self.invariant.0.everywhere c.in_default.is
    c.in_ok-propagate.ensures.says
    (subst (IsFoundOn c.self.inside.normal.now c.args.trail.now c.find_unfounded.new.out)
    c.in-Nothing.is c.in_ok-find_unfounded.ensures.found))

pub propagate-requires-clause-followed : goal.propagate-requires-clause-followed
propagate-requires-clause-followed c =
    weights_followed c.self.inside.normal.now c.self.inside.weights c.self.inside.unfounded
    c.self.inside.disjunctive c.self.invariant.0 c.args.self.now
    (ap (λ (it : Theorised). it.followed) c.self.view_is) c.args.trail.now.steps
    c.requires.followed

pub invariant_of-self : goal.invariant_of-self
invariant_of-self c = (
  of_one c.self.inside.normal.now c.self.inside.weights c.propagate.new.self
      c.self.inside.unfounded c.self.inside.unfounded c.self.inside.disjunctive
      c.args.trail.now.steps c.self.invariant.0 c.propagate.ensures.rest refl
      c.propagate.ensures.followed
      (founded_followed c.self.inside.normal.now c.self.inside.weights c.self.inside.unfounded
      c.self.inside.disjunctive c.self.invariant.0 c.args.self.now
      (ap (λ (it : Theorised). it.followed) c.self.view_is) c.args.trail.now.steps
      c.requires.followed),
  c.self.invariant.1,
)

pub invariant_of-self-in-Clause : goal.invariant_of-self-in-Clause
invariant_of-self-in-Clause c = (
  of_one c.self.inside.normal.now c.self.inside.weights c.propagate.new.self
      c.self.inside.unfounded c.self.inside.unfounded c.self.inside.disjunctive
      c.args.trail.now.steps c.self.invariant.0 c.propagate.ensures.rest refl
      c.propagate.ensures.followed
      (founded_followed c.self.inside.normal.now c.self.inside.weights c.self.inside.unfounded
      c.self.inside.disjunctive c.self.invariant.0 c.args.self.now
      (ap (λ (it : Theorised). it.followed) c.self.view_is) c.args.trail.now.steps
      c.requires.followed),
  c.self.invariant.1,
)

pub invariant_of-self-2 : goal.invariant_of-self-2
invariant_of-self-2 c = (
  of_one c.self.inside.normal.now c.self.inside.weights c.propagate.new.self
      c.self.inside.unfounded c.self.inside.unfounded c.self.inside.disjunctive
      c.args.trail.now.steps c.self.invariant.0 c.propagate.ensures.rest refl
      c.propagate.ensures.followed
      (founded_followed c.self.inside.normal.now c.self.inside.weights c.self.inside.unfounded
      c.self.inside.disjunctive c.self.invariant.0 c.args.self.now
      (ap (λ (it : Theorised). it.followed) c.self.view_is) c.args.trail.now.steps
      c.requires.followed),
  c.self.invariant.1,
)

pub returns-in_err-propagate-clause-followed : goal.returns-in_err-propagate-clause-followed
returns-in_err-propagate-clause-followed c =
    longer_followed c.args.trail.now.steps c.propagate.new.self.followed
    c.self.inside.unfounded.followed c.propagate.ensures.followed
    (founded_followed c.self.inside.normal.now c.self.inside.weights c.self.inside.unfounded
    c.self.inside.disjunctive c.self.invariant.0 c.args.self.now
    (ap (λ (it : Theorised). it.followed) c.self.view_is) c.args.trail.now.steps
    c.requires.followed)

pub returns-in-Clause-clause-followed : goal.returns-in-Clause-clause-followed
returns-in-Clause-clause-followed c =
    longer_followed c.args.trail.now.steps c.propagate.new.self.followed
    c.self.inside.unfounded.followed c.propagate.ensures.followed
    (founded_followed c.self.inside.normal.now c.self.inside.weights c.self.inside.unfounded
    c.self.inside.disjunctive c.self.invariant.0 c.args.self.now
    (ap (λ (it : Theorised). it.followed) c.self.view_is) c.args.trail.now.steps
    c.requires.followed)

pub find_unfounded-requires-clause-followed : goal.find_unfounded-requires-clause-followed
find_unfounded-requires-clause-followed c =
    longer_followed c.args.trail.now.steps c.propagate.new.self.followed
    c.self.inside.unfounded.followed c.propagate.ensures.followed
    (founded_followed c.self.inside.normal.now c.self.inside.weights c.self.inside.unfounded
    c.self.inside.disjunctive c.self.invariant.0 c.args.self.now
    (ap (λ (it : Theorised). it.followed) c.self.view_is) c.args.trail.now.steps
    c.requires.followed)
