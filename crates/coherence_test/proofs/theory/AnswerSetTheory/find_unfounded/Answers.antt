use Rattle.std.proofs.Common.{refl, ap}
use Rattle.coherence_test.specs.AnswerSets.{Theorised}
use Rattle.coherence_test.proofs.FrontLemmas.{founded_followed, longer_followed, of_one}
use Rattle.coherence_test.proofs.FrontLemmas.{weights_followed}
use Rattle.coherence_test.proofs.theory.AnswerSetTheory.find_unfounded.Goals as goal

pub find-requires-clause-followed : goal.find-requires-clause-followed
find-requires-clause-followed c =
    founded_followed c.self.inside.normal.now c.self.inside.weights c.self.inside.unfounded
    c.self.inside.disjunctive c.self.invariant.0 c.args.self.now
    (ap (λ (it : Theorised). it.followed) c.self.view_is) c.args.trail.now.steps
    c.requires.followed

pub invariant_of-self : goal.invariant_of-self
invariant_of-self c = (
  of_one c.self.inside.normal.now c.self.inside.weights c.self.inside.weights
      c.self.inside.unfounded c.find.new.self c.self.inside.disjunctive c.args.trail.now.steps
      c.self.invariant.0 refl c.find.ensures.rest
      (weights_followed c.self.inside.normal.now c.self.inside.weights c.self.inside.unfounded
      c.self.inside.disjunctive c.self.invariant.0 c.args.self.now
      (ap (λ (it : Theorised). it.followed) c.self.view_is) c.args.trail.now.steps
      c.requires.followed) c.find.ensures.followed,
  c.self.invariant.1,
)

pub returns-clause-followed : goal.returns-clause-followed
returns-clause-followed c =
    longer_followed c.args.trail.now.steps c.self.inside.weights.followed c.find.new.self.followed
    (weights_followed c.self.inside.normal.now c.self.inside.weights c.self.inside.unfounded
    c.self.inside.disjunctive c.self.invariant.0 c.args.self.now
    (ap (λ (it : Theorised). it.followed) c.self.view_is) c.args.trail.now.steps
    c.requires.followed) c.find.ensures.followed
