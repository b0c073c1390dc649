use Rattle.std.proofs.Common.{ap}
use Rattle.coherence_test.specs.AnswerSets.{Theorised}
use Rattle.coherence_test.proofs.FrontLemmas.{founded_back, of_one, weights_back}
use Rattle.coherence_test.proofs.theory.AnswerSetTheoryTheory.undo.Goals as goal

pub undo-requires-clause-back : goal.undo-requires-clause-back
undo-requires-clause-back c =
    weights_back c.self.inside.normal.now c.self.inside.weights c.self.inside.unfounded
    c.self.inside.disjunctive c.self.invariant.0 c.args.self.now
    (ap (λ (it : Theorised). it.followed) c.self.view_is) c.args.trail.now c.requires.back

pub undo-requires-2 : goal.undo-requires-2
undo-requires-2 c =
    founded_back c.self.inside.normal.now c.self.inside.weights c.self.inside.unfounded
    c.self.inside.disjunctive c.self.invariant.0 c.args.self.now
    (ap (λ (it : Theorised). it.followed) c.self.view_is) c.args.trail.now c.requires.back

pub invariant_of-self : goal.invariant_of-self
invariant_of-self c = (
  of_one c.self.inside.normal.now c.self.inside.weights c.undo.new.self
      c.self.inside.unfounded c.undo-2.new.self c.self.inside.disjunctive c.args.trail.now.steps
      c.self.invariant.0 c.undo.ensures.rest c.undo-2.ensures.rest c.undo.ensures.followed
      c.undo-2.ensures.followed,
  c.self.invariant.1,
)
