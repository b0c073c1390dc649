use Rattle.std.proofs.Common.{◌∙◌, sym, ap₂, subst, ◌<◌, ◌≤◌}
use Rattle.clause_store.specs.Trail.{Assigned}
use Rattle.clause_store.proofs.lemmas.Trails.FollowedLemmas.{goes_back}
use Rattle.clause_store.proofs.ReasonLemmas.{way_goes_on, up_to_all}
use Rattle.clause_store.proofs.trail.Trail.back_to.Goals as goal

pub loop-self-preserved : goal.loop-self-preserved
loop-self-preserved c = (
  c.undo.ensures.vars ∙ c.loop-self.invariant.0,
  way_goes_on c.args.level c.args.self.now.steps c.loop-self.self.steps c.undo.new.self.steps
      c.loop-self.invariant.1
      (subst (λ level. c.args.level < level) c.level.ensures.level c.loop-self-test.true)
      c.undo.ensures.steps,
)

pub returns-clause-steps : goal.returns-clause-steps
returns-clause-steps c =
    ap₂ (λ vars steps. let trail : Assigned = record { vars = vars; steps = steps } in trail)
    c.loop-self.invariant.0
    (sym
    (up_to_all c.args.level c.loop-self.self.steps
    (subst (λ level. level ≤ c.args.level) c.level.ensures.level c.loop-self-test.false))
    ∙ c.loop-self.invariant.1.kept)

pub returns-clause-back : goal.returns-clause-back
returns-clause-back c =
    goes_back c.args.self.now c.loop-self.self c.args.level c.vouch.ensures
    (returns-clause-steps c)
