use Rattle.std.proofs.Common.{◌∙◌, ap, sym}
use Rattle.clause_store.proofs.PlaceLemmas.{step_read, step_lacking}
use Rattle.clause_store.proofs.trail.Trail.step_of.Goals as goal

pub returns-in-Some : goal.returns-in-Some
returns-in-Some c =
    step_read c.self.inside.steps.items c.args.self.now.steps c.args.var.0 c.in-Some.place
    c.index.result.now (ap (λ trail. trail.steps) c.self.view_is)
    (sym c.place_of.ensures ∙ c.in-Some.is) c.index.ensures

pub returns-in-None : goal.returns-in-None
returns-in-None c =
    step_lacking c.args.self.now.steps c.args.var.0 (sym c.place_of.ensures ∙ c.in-None.is)
