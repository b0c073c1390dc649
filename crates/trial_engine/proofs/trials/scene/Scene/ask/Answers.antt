use Rattle.trial_engine.proofs.SceneLemmas.{still_sound}
use Rattle.trial_engine.proofs.trials.scene.Scene.ask.Goals as goal

pub invariant_of-self : goal.invariant_of-self
invariant_of-self c =
    let old = c.self.inside.engine in
    let new = c.ask.new.self in
    still_sound old.theory new.theory old.state new.state old.defined new.defined old.dead new.dead
    c.self.inside.listed c.self.invariant c.ask.ensures.right c.ask.ensures.same
