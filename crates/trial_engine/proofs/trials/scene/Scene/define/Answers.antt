use Rattle.trial_engine.proofs.SceneLemmas.{still_sound}
use Rattle.trial_engine.proofs.trials.scene.Scene.define.Goals as goal

pub invariant_of-self : goal.invariant_of-self
invariant_of-self c =
    let old = c.self.inside.engine in
    let new = c.define.new.self in
    still_sound old.theory new.theory old.state new.state old.defined new.defined old.dead new.dead
    c.self.inside.listed c.self.invariant c.define.ensures.right c.define.ensures.same

pub invariant_of-self-2 : goal.invariant_of-self-2
invariant_of-self-2 c =
    let old = c.self.inside.engine in
    let new = c.define.new.self in
    still_sound old.theory new.theory old.state new.state old.defined new.defined old.dead new.dead
    c.self.inside.listed c.self.invariant c.define.ensures.right c.define.ensures.same
