use Rattle.std.proofs.Common.{subst, sym}
use Rattle.std.proofs.lemmas.Option.{get_or_from_slice_get, slice_get_within}
use Rattle.clause_store.specs.Clause.{HoldsIn}
use Rattle.trial_engine.proofs.SceneLemmas.{still_sound}
use Rattle.trial_engine.proofs.trials.scene.Scene.add.Goals as goal

pub add-requires-clause-holds : goal.add-requires-clause-holds
add-requires-clause-holds c values model =
    let listed = c.self.inside.listed in
    let clause = c.get-clause.result.now in
    subst (HoldsIn values) (sym c.as_slice-2.ensures)
    (subst (HoldsIn values)
    (get_or_from_slice_get listed c.args.at clause clause c.get-clause.ensures)
    (c.self.invariant.met values model.model c.args.at clause
    (slice_get_within listed c.args.at clause c.get-clause.ensures)))

pub invariant_of-self : goal.invariant_of-self
invariant_of-self c =
    let old = c.self.inside.engine in
    let new = c.add.new.self in
    still_sound old.theory new.theory old.state new.state old.defined new.defined old.dead new.dead
    c.self.inside.listed c.self.invariant c.add.ensures.right c.add.ensures.same
