use Rattle.std.proofs.Common.{◌≡◌, true, rules}
use Rattle.std.proofs.lemmas.List.Elements.{All-more}
use Rattle.clause_store.specs.Clause.{IsOver}
use Rattle.plain_units.proofs.UnitLemmas.{all_read}
use Rattle.trial_engine.proofs.trials.scene.are_on.Goals as goal

pub loop-lit-preserved : goal.loop-lit-preserved
loop-lit-preserved c =
    let yes : c.has.result ≡ true = search rules in
    All-more (IsOver c.args.trail.now.vars) c.args.lits.now c.loop-lit.lit-index
    (record { 0 = 0 }) c.loop-lit-test.true c.loop-lit.invariant (c.has.ensures.0 yes)

pub returns : goal.returns
returns c =
    λ t. all_read (IsOver c.args.trail.now.vars) c.args.lits.now c.loop-lit.lit-index
    c.loop-lit-test.false c.loop-lit.invariant
