use Rattle.pair_program.proofs.GroupLemmas.{next_body}
use Rattle.pair_program.proofs.body_rules.push_bodies.Goals as goal

pub loop-number-preserved : goal.loop-number-preserved
loop-number-preserved c =
    next_body c.args.atoms.atoms c.args.rules.now c.loop-number.rules c.push.new.self
    c.args.bodies.now c.loop-number.number c.index-bodies-number.result c.in_ok-rule.rule
    c.loop-number-test.true c.index-bodies-number.is c.in_ok-rule.ensures
    c.loop-number.invariant (c.in_ok-push.ensures).ok
