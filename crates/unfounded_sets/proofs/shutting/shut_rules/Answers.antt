use Rattle.std.proofs.Common.{get_or, rules, subst, sym, take, arith}
use Rattle.std.specs.Prelude.{All}
use Rattle.std.proofs.lemmas.List.{take_all, take_more}
use Rattle.unfounded_sets.specs.Grown.{IsShut}
use Rattle.unfounded_sets.proofs.GrownLemmas.{adds_then, all_bodies, bodies_then}
use Rattle.unfounded_sets.proofs.LookLemmas.{head_body, item_has}
use Rattle.unfounded_sets.proofs.shutting.shut_rules.Goals as goal

pub shut_body-requires-clause-within : goal.shut_body-requires-clause-within
shut_body-requires-clause-within c =
    let items = c.at-body-items.result.now in
    let at = c.loop-body.body-index in
    head_body c.args.normal.now (get_or items at 0) c.args.atom c.requires.covered.range
    ((c.requires.places.supports c.args.atom (get_or items at 0)).0
    (item_has c.args.places.now.supports c.args.atom items at c.at-body-items.ensures
    c.loop-body-test.true))

pub loop-body-preserved : goal.loop-body-preserved
loop-body-preserved c =
    let items = c.at-body-items.result.now in
    let at = c.loop-body.body-index in
    let number = get_or items at 0 in
    let here : IsShut c.args.normal.now c.args.set.now c.shut_body.new.lits.marks number =
    search rules in
    record {
      adds =
          adds_then c.args.normal.now c.args.lits.now c.loop-body.lits c.shut_body.new.lits
          c.loop-body.invariant.adds c.shut_body.ensures.adds;
      shut =
          subst (All (IsShut c.args.normal.now c.args.set.now c.shut_body.new.lits.marks))
          (sym (take_more items at 0 c.loop-body-test.true))
          (bodies_then c.args.normal.now c.args.set.now c.loop-body.lits c.shut_body.new.lits
          (take at items) number c.shut_body.ensures.adds.more c.loop-body.invariant.shut here);
    }

pub returns-clause-shut : goal.returns-clause-shut
returns-clause-shut c =
    let items = c.at-body-items.result.now in
    all_bodies c.args.normal.now c.args.places.now c.args.set.now c.loop-body.lits.marks
    c.args.atom items c.requires.places c.at-body-items.ensures
    (subst (All (IsShut c.args.normal.now c.args.set.now c.loop-body.lits.marks))
    (take_all c.loop-body.body-index items (omega (arith, c.loop-body-test.false)))
    c.loop-body.invariant.shut)
