use Rattle.std.proofs.Common.{◌+◌, List, ℕ, get_or, drop, subst, arith}
use Rattle.std.proofs.lemmas.List.{drop_more}
use Rattle.unfounded_sets.specs.Sources.{AreSourcesBut}
use Rattle.unfounded_sets.proofs.LookLemmas.{head_atom, item_has}
use Rattle.unfounded_sets.proofs.keeping.drop_by.Goals as goal

pub drop_one-requires-clause-is_atom : goal.drop_one-requires-clause-is_atom
drop_one-requires-clause-is_atom c =
    let items = c.at-head-items.result.now in
    let at = c.loop-head.head-index in
    head_atom c.args.normal.now c.args.body (get_or items at 0) c.requires.covered.range
    ((c.requires.places.heads c.args.body (get_or items at 0)).0
    (item_has c.args.places.now.heads c.args.body items at c.at-head-items.ensures
    c.loop-head-test.true))

pub loop-head-preserved : goal.loop-head-preserved
loop-head-preserved c =
    let items = c.at-head-items.result.now in
    let at = c.loop-head.head-index in
    let so_far = c.loop-head.invariant in
    record {
      sources =
          c.drop_one.ensures.kept (drop (at + 1) items)
          (subst
          (λ (left : List ℕ). AreSourcesBut c.args.normal.now c.args.trail.now.steps c.args.body
          left c.loop-head.sources) (drop_more items at 0 c.loop-head-test.true) so_far.sources);
      few = c.drop_one.ensures.few so_far.few;
      nearer = omega (arith, c.drop_one.ensures.nearer so_far.few, so_far.nearer);
    }
