use Rattle.std.proofs.Common.{◌<◌, arith, length, refl, sym}
use Rattle.watched_literals.proofs.RelinkLemmas.{all_linked, relinked}
use Rattle.watched_literals.proofs.SeenLemmas.{read_lit}
use Rattle.watched_literals.proofs.chains.Chains.link_all.Goals as goal

pub loop-at-preserved : goal.loop-at-preserved
loop-at-preserved c =
    let within : c.loop-at.at < length c.loop-at.self.nodes.items =
    omega (
      arith,
      c.loop-at-test.true,
      c.len-at-end.ensures,
      c.loop-at.invariant.same.nodes,
    ) in
    let both = relinked c.args.self.now c.loop-at.self c.link.new.self c.loop-at.at
    c.index.result.now.lit c.loop-at.invariant.linked within
    (sym (read_lit c.loop-at.self.nodes.items _ c.loop-at.at c.index.result.now within refl
    c.index.ensures))
    c.loop-at.invariant.same c.link.ensures.nodes c.link.ensures.heads in
    record { linked = both.0; same = both.1 }

pub returns : goal.returns
returns c = record {
  linked =
      all_linked c.loop-at.self.nodes.items c.loop-at.self.heads.items c.loop-at.at
      (omega (arith, c.requires.few, c.loop-at.invariant.same.nodes))
      (omega (
        arith,
        c.loop-at-test.false,
        c.len-at-end.ensures,
        c.loop-at.invariant.same.nodes,
      ))
      c.loop-at.invariant.linked;
  same = c.loop-at.invariant.same;
}
