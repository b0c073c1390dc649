use Rattle.std.proofs.Common.{ap, ◌∙◌}
use Rattle.worker_strategies.proofs.FactLemmas.{looked_come}
use Rattle.worker_strategies.proofs.facts.Facts.look.Goals as goal

pub loop-place-preserved : goal.loop-place-preserved
loop-place-preserved c =
    let links = ap (λ it. it.links) c.prove.ensures.same in (
      links ∙ c.loop-place.invariant.0,
      looked_come c.args.rounds.now.normal c.loop-place.self.links c.args.self.now.links
          c.in-Some.lit c.args.proved.now c.loop-place.proved c.prove.new.proved
          c.requires.ready.is_normal c.in-Some.ensures c.requires.normal c.loop-place.invariant.0
          c.loop-place.invariant.1 c.in_ok-prove.ensures.proved,
    )
