use Rattle.std.proofs.Common.{◌≡◌, ◌≢◌}
use Rattle.worker_strategies.specs.Facts.{HasProved}
use Rattle.worker_strategies.specs.Links.{HasCode}
use Rattle.worker_strategies.proofs.facts.Facts.prove.Given as goal

abbrev pub invariant-cands : goal.invariant-cands
invariant-cands l =
    (l.self ≡ record l.fn.self { proved = l.self.proved })
    × HasProved l.fn.self.links l.fn.lit l.fn.proved l.proved
    × (l.cand ≢ 0 → HasCode l.fn.self.links.normal.names l.fn.self.links.mode l.fn.lit.0 l.cand)

abbrev pub decreases-cands : goal.decreases-cands
decreases-cands l = l.cand
