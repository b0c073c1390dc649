use Rattle.std.proofs.Common.{◌≡◌}
use Rattle.worker_strategies.specs.Facts.{ProvesMore}
use Rattle.worker_strategies.proofs.facts.Facts.look.Given as goal

abbrev pub invariant-loop-place : goal.invariant-loop-place
invariant-loop-place l =
    (l.self.links ≡ l.fn.self.links)
    × ProvesMore l.rounds.normal l.fn.self.links.mode l.fn.proved l.proved
