use Rattle.std.proofs.Common.{◌≡◌, filter, take}
use Rattle.worker_strategies.specs.Literals.{has_same_literal}
use Rattle.worker_strategies.proofs.literals.same_literal.Given as goal

abbrev pub invariant-loop-cand : goal.invariant-loop-cand
invariant-loop-cand l =
    l.same ≡ filter (has_same_literal l.normal.names l.mode l.one) (take l.cand-index l.cands)
