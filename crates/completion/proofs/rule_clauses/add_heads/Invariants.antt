use Rattle.std.proofs.Common.{◌≡◌, ◌∷◌, map, take}
use Rattle.normal_program.specs.Clauses.{positive, negative, each_once}
use Rattle.completion.proofs.rule_clauses.add_heads.Given as goal

abbrev pub invariant-loop-head : goal.invariant-loop-head
invariant-loop-head l =
    l.draft ≡ each_once (negative l.fn.var.0 ∷ map positive (take l.head-index l.heads))
