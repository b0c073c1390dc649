use Rattle.std.proofs.Common.{◌≡◌, ◌∷◌, take}
use Rattle.normal_program.specs.Clauses.{negative, each_once}
use Rattle.completion.proofs.support_clauses.add_support.Given as goal

abbrev pub invariant-loop-body : goal.invariant-loop-body
invariant-loop-body l = l.draft ≡ each_once (negative l.fn.atom ∷ take l.body-index l.bodies)
