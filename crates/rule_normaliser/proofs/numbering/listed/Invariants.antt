use Rattle.std.proofs.Common.{◌≡◌, ◌++◌}
use Rattle.rule_normaliser.proofs.numbering.listed.Given as goal

abbrev pub invariant-loop-body : goal.invariant-loop-body
invariant-loop-body l = l.all ++ l.body-iterator ≡ l.fn.bodies.keys
