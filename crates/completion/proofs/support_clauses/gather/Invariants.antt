use Rattle.std.proofs.Common.{take}
use Rattle.completion.specs.Chains.{AreSupports}
use Rattle.completion.proofs.support_clauses.gather.Given as goal

abbrev pub invariant-loop-rule : goal.invariant-loop-rule
invariant-loop-rule l = AreSupports l.normal (take l.rule-index l.normal.rules) l.supports
