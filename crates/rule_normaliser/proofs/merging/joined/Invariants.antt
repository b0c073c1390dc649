use Rattle.std.proofs.Common.{take}
use Rattle.normal_program.specs.Body.{IsMerged}
use Rattle.rule_normaliser.proofs.merging.joined.Given as goal

abbrev pub invariant-loop-item : goal.invariant-loop-item
invariant-loop-item l = IsMerged (take l.item-index l.items) l.parts
