use Rattle.std.proofs.Common.{All, take}
use Rattle.ground_program.specs.Validity.{RuleAtoms}
use Rattle.ground_program.proofs.validity.rules_have_atoms.Given as goal

abbrev pub invariant-loop-rule : goal.invariant-loop-rule
invariant-loop-rule l = All RuleAtoms (take l.rule-index l.rules)
