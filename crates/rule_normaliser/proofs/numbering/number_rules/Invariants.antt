use Rattle.std.proofs.Common.{◌≤◌, length, take}
use Rattle.normal_program.specs.Normal.{AreNumbered}
use Rattle.rule_normaliser.proofs.numbering.number_rules.Given as goal

abbrev pub invariant-loop-rule : goal.invariant-loop-rule
invariant-loop-rule l = record {
  numbered : AreNumbered l.bodies.keys l.made (take l.rule-index l.rules);
  few : length l.bodies.keys ≤ l.rule-index;
}
