use Rattle.std.proofs.Common.{rules, arith}
use Rattle.std.proofs.lemmas.Grind.{common_steps}
use Rattle.master_record.proofs.candidates.next_open.Goals as goal

pub returns-then-has : goal.returns-then-has
returns-then-has c = record {
  within = omega arith;
  before = c.loop-place.invariant;
  here = λ less. grind (arith, common_steps);
}
