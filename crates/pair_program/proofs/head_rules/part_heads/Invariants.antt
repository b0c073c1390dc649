use Rattle.std.proofs.Common.{◌≡◌, map, take}
use Rattle.pair_program.specs.Rules.{part_atom}
use Rattle.pair_program.proofs.head_rules.part_heads.Given as goal

abbrev pub invariant-loop-head : goal.invariant-loop-head
invariant-loop-head l = l.made ≡ map (part_atom l.atoms.atoms) (take l.head-index l.heads)
