use Rattle.std.proofs.Common.{◌≡◌}
use Rattle.pair_program.specs.Rules.{count_up}
use Rattle.pair_program.proofs.pair_atoms.count_up.Given as goal

abbrev pub invariant-loop-at : goal.invariant-loop-at
invariant-loop-at l = l.heads ≡ count_up l.first l.at
