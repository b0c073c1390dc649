use Rattle.std.proofs.Common.{◌≡◌, ◌++◌, take}
use Rattle.pair_program.specs.Rules.{lits_of}
use Rattle.pair_program.proofs.body_rules.push_lits.Given as goal

abbrev pub invariant-loop-part : goal.invariant-loop-part
invariant-loop-part l =
    l.lits ≡ l.initial.lits ++ lits_of l.atoms.atoms l.negated (take l.part-index l.parts)
