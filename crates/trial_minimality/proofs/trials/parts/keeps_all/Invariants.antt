use Rattle.std.specs.List.{AllWithin}
use Rattle.ground_program.specs.Meaning.{Keeps}
use Rattle.trial_minimality.proofs.trials.parts.keeps_all.Given as goal

abbrev pub invariant-loop-rule : goal.invariant-loop-rule
invariant-loop-rule l = AllWithin (Keeps l.by l.set) l.rules 0 l.rule-index
