use Rattle.propagator.proofs.PassLemmas.{IsPassed}
use Rattle.propagator.proofs.plain.pass.Given as goal

abbrev pub invariant-loop-entry : goal.invariant-loop-entry
invariant-loop-entry l = IsPassed l.store l.entries l.initial.trail l.entry-index l.trail
