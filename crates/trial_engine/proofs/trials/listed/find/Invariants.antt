use Rattle.std.specs.Prelude.{take}
use Rattle.propagator.specs.Fixpoint.{IsFixpoint}
use Rattle.trial_engine.proofs.trials.listed.find.Given as goal

abbrev pub invariant-loop-clause : goal.invariant-loop-clause
invariant-loop-clause l = IsFixpoint (take l.clause-index l.clauses) l.trail.steps
