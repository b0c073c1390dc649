use Rattle.std.proofs.Common.{◌-◌, length}
use Rattle.clause_store.specs.Trail.{IsTrailOf}
use Rattle.propagator.specs.Fixpoint.{Extends}
use Rattle.propagator.proofs.plain.scan.Given as goal

abbrev pub invariant-passes : goal.invariant-passes
invariant-passes l = Extends l.initial.trail l.trail × IsTrailOf l.trail.steps l.store

abbrev pub decreases-passes : goal.decreases-passes
decreases-passes l = l.trail.vars - length l.trail.steps
