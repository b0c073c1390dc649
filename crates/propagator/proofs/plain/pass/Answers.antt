use Rattle.std.proofs.Common.{◌+◌, ◌∙◌, sym, subst}
use Rattle.clause_store.specs.Trail.{IsTrailOf}
use Rattle.propagator.proofs.StandingLemmas.{quiet_from}
use Rattle.propagator.proofs.PassLemmas.{IsPassed, passes_quiet, passes_forced, passed_all}
use Rattle.propagator.proofs.plain.pass.Goals as goal
use Rattle.propagator.proofs.plain.pass.Goals.{in-Satisfied, in-Unit}

pub loop-entry-preserved : goal.loop-entry-preserved
loop-entry-preserved c =
    elim c.match-of.branch [
      | in-Satisfied w ↦
          subst
          (IsPassed c.args.store.now c.args.entries.now c.args.trail.now
          (c.loop-entry.entry-index + 1)) (sym w.trail-is)
          (passes_quiet c.args.store.now c.args.entries.now c.args.trail.now c.loop-entry.trail
          c.loop-entry.entry-index c.entry-item.result c.at-at.result c.lits.result.now
          c.requires.named c.loop-entry-test.true c.entry-item.is c.at-at.ensures
          c.lits.ensures.lits
          (quiet_from c.loop-entry.trail.steps c.lits.result.now c.of.result w.in-Satisfied.is
          c.of.ensures) c.loop-entry.invariant)
      | in-Unit w ↦
          passes_forced c.args.store.now c.args.entries.now c.args.trail.now c.loop-entry.trail
          (c.loop-entry.entry-index + 1) w.in-Unit.lit c.at-at.result c.match-of.trail
          (w.trail-is ∙ w.assign.ensures.steps)
          (subst (λ trail. IsTrailOf trail.steps c.args.store.now) (sym w.trail-is)
          w.assign.ensures.of_store) c.loop-entry.invariant.0
    ]

pub returns-clause-none : goal.returns-clause-none
returns-clause-none c =
    passed_all c.args.store.now c.args.entries.now c.args.trail.now c.loop-entry.trail
    c.loop-entry.entry-index c.loop-entry-test.false c.loop-entry.invariant
