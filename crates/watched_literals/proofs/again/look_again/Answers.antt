use Rattle.std.proofs.Common.{◌∙◌, ◌<◌, List, ℕ, ap, arith, get_or, length}
use Rattle.propagator.proofs.ExtendLemmas.{extending_goes_on}
use Rattle.watched_literals.proofs.AgainLemmas.{look_step, numbered, pending_quiet}
use Rattle.watched_literals.proofs.RunLemmas.{run_more}
use Rattle.watched_literals.proofs.again.look_again.Goals as goal

pub returns-then-assign_unit-clause-running : goal.returns-then-assign_unit-clause-running
returns-then-assign_unit-clause-running c =
    run_more c.args.store.now c.args.entries.now c.loop-at.trail c.assign_unit.new.trail
    c.loop-at.tables c.args.next c.loop-at.invariant.running c.assign_unit.ensures.extends
    c.assign_unit.ensures.of_store c.assign_unit.ensures.is_trail

pub returns-then-assign_unit-clause-extends : goal.returns-then-assign_unit-clause-extends
returns-then-assign_unit-clause-extends c =
    extending_goes_on c.args.trail.now c.loop-at.trail c.assign_unit.new.trail
    c.loop-at.invariant.extends c.assign_unit.ensures.extends

pub settle-at-requires-clause-running : goal.settle-at-requires-clause-running
settle-at-requires-clause-running c =
    run_more c.args.store.now c.args.entries.now c.loop-at.trail c.assign_unit.new.trail
    c.loop-at.tables c.args.next c.loop-at.invariant.running c.assign_unit.ensures.extends
    c.assign_unit.ensures.of_store c.assign_unit.ensures.is_trail

pub loop-at-preserved : goal.loop-at-preserved
loop-at-preserved c =
    let at_within : c.loop-at.at < length c.loop-at.tables.pending.stack =
    omega (arith, c.loop-at-test.true, ap length c.rows.ensures.rows) in
    let within : get_or c.loop-at.tables.pending.stack c.loop-at.at 0
    < length c.args.entries.now =
    omega (
      arith,
      c.rows.ensures.all.within c.loop-at.at 0 at_within,
      c.loop-at.invariant.running.watching.waits,
    ) in
    record {
      running = c.settle-at.ensures.running;
      extends =
          extending_goes_on c.args.trail.now c.loop-at.trail c.assign_unit.new.trail
          c.loop-at.invariant.extends c.assign_unit.ensures.extends;
      quiet =
          look_step c.args.store.now c.args.entries.now c.args.trail.now c.loop-at.trail
          c.assign_unit.new.trail c.loop-at.tables.pending.stack
          c.settle-at.new.tables.pending.stack c.loop-at.at c.settle-at.result
          c.at-number.result c.loop-at.invariant.running.named c.loop-at.invariant.quiet
          c.loop-at.invariant.extends c.assign_unit.ensures.extends
          (c.assign_unit.ensures.quiet c.if-assign_unit.false) c.settle-at.ensures.looked within
          (numbered c.args.entries.now (get_or c.loop-at.tables.pending.stack c.loop-at.at 0)
          c.index-entries-row.result c.at-number.result within
          (c.index-entries-row.is
          ∙ ap (λ (stack : List ℕ). get_or c.args.entries.now (get_or stack c.loop-at.at 0)
          c.index-entries-row.result) c.rows-in-loop-at.ensures.rows)
          c.at-number.ensures);
    }

pub returns-clause-none : goal.returns-clause-none
returns-clause-none c =
    λ equal. pending_quiet c.args.entries.now c.loop-at.trail.steps c.loop-at.tables.pending
    c.loop-at.at c.rows.ensures.all
    (omega (arith, c.loop-at-test.false, ap length c.rows.ensures.rows))
    (c.loop-at.invariant.quiet equal)
