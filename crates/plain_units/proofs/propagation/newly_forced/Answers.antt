use Rattle.std.proofs.Common.{subst}
use Rattle.plain_units.specs.Forcing.{IsClosedUnder}
use Rattle.plain_units.proofs.UnitLemmas.{all_more, all_read}
use Rattle.plain_units.proofs.propagation.newly_forced.Goals as goal

pub loop-clause-preserved : goal.loop-clause-preserved
loop-clause-preserved c =
    all_more (IsClosedUnder c.args.known.now) c.args.clauses.now c.loop-clause.clause-index
    c.clause-item.result c.loop-clause-test.true c.clause-item.is
    (subst (IsClosedUnder c.args.known.now) c.as_slice.ensures c.in_default.ensures.none)
    c.loop-clause.invariant

pub returns-clause-none : goal.returns-clause-none
returns-clause-none c =
    all_read (IsClosedUnder c.args.known.now) c.args.clauses.now c.loop-clause.clause-index
    c.loop-clause-test.false c.loop-clause.invariant
