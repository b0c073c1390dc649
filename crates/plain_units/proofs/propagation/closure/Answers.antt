use Rattle.std.proofs.Common.{◌<◌, subst, sym}
use Rattle.clause_store.specs.Entailment.{IsClosed}
use Rattle.plain_units.proofs.ClosureLemmas.{IsBelow, IsNext, missing, adds, nearer, settled}
use Rattle.plain_units.proofs.ClosureLemmas.{starts}
use Rattle.plain_units.proofs.propagation.closure.Goals as goal

pub additions-init : goal.additions-init
additions-init c =
    subst (IsBelow c.args.clauses.now c.args.lits.now) (sym c.in_ok-known.ensures)
    (starts c.args.clauses.now c.args.lits.now)

pub additions-smaller : goal.additions-smaller
additions-smaller c =
    subst (λ known. missing c.args.clauses.now known < missing c.args.clauses.now c.additions.known)
    (sym c.in_ok-push.ensures.ok)
    (nearer c.args.clauses.now c.additions.known c.in-Some.lit
    (subst (λ known. IsNext c.args.clauses.now known c.in-Some.lit) c.as_slice.ensures
    c.in-Some.ensures.some))

pub additions-preserved : goal.additions-preserved
additions-preserved c =
    subst (IsBelow c.args.clauses.now c.args.lits.now) (sym c.in_ok-push.ensures.ok)
    (adds c.args.clauses.now c.args.lits.now c.additions.known c.in-Some.lit
    (subst (λ known. IsNext c.args.clauses.now known c.in-Some.lit) c.as_slice.ensures
    c.in-Some.ensures.some) c.additions.invariant)

pub returns : goal.returns
returns c =
    settled c.args.clauses.now c.args.lits.now c.additions.known c.additions.invariant
    (subst (IsClosed c.args.clauses.now) c.as_slice.ensures c.in_default.ensures.none)
