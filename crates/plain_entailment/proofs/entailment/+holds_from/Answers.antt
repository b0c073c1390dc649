use Rattle.std.proofs.Common.{◌≡◌, ◌+◌, length, arith}
use Rattle.plain_entailment.proofs.SetLemmas.{full_exactly, without_fails, taken_exactly}
use Rattle.plain_entailment.proofs.entailment.+holds_from.Goals as goal

pub returns-then-len-from : goal.returns-then-len-from
returns-then-len-from t c =
    let full : length c.args.start.now ≡ c.args.normal.now.atoms + 1 =
    omega (arith, c.if-len-from.true, c.len.ensures, c.from.ensures) in
    full_exactly c.args.normal.now c.args.disjunctions.now c.args.clause.now _ c.args.start.now full
    c.holds_for.ensures

pub returns-then-not-branch : goal.returns-then-not-branch
returns-then-not-branch t c =
    without_fails c.args.normal.now c.args.disjunctions.now c.args.clause.now c.args.start.now _ _
    c.in_ok-without.ensures c.if-not-branch.true c.in_ok-holds_from.ensures

pub returns : goal.returns
returns t c =
    taken_exactly c.args.normal.now c.args.disjunctions.now c.args.clause.now _ c.args.start.now _ _
    _
    (λ full. c.if-len-from.false (omega (arith, full, c.len.ensures, c.from.ensures)))
    c.in_ok-without.ensures c.in_ok-with.ensures c.if-not-branch.false c.in_ok-holds_from.ensures
    c.holds_from-2.ensures
