use Rattle.std.proofs.Common.{◌≡◌, ◌≤◌, true, length, rules}
use Rattle.plain_units.proofs.UnitLemmas.{unit_says}
use Rattle.plain_units.proofs.unit_lists.is_unit.Goals as goal

pub returns : goal.returns
returns c =
    let some : 1 ≤ length c.args.unit.now = search rules in
    let once : c.has_no_variable_twice.result ≡ true = search rules in
    unit_says c.args.clauses.now c.args.unit.now c.in_ok-absorbed.absorbed some
    (c.has_no_variable_twice.ensures.0 once) c.in_ok-absorbed.ensures
