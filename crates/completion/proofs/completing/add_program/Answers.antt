use Rattle.std.proofs.Common.{map, flat_map, ◌++◌}
use Rattle.normal_program.specs.Clauses.{body_clauses, numbered_bodies, rule_clauses}
use Rattle.normal_program.specs.Clauses.{support_clause, atoms_of_normal}
use Rattle.completion.proofs.AddsLemmas.{Adds-stopped, Adds-then, stopped_before}
use Rattle.completion.proofs.completing.add_program.Goals as goal

pub returns-in_err-add_bodies_and_rules : goal.returns-in_err-add_bodies_and_rules
returns-in_err-add_bodies_and_rules c =
    let normal = c.args.normal.now in
    Adds-stopped c.from_residual.result c.args.store.now c.add_bodies_and_rules.new.store _
    c.from_residual.ensures.0
    (stopped_before c.args.store.now c.add_bodies_and_rules.new.store
    (flat_map (body_clauses normal) (numbered_bodies normal)
    ++ flat_map (rule_clauses normal) normal.rules)
    (map (support_clause normal) (atoms_of_normal normal)) c.in_err-add_bodies_and_rules.ensures)

pub returns : goal.returns
returns c =
    let normal = c.args.normal.now in
    Adds-then c.add_supports.result c.args.store.now c.add_bodies_and_rules.new.store
    c.add_supports.new.store
    (flat_map (body_clauses normal) (numbered_bodies normal)
    ++ flat_map (rule_clauses normal) normal.rules)
    (map (support_clause normal) (atoms_of_normal normal)) c.in_ok-add_bodies_and_rules.ensures
    c.add_supports.ensures
