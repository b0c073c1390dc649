use Rattle.std.proofs.Common.{map, flat_map, ◌++◌}
use Rattle.normal_program.specs.Clauses.{body_clauses, numbered_bodies, rule_clauses}
use Rattle.normal_program.specs.Clauses.{support_clause, atoms_of_normal, compute_clauses}
use Rattle.completion.proofs.AddsLemmas.{Adds-stopped, Adds-then, stopped_before}
use Rattle.completion.proofs.completing.complete_whole.Goals as goal

pub returns-in_err-add_program : goal.returns-in_err-add_program
returns-in_err-add_program c =
    let normal = c.args.normal.now in
    Adds-stopped c.from_residual.result c.args.store.now c.add_program.new.store _
    c.from_residual.ensures.0
    (stopped_before c.args.store.now c.add_program.new.store
    (flat_map (body_clauses normal) (numbered_bodies normal)
    ++ flat_map (rule_clauses normal) normal.rules
    ++ map (support_clause normal) (atoms_of_normal normal))
    (compute_clauses normal) c.in_err-add_program.ensures)

pub returns : goal.returns
returns c =
    let normal = c.args.normal.now in
    Adds-then c.add_compute.result c.args.store.now c.add_program.new.store c.add_compute.new.store
    (flat_map (body_clauses normal) (numbered_bodies normal)
    ++ flat_map (rule_clauses normal) normal.rules
    ++ map (support_clause normal) (atoms_of_normal normal))
    (compute_clauses normal) c.in_ok-add_program.ensures c.add_compute.ensures
