use Rattle.std.proofs.Common.{map, flat_map, [], ◌∷◌, ◌++◌}
use Rattle.normal_program.specs.Clauses.{negative, alone, numbered_bodies, rule_clauses}
use Rattle.normal_program.specs.Spent.{atoms_in, atoms_outside, inner_body_clauses}
use Rattle.completion.proofs.AddsLemmas.{Adds-stopped, Adds-then, stopped_before}
use Rattle.completion.proofs.within.add_kept_rules.Goals as goal

pub returns-in_err-add_atoms_and_bodies : goal.returns-in_err-add_atoms_and_bodies
returns-in_err-add_atoms_and_bodies c =
    let normal = c.args.normal.now in
    let set = c.args.set.now in
    Adds-stopped c.from_residual.result c.args.store.now c.add_atoms_and_bodies.new.store _
    c.from_residual.ensures.0
    (stopped_before c.args.store.now c.add_atoms_and_bodies.new.store
    (map (λ atom. alone (negative atom)) (atoms_outside normal set)
    ++ map negative (atoms_in normal set) ∷ []
    ++ flat_map (inner_body_clauses normal set) (numbered_bodies normal))
    (flat_map (rule_clauses normal) normal.rules) c.in_err-add_atoms_and_bodies.ensures)

pub returns : goal.returns
returns c =
    let normal = c.args.normal.now in
    let set = c.args.set.now in
    Adds-then c.add_rules.result c.args.store.now c.add_atoms_and_bodies.new.store
    c.add_rules.new.store
    (map (λ atom. alone (negative atom)) (atoms_outside normal set)
    ++ map negative (atoms_in normal set) ∷ []
    ++ flat_map (inner_body_clauses normal set) (numbered_bodies normal))
    (flat_map (rule_clauses normal) normal.rules) c.in_ok-add_atoms_and_bodies.ensures
    c.add_rules.ensures
