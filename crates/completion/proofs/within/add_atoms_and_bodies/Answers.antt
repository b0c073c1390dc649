use Rattle.std.proofs.Common.{map, flat_map, [], ◌∷◌, ◌++◌}
use Rattle.normal_program.specs.Clauses.{negative, alone, numbered_bodies}
use Rattle.normal_program.specs.Spent.{atoms_in, atoms_outside, inner_body_clauses}
use Rattle.completion.proofs.AddsLemmas.{Adds-stopped, Adds-then, stopped_before}
use Rattle.completion.proofs.within.add_atoms_and_bodies.Goals as goal

pub returns-in_err-add_atoms : goal.returns-in_err-add_atoms
returns-in_err-add_atoms c =
    let normal = c.args.normal.now in
    let set = c.args.set.now in
    Adds-stopped c.from_residual.result c.args.store.now c.add_atoms.new.store _
    c.from_residual.ensures.0
    (stopped_before c.args.store.now c.add_atoms.new.store
    (map (λ atom. alone (negative atom)) (atoms_outside normal set)
    ++ map negative (atoms_in normal set) ∷ [])
    (flat_map (inner_body_clauses normal set) (numbered_bodies normal)) c.in_err-add_atoms.ensures)

pub returns : goal.returns
returns c =
    let normal = c.args.normal.now in
    let set = c.args.set.now in
    Adds-then c.add_inner_bodies.result c.args.store.now c.add_atoms.new.store
    c.add_inner_bodies.new.store
    (map (λ atom. alone (negative atom)) (atoms_outside normal set)
    ++ map negative (atoms_in normal set) ∷ [])
    (flat_map (inner_body_clauses normal set) (numbered_bodies normal)) c.in_ok-add_atoms.ensures
    c.add_inner_bodies.ensures
