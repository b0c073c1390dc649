use Rattle.std.proofs.Common.{map, flat_map, [], ◌∷◌, ◌++◌}
use Rattle.normal_program.specs.Clauses.{negative, alone}
use Rattle.normal_program.specs.Spent.{atoms_in, atoms_outside}
use Rattle.completion.proofs.AddsLemmas.{Adds-stopped, Adds-then, stopped_before}
use Rattle.completion.proofs.within.add_atoms.Goals as goal

pub returns-in_err-add_outside : goal.returns-in_err-add_outside
returns-in_err-add_outside c =
    let normal = c.args.normal.now in
    let set = c.args.set.now in
    Adds-stopped c.from_residual.result c.args.store.now c.add_outside.new.store _
    c.from_residual.ensures.0
    (stopped_before c.args.store.now c.add_outside.new.store
    (map (λ atom. alone (negative atom)) (atoms_outside normal set))
    (map negative (atoms_in normal set) ∷ []) c.in_err-add_outside.ensures)

pub returns : goal.returns
returns c =
    let normal = c.args.normal.now in
    let set = c.args.set.now in
    Adds-then c.add_not_all.result c.args.store.now c.add_outside.new.store c.add_not_all.new.store
    (map (λ atom. alone (negative atom)) (atoms_outside normal set))
    (map negative (atoms_in normal set) ∷ []) c.in_ok-add_outside.ensures c.add_not_all.ensures
