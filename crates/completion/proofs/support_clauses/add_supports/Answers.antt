use Rattle.std.proofs.Common.{◌≡◌, ◌≤◌, ◌<◌, ◌+◌, ◌-◌, List, [], ◌∷◌, map, take, subst, arith}
use Rattle.normal_program.specs.Clauses.{support_clause, atoms_of_normal, cleaned}
use Rattle.completion.specs.Filling.{Gains}
use Rattle.completion.proofs.AddsLemmas.{Adds-stopped, mapped_more, mapped_stopped}
use Rattle.completion.proofs.RowLemmas.{next_place, all_numbers, atom_at}
use Rattle.completion.proofs.support_clauses.add_supports.Goals as goal

pub loop-atom-preserved : goal.loop-atom-preserved
loop-atom-preserved c =
    let normal = c.args.normal.now in
    let atom = c.loop-atom.atom in
    let first : 1 ≤ atom = c.loop-atom.auto.atom in
    let last : atom ≤ normal.atoms = omega (arith, c.loop-atom-test.true) in
    subst
    (λ n. Gains c.args.store.now c.add_support_of.new.store
    (cleaned (map (support_clause normal) (take n (atoms_of_normal normal)))))
    (next_place atom first)
    (mapped_more (support_clause normal) c.args.store.now c.loop-atom.store
    c.add_support_of.new.store (atoms_of_normal normal) (atom - 1) atom
    (atom_at normal.atoms atom first last) c.loop-atom.invariant
    c.in_ok-add_support_of.ensures)

pub returns-in_err-add_support_of : goal.returns-in_err-add_support_of
returns-in_err-add_support_of c =
    let normal = c.args.normal.now in
    let atom = c.loop-atom.atom in
    Adds-stopped c.from_residual-in_err-add_support_of.result c.args.store.now
    c.add_support_of.new.store _ c.from_residual-in_err-add_support_of.ensures.0
    (mapped_stopped (support_clause normal) c.args.store.now c.loop-atom.store
    c.add_support_of.new.store (atoms_of_normal normal) (atom - 1) atom
    (atom_at normal.atoms atom c.loop-atom.auto.atom (omega (arith, c.loop-atom-test.true)))
    c.loop-atom.invariant c.in_err-add_support_of.ensures)

pub returns : goal.returns
returns c =
    subst
    (λ atoms. Gains c.args.store.now c.loop-atom.store
    (cleaned (map (support_clause c.args.normal.now) atoms)))
    (all_numbers c.args.normal.now.atoms c.loop-atom.atom (omega (arith, c.loop-atom-test.false)))
    c.loop-atom.invariant
