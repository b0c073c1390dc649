use Rattle.std.proofs.Common.{◌≡◌, ◌≤◌, ◌+◌, ◌-◌, not, map, filter, take, subst, arith}
use Rattle.ground_program.specs.Meaning.{has}
use Rattle.normal_program.specs.Clauses.{negative, alone, atoms_of_normal, cleaned}
use Rattle.completion.specs.Filling.{Gains}
use Rattle.completion.proofs.AddsLemmas.{Adds-stopped, kept_more, kept_stopped}
use Rattle.completion.proofs.RowLemmas.{next_place, all_numbers, atom_at}
use Rattle.completion.proofs.within.add_outside.Goals as goal

pub loop-atom-preserved : goal.loop-atom-preserved
loop-atom-preserved c =
    let normal = c.args.normal.now in
    let set = c.args.set.now in
    let atom = c.loop-atom.atom in
    let first : 1 ≤ atom = c.loop-atom.auto.atom in
    subst
    (λ n. Gains c.args.store.now c.add_if_outside.new.store
    (cleaned
    (map (λ one. alone (negative one))
    (filter (λ one. not (has set one)) (take n (atoms_of_normal normal))))))
    (next_place atom first)
    (kept_more (λ one. alone (negative one)) (λ one. not (has set one)) c.args.store.now
    c.loop-atom.store c.add_if_outside.new.store (atoms_of_normal normal) (atom - 1) atom
    (atom_at normal.atoms atom first (omega (arith, c.loop-atom-test.true))) c.loop-atom.invariant
    c.in_ok-add_if_outside.ensures)

pub returns-in_err-add_if_outside : goal.returns-in_err-add_if_outside
returns-in_err-add_if_outside c =
    let normal = c.args.normal.now in
    let set = c.args.set.now in
    let atom = c.loop-atom.atom in
    Adds-stopped c.from_residual.result c.args.store.now c.add_if_outside.new.store _
    c.from_residual.ensures.0
    (kept_stopped (λ one. alone (negative one)) (λ one. not (has set one)) c.args.store.now
    c.loop-atom.store c.add_if_outside.new.store (atoms_of_normal normal) (atom - 1) atom
    (atom_at normal.atoms atom c.loop-atom.auto.atom (omega (arith, c.loop-atom-test.true)))
    c.loop-atom.invariant c.in_err-add_if_outside.ensures)

pub returns : goal.returns
returns c =
    let normal = c.args.normal.now in
    let set = c.args.set.now in
    subst
    (λ atoms. Gains c.args.store.now c.loop-atom.store
    (cleaned
    (map (λ one. alone (negative one)) (filter (λ one. not (has set one)) atoms))))
    (all_numbers normal.atoms c.loop-atom.atom (omega (arith, c.loop-atom-test.false)))
    c.loop-atom.invariant
