use Rattle.std.proofs.Common.{◌≡◌, ◌≤◌, ◌+◌, ◌-◌, map, filter, take, subst, ap, ◌∙◌}
use Rattle.std.proofs.Common.{arith}
use Rattle.ground_program.specs.Meaning.{has}
use Rattle.normal_program.specs.Clauses.{negative, atoms_of_normal, each_once}
use Rattle.normal_program.specs.Spent.{atoms_in}
use Rattle.completion.specs.Filling.{Adds}
use Rattle.completion.proofs.DraftLemmas.{kept_pushed, finished-cleaned}
use Rattle.completion.proofs.RowLemmas.{next_place, all_numbers, atom_at}
use Rattle.completion.proofs.within.add_not_all.Goals as goal

pub loop-atom-preserved : goal.loop-atom-preserved
loop-atom-preserved c =
    let normal = c.args.normal.now in
    let set = c.args.set.now in
    let atom = c.loop-atom.atom in
    let item =
    atom_at normal.atoms atom c.loop-atom.auto.atom (omega (arith, c.loop-atom-test.true)) in
    subst
    (λ n. c.push_if_in.new.draft
    ≡ each_once (map negative (filter (has set) (take n (atoms_of_normal normal)))))
    (next_place atom c.loop-atom.auto.atom)
    (kept_pushed negative (has set) (atoms_of_normal normal) (atom - 1) atom c.loop-atom.draft
    c.push_if_in.new.draft item.0 item.1 c.loop-atom.invariant c.in_ok-push_if_in.ensures)

pub returns : goal.returns
returns c =
    let normal = c.args.normal.now in
    let set = c.args.set.now in
    let past : normal.atoms + 1 ≤ c.loop-atom.atom = omega (arith, c.loop-atom-test.false) in
    subst (Adds c.add_to.result c.args.store.now c.add_to.new.store)
    (finished-cleaned c.loop-atom.draft (map negative (atoms_in normal set))
    (c.loop-atom.invariant
    ∙ ap (λ atoms. each_once (map negative (filter (has set) atoms)))
    (all_numbers normal.atoms c.loop-atom.atom past)))
    c.add_to.ensures
