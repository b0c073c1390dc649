use Rattle.std.proofs.Common.{◌≡◌, ◌+◌, ◌∷◌, [], ◌++◌, ℕ, arith, get_or, take}
use Rattle.std.proofs.lemmas.List.{get_or_default}
use Rattle.item_list.proofs.ListLemmas.{take_more_read}
use Rattle.unfounded_sets.proofs.SingleLemmas.{adds_more}
use Rattle.unfounded_sets.proofs.single.mark_all.Goals as goal

pub loop-atom-preserved : goal.loop-atom-preserved
loop-atom-preserved c =
    let items = c.args.atoms.now in
    let at = c.loop-atom.atom-index in
    let atom : ℕ = get_or items at 0 in
    let more : take (at + 1) items ≡ take at items ++ atom ∷ [] =
    take_more_read items at atom c.loop-atom-test.true
    (get_or_default items at 0 atom c.loop-atom-test.true) in
    let within = c.requires at 0 c.loop-atom-test.true in
    rw (more, c.set.ensures)
    (adds_more (take at items) atom c.args.set.now c.loop-atom.set c.loop-atom.invariant
    (omega (arith, within, c.loop-atom.invariant.places)))
