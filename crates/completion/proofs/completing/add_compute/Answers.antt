use Rattle.std.proofs.Common.{ℕ, List, map, subst}
use Rattle.normal_program.specs.Clauses.{positive, negative, alone, cleaned}
use Rattle.completion.specs.Filling.{Gains, Adds}
use Rattle.completion.proofs.AddsLemmas.{Adds-then}
use Rattle.completion.proofs.completing.add_compute.Goals as goal

pub returns : goal.returns
returns c =
    let normal = c.args.normal.now in
    let old = c.args.store.now in
    let mid = c.add_true.new.store in
    let new = c.add_false.new.store in
    Adds-then c.add_false.result old mid new
    (map (λ atom. alone (positive atom)) normal.must)
    (map (λ atom. alone (negative atom)) normal.must_not)
    (subst
    (λ (atoms : List ℕ). Gains old mid (cleaned (map (λ atom. alone (positive atom)) atoms)))
    c.as_slice.ensures c.in_ok-add_true.ensures)
    (subst
    (λ (atoms : List ℕ). Adds c.add_false.result mid new
    (cleaned (map (λ atom. alone (negative atom)) atoms)))
    c.as_slice-2.ensures c.add_false.ensures)
