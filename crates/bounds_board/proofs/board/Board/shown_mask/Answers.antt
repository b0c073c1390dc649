use Rattle.std.proofs.Common.{◌≡◌, ◌<◌, ◌≤◌, ◌⊎◌, ◌-◌, ◌+◌, ℕ, length, sym, ap, subst, ◌∙◌}
use Rattle.std.proofs.Common.{arith}
use Rattle.std.proofs.Common.{min, inl, inr, map, ⊎_elim}
use Rattle.std.proofs.lemmas.Bool.{cases_lt}
use Rattle.std.proofs.lemmas.List.{length-map}
use Rattle.std.specs.Prelude.{bit_or}
use Rattle.ground_program.specs.declared.program.Mode.{Mode}
use Rattle.bounds_board.specs.Board.{normal_of, mode_of}
use Rattle.bounds_board.proofs.MaskLemmas.{HasMask, mask_same, mask_more, mask_end}
use Rattle.bounds_board.proofs.ReportLemmas.{power_fits}
use Rattle.bounds_board.proofs.board.Board.shown_mask.Goals.{then-shows, else-shows}
use Rattle.bounds_board.proofs.board.Board.shown_mask.Goals as goal

pub loop-place-preserved : goal.loop-place-preserved
loop-place-preserved c =
    let mode : Mode = c.args.self.now.mode in
    let members = c.args.set.now in
    let atoms = c.as_slice-atoms.result.now in
    let first : ℕ = c.args.first in
    let place : ℕ = c.loop-place.place in
    let mask : ℕ = c.loop-place.mask in
    let from : first ≤ place = omega (arith, c.loop-place.auto.place) in
    let few : place - first < 64 = omega (arith, c.min-end.ensures, c.loop-place-test.true) in
    elim c.if-shows.branch [
      | then-shows w ↦ subst (λ n. HasMask mode members atoms first (place + 1) n)
          (sym (w.mask-is ∙ ap (λ n. bit_or mask n) (power_fits (place - first) few)))
          (mask_more mode members atoms first place mask from c.loop-place.invariant
          (sym c.shows.ensures ∙ w.if-shows.true))
      | else-shows w ↦ subst (λ n. HasMask mode members atoms first (place + 1) n)
          (sym w.mask-is)
          (mask_same mode members atoms first place mask c.loop-place.invariant
          (sym c.shows.ensures ∙ w.if-shows.false))
    ]

pub returns : goal.returns
returns c =
    let board = c.args.self.now in
    let normal = normal_of board in
    let first : ℕ = c.args.first in
    let count : ℕ = length normal.names in
    let atoms_is = c.as_slice-atoms.ensures ∙ board.same_atoms in
    let length_is : length c.as_slice-atoms.result.now ≡ count =
    ap (λ xs. length xs) atoms_is ∙ length-map normal.names _ in
    let front : first ≤ c.min-end.result =
    omega (arith, c.min-end.ensures, length_is, c.requires.front) in
    let end_is : c.loop-place.place ≡ min count (first + 64) =
    omega (
      arith,
      c.min-end.ensures,
      length_is,
      c.loop-place-test.false,
      c.loop-place.auto.place-end front,
    ) in
    mask_end normal (mode_of board) c.args.set.now first c.loop-place.place c.loop-place.mask
    (omega arith) (omega arith) (ends first count c.loop-place.place end_is)
    (subst (λ (m : Mode). HasMask m c.args.set.now (map (λ named. named.atom) normal.names) first
    c.loop-place.place c.loop-place.mask) board.same_mode
    (subst (λ xs. HasMask board.mode c.args.set.now xs first c.loop-place.place c.loop-place.mask)
    atoms_is c.loop-place.invariant))
  where
    ends : (first count place : ℕ) → place ≡ min count (first + 64)
        → (first + 64 ≤ place) ⊎ (count ≤ place)
    ends first count place is = ⊎_elim
        (λ low. inr (omega arith)) (λ high. inl (omega arith)) (cases_lt count (first + 64))
