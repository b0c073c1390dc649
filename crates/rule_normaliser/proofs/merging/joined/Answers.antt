use Rattle.std.proofs.Common.{false, ◌≤◌, ◌<◌, ◌*◌, ◌≡◌, length, length-take-le, get_or, take}
use Rattle.std.proofs.Common.{subst, sym, arith}
use Rattle.std.proofs.lemmas.List.{take_more}
use Rattle.std.proofs.lemmas.List.Elements.{All-take}
use Rattle.ground_program.specs.declared.program.Weighted.{Weighted}
use Rattle.ground_program.specs.Program.{IsNumber}
use Rattle.normal_program.specs.Body.{IsMerged}
use Rattle.rule_normaliser.proofs.MergeLemmas.{merged_weights_small, at_most_before}
use Rattle.rule_normaliser.proofs.merging.joined.Goals as goal

pub add_item-requires : goal.add_item-requires
add_item-requires c k d h =
    let items = c.args.items.now in
    let at = c.loop-item.item-index in
    let parts = c.loop-item.parts in
    let short : at < 2147483648 = omega (arith, c.requires.short) in
    let len : length (take at items) ≡ at = length-take-le at items (omega arith) in
    let small : (get_or parts k d).weight ≤ length (take at items) * 2147483648 =
    merged_weights_small (take at items) parts c.loop-item.invariant
    (All-take (λ (one : Weighted). IsNumber one.weight) at items c.requires.weights) k d h in
    let item =
    c.requires.weights at record { lit = record { atom = 0; negated = false }; weight = 0 }
    (omega arith) in
    omega (arith, small, len, item)

pub loop-item-preserved : goal.loop-item-preserved
loop-item-preserved c =
    let items = c.args.items.now in
    let at = c.loop-item.item-index in
    let within : at < length items = omega arith in
    subst (λ body. IsMerged body c.add_item.new.parts)
    (sym (take_more items at _ within))
    (c.in_ok-add_item.ensures (take at items) (at_most_before items at within _ c.requires.order)
    c.loop-item.invariant)
