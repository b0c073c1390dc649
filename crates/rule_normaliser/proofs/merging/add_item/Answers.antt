use Rattle.std.proofs.Common.{◌-◌, ◌≡◌, length, subst, sym, ap, ◌∙◌, arith, get_or, refl}
use Rattle.std.proofs.lemmas.Bool.{iff_false}
use Rattle.std.proofs.lemmas.Option.{get_or_from_slice_get}
use Rattle.normal_program.specs.declared.normal.Part.{Part}
use Rattle.rule_normaliser.specs.Merging.{KeepsMerged}
use Rattle.rule_normaliser.proofs.MergeLemmas.{KeepsMerged-push, KeepsMerged-add, IsNewLit}
use Rattle.rule_normaliser.proofs.merging.add_item.Goals as goal
use Rattle.rule_normaliser.proofs.merging.add_item.Goals.{
  else-count-gt0-via-then-count-gt0+else-is_of,
}
use Rattle.rule_normaliser.proofs.merging.add_item.Goals.{else-count-gt0-via-else-count-gt0}

pub returns-then-is_of : goal.returns-then-is_of
returns-then-is_of c =
    let parts = c.args.parts.now in
    let at = c.len-count.result - 1 in
    let seen : (d : Part) → get_or parts at d ≡ c.get.result.now =
    λ d. get_or_from_slice_get parts at c.get.result.now d c.get.ensures in
    let last : (d : Part) → get_or parts at d ≡ c.get-last.result.now =
    λ d. get_or_from_slice_get parts at c.get-last.result.now d c.get-last.ensures in
    let same : c.get.result.now.lit ≡ c.args.item.now.lit = c.is_of.ensures.0 c.if-is_of.true in
    subst (KeepsMerged parts c.args.item.now) (sym c.set.ensures)
    (KeepsMerged-add parts c.args.item.now at _ (omega arith)
    (λ d. ap (λ (part : Part). part.lit) (seen d) ∙ same) refl
    (λ d.
    omega (arith, ap (λ (part : Part). part.weight) (last d), c.from.ensures)))

pub returns : goal.returns
returns c =
    let parts = c.args.parts.now in
    let new : IsNewLit parts c.args.item.now.lit =
    elim c.else-count-gt0.branch [
      | else-count-gt0-via-then-count-gt0+else-is_of w ↦ λ d some same.
          let count : c.len-count.result ≡ length parts = omega arith in
          let seen : get_or parts (length parts - 1) d ≡ w.get.result.now =
          ap (λ n. get_or parts (n - 1) d) (sym count)
          ∙ get_or_from_slice_get parts (c.len-count.result - 1) w.get.result.now d w.get.ensures in
          iff_false w.is_of.ensures w.if-is_of.false
          (ap (λ (part : Part). part.lit) (sym seen) ∙ same)
      | else-count-gt0-via-else-count-gt0 w ↦ λ d some same. omega arith
    ] in
    subst (KeepsMerged parts c.args.item.now) (sym (c.in_ok-push.ensures).ok)
    (KeepsMerged-push parts c.args.item.now c.part_of.result c.part_of.ensures.lit
    c.part_of.ensures.weight new)
