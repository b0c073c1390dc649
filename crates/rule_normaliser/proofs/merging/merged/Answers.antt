use Rattle.std.proofs.Common.{◌<◌, List, All, subst, sym, length, arith}
use Rattle.std.specs.List.Sorted.{IsNonDecreasingBy}
use Rattle.std.proofs.lemmas.List.Sorted.{All-permutation, length_permutation}
use Rattle.std.proofs.lemmas.Result.{IfOk-weaker}
use Rattle.ground_program.specs.declared.program.Weighted.{Weighted}
use Rattle.ground_program.specs.Program.{IsNumber}
use Rattle.normal_program.specs.Body.{rank, IsMerged}
use Rattle.rule_normaliser.proofs.MergeLemmas.{IsMerged-permutation}
use Rattle.rule_normaliser.proofs.merging.merged.Goals as goal

pub joined-requires-clause-order : goal.joined-requires-clause-order
joined-requires-clause-order c =
    subst (IsNonDecreasingBy (λ (one : Weighted). rank one.lit)) (sym c.deref.ensures.value)
    c.in_ok-items.ensures.order

pub joined-requires-clause-short : goal.joined-requires-clause-short
joined-requires-clause-short c =
    subst (λ items. length items < 2147483648) (sym c.deref.ensures.value)
    (omega (arith, c.requires.short, length_permutation _ _ c.in_ok-items.ensures.same))

pub joined-requires-clause-weights : goal.joined-requires-clause-weights
joined-requires-clause-weights c =
    let Small = λ (one : Weighted). IsNumber one.weight in
    subst (λ (items : List Weighted). All (λ one. IsNumber one.weight) items)
    (sym c.deref.ensures.value)
    (All-permutation Small _ _ c.in_ok-items.ensures.same c.requires.weights)

pub returns : goal.returns
returns c =
    IfOk-weaker c.joined.result (IsMerged c.deref.result.now) (IsMerged c.args.body.now)
    (λ parts merged.
    IsMerged-permutation _ _ _ c.in_ok-items.ensures.same
    (subst (λ items. IsMerged items parts) c.deref.ensures.value merged))
    c.joined.ensures
