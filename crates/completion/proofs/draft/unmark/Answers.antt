use Rattle.std.proofs.Common.{◌<◌, length, List, All, subst, sym, arith}
use Rattle.clause_store.specs.declared.literal.Lit.{Lit}
use Rattle.completion.proofs.DraftLemmas.{draft_within}
use Rattle.completion.proofs.draft.unmark.Goals as goal

pub unmark_each-requires : goal.unmark_each-requires
unmark_each-requires c =
    let marks = c.args.marks.now in
    let within : All (λ lit. lit.0 < length marks.items) c.as_slice.result.now =
    subst (λ (lits : List Lit). All (λ lit. lit.0 < length marks.items) lits)
    (sym c.as_slice.ensures.value)
    (draft_within marks.items c.args.lits.now.items c.requires) in
    λ k d h. omega (arith, within k d h, marks.ok.0)
