use Rattle.std.proofs.Common.{◌≡◌, ◌<◌, ◌++◌, [], ◌∷◌, List, All, length, get_or, take, sym, subst}
use Rattle.std.proofs.Common.{arith, ℕ}
use Rattle.std.proofs.lemmas.List.{take_more}
use Rattle.completion.specs.Chains.{NotesAll}
use Rattle.completion.proofs.ChainLemmas.{NotesAll-more}
use Rattle.completion.proofs.support_clauses.note_all.Goals as goal

pub loop-head-preserved : goal.loop-head-preserved
loop-head-preserved c =
    let heads = c.as_slice-head-items.result.now in
    let at = c.loop-head.head-index in
    let head = get_or heads at 0 in
    let old = c.args.supports.now in
    let low : head < length old.lasts.items =
    subst (λ (l : List ℕ). All (λ one. one < length old.lasts.items) l)
    (sym c.as_slice-head-items.ensures) c.requires at 0 c.loop-head-test.true in
    subst (λ l. NotesAll l c.args.body old c.put.new.supports)
    (sym (take_more heads at 0 c.loop-head-test.true))
    (NotesAll-more (take at heads) head c.args.body old c.loop-head.supports c.put.new.supports
    c.loop-head.invariant (omega (arith, low, c.loop-head.invariant.count)) c.in_ok-put.ensures)
