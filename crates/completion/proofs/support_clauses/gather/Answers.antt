use Rattle.std.proofs.Common.{◌≡◌, ◌<◌, ◌++◌, [], ◌∷◌, List, length, get_or, take, sym, subst, ap}
use Rattle.std.proofs.Common.{◌∙◌}
use Rattle.std.proofs.lemmas.List.{take_more}
use Rattle.clause_store.specs.declared.literal.Lit.{Lit}
use Rattle.clause_store.proofs.LiteralLemmas.{lit_of_code}
use Rattle.normal_program.specs.declared.normal.NormalRule.{NormalRule}
use Rattle.normal_program.specs.Normal.{body_var}
use Rattle.normal_program.specs.Clauses.{positive}
use Rattle.completion.specs.Chains.{AreSupports, NotesAll}
use Rattle.completion.proofs.AddsLemmas.{item_of}
use Rattle.completion.proofs.ChainLemmas.{AreSupports-more}
use Rattle.completion.proofs.support_clauses.gather.Goals as goal

pub loop-rule-preserved : goal.loop-rule-preserved
loop-rule-preserved c =
    let normal = c.args.normal.now in
    let at = c.loop-rule.rule-index in
    let rule = c.rule-item.result in
    let item =
    item_of c.as_slice-rule-items.result.now normal.rules at rule c.as_slice-rule-items.ensures
    c.loop-rule-test.true c.rule-item.is in
    let old = c.loop-rule.supports in
    let new = c.note_all.new.supports in
    let notes : NotesAll rule.heads (positive (body_var normal rule.body)) old new =
    subst (λ (one : Lit). NotesAll rule.heads one old new)
    (lit_of_code c.positive.result (positive (body_var normal rule.body)) c.positive.ensures)
    c.in_ok-note_all.ensures in
    subst (λ rules. AreSupports normal rules new)
    (sym
    (take_more normal.rules at rule item.0
    ∙ ap (λ one. take at normal.rules ++ one ∷ []) (sym item.1)))
    (AreSupports-more normal (take at normal.rules) rule old new c.loop-rule.invariant notes)
