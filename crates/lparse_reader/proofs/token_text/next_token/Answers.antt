use Rattle.std.proofs.Common.{sym, ◌∙◌}
use Rattle.lparse_reader.proofs.lemmas.Pieces.TokenLemmas.{slice_from, skipped_past, skipped_here}
use Rattle.lparse_reader.proofs.lemmas.Pieces.TokenLemmas.{skipped_none}
use Rattle.lparse_reader.proofs.token_text.next_token.Goals as goal

pub returns-then-not-is_between : goal.returns-then-not-is_between
returns-then-not-is_between c =
    slice_from c.args.bytes.now c.loop-at.at
    ∙ sym
    (skipped_here c.args.bytes.now c.loop-at.at c.loop-at-test.true
    (sym c.is_between.ensures ∙ c.if-not-is_between.true))
    ∙ c.loop-at.invariant

pub loop-at-preserved : goal.loop-at-preserved
loop-at-preserved c =
    sym (skipped_past c.args.bytes.now c.loop-at.at c.loop-at-test.true
    (sym c.is_between.ensures ∙ c.if-not-is_between.false))
    ∙ c.loop-at.invariant

pub returns : goal.returns
returns c =
    sym (skipped_none c.args.bytes.now c.loop-at.at c.loop-at-test.false) ∙ c.loop-at.invariant
