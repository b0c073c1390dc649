use Rattle.std.proofs.Common.{sym, ◌∙◌, arith}
use Rattle.lparse_reader.proofs.lemmas.Pieces.TokenLemmas.{trimmed_return, trimmed_done}
use Rattle.lparse_reader.proofs.lemmas.Pieces.TokenLemmas.{trimmed_nothing}
use Rattle.lparse_reader.proofs.symbol_text.without_returns.Goals as goal

pub returns-then-last-ne13 : goal.returns-then-last-ne13
returns-then-last-ne13 c =
    sym (trimmed_done c.loop-text.text.now c.in-len1-up.len_at_least c.if-last-ne13.true)
    ∙ c.loop-text.invariant

pub loop-text-preserved : goal.loop-text-preserved
loop-text-preserved c =
    sym (trimmed_return c.loop-text.text.now c.in-len1-up.len_at_least c.if-last-ne13.false)
    ∙ c.loop-text.invariant

pub returns : goal.returns
returns c =
    sym (trimmed_nothing c.loop-text.text.now (omega (arith, c.in_default.len_below)))
    ∙ c.loop-text.invariant
