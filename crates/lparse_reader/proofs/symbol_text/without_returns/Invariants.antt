use Rattle.std.proofs.Common.{◌≡◌, length}
use Rattle.lparse_reader.specs.Tokens.{trimmed}
use Rattle.lparse_reader.proofs.symbol_text.without_returns.Given as goal

abbrev pub invariant-loop-text : goal.invariant-loop-text
invariant-loop-text l = trimmed l.text ≡ trimmed l.line

abbrev pub decreases-loop-text : goal.decreases-loop-text
decreases-loop-text l = length l.text
