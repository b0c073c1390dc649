use Rattle.std.proofs.Common.{◌≡◌, drop}
use Rattle.lparse_reader.specs.Tokens.{skipped}
use Rattle.lparse_reader.proofs.token_text.next_token.Given as goal

abbrev pub invariant-loop-at : goal.invariant-loop-at
invariant-loop-at l = skipped (drop l.at l.bytes) ≡ skipped l.bytes
