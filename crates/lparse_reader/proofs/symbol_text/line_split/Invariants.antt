use Rattle.std.proofs.Common.{◌≡◌, ◌++◌, take, drop}
use Rattle.lparse_reader.specs.Tokens.{line_of, after_line}
use Rattle.lparse_reader.proofs.symbol_text.line_split.Given as goal

abbrev pub invariant-loop-at : goal.invariant-loop-at
invariant-loop-at l = record {
  line : line_of l.bytes ≡ take l.at l.bytes ++ line_of (drop l.at l.bytes);
  rest : after_line (drop l.at l.bytes) ≡ after_line l.bytes;
}
