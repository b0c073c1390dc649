use Rattle.std.proofs.Common.{◌≡◌, ◌≤◌, length, drop}
use Rattle.lparse_reader.specs.Fields.{digits_at}
use Rattle.lparse_reader.proofs.token_text.read_digits.Given as goal

abbrev pub invariant-loop-at : goal.invariant-loop-at
invariant-loop-at l = record {
  small : l.number ≤ 2147483647;
  so_far : digits_at (length l.here) l.number (drop l.at l.here)
      ≡ digits_at (length l.here) 0 l.here;
}
