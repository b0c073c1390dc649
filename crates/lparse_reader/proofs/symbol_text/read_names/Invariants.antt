use Rattle.std.proofs.Common.{◌≡◌, ◌-◌, length}
use Rattle.lparse_reader.specs.Fields.{behind, until_end_at, entry_or_end_at}
use Rattle.lparse_reader.proofs.symbol_text.read_names.Given as goal

abbrev pub invariant-loop : goal.invariant-loop
invariant-loop l =
    behind l.names (until_end_at entry_or_end_at (length l.bytes - l.counter) l.rest)
    ≡ until_end_at entry_or_end_at (length l.bytes) l.bytes
