use Rattle.std.proofs.Common.{◌≡◌, ◌-◌, length}
use Rattle.lparse_reader.specs.Fields.{behind, until_end_at}
use Rattle.lparse_reader.specs.Reading.{rule_or_end_at}
use Rattle.lparse_reader.proofs.rule_text.read_rules.Given as goal

abbrev pub invariant-loop : goal.invariant-loop
invariant-loop l =
    behind l.rules (until_end_at rule_or_end_at (length l.bytes - l.counter) l.rest)
    ≡ until_end_at rule_or_end_at (length l.bytes) l.bytes
