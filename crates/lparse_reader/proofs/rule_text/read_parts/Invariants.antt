use Rattle.std.proofs.Common.{◌≡◌, ◌-◌}
use Rattle.lparse_reader.specs.Fields.{behind, counted_at, part_at}
use Rattle.lparse_reader.proofs.rule_text.read_parts.Given as goal

abbrev pub invariant-loop : goal.invariant-loop
invariant-loop l =
    behind l.body (counted_at (part_at l.negated) (l.count - l.counter) l.rest)
    ≡ behind l.fn.before (counted_at (part_at l.negated) l.count l.bytes)
