use Rattle.std.proofs.Common.{◌≡◌, drop}
use Rattle.lparse_reader.specs.Fields.{behind, weighed_at}
use Rattle.lparse_reader.proofs.rule_text.read_weights.Given as goal

abbrev pub invariant-loop-part : goal.invariant-loop-part
invariant-loop-part l =
    behind l.body (weighed_at (drop l.part-index l.parts) l.rest) ≡ weighed_at l.parts l.bytes
