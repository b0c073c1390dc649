use Rattle.std.proofs.Common.{◌≡◌, ◌-◌}
use Rattle.lparse_reader.specs.Fields.{behind, counted_at, atom_at}
use Rattle.lparse_reader.proofs.rule_text.read_atoms.Given as goal

abbrev pub invariant-loop : goal.invariant-loop
invariant-loop l =
    behind l.atoms (counted_at atom_at (l.count - l.counter) l.rest)
    ≡ counted_at atom_at l.count l.bytes
