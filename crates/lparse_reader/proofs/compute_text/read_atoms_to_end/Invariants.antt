use Rattle.std.proofs.Common.{◌≡◌, ◌-◌, length}
use Rattle.lparse_reader.specs.Fields.{behind, until_end_at, atom_or_end_at}
use Rattle.lparse_reader.proofs.compute_text.read_atoms_to_end.Given as goal

abbrev pub invariant-loop : goal.invariant-loop
invariant-loop l =
    behind l.atoms (until_end_at atom_or_end_at (length l.bytes - l.counter) l.rest)
    ≡ until_end_at atom_or_end_at (length l.bytes) l.bytes
