use Rattle.std.proofs.Common.{codes}
use Rattle.byte_edges.proofs.CallerLemmas.{writes_then, writes_longer, writes_fault}
use Rattle.lparse_reader.specs.Text.{entry_line, number_line, ended_lines, marked_atoms}
use Rattle.lparse_reader.proofs.printing.print_program.Goals as goal

pub returns-in_err-print_lines : goal.returns-in_err-print_lines
returns-in_err-print_lines g c =
    let program = c.args.program.now in
    let failed = rw c.as_slice.ensures at c.in_err-print_lines.ensures in
    writes_fault c.from_residual.ensures.0
    (writes_longer (number_line program.models)
    (writes_longer (marked_atoms (codes "B-\n") program.must_not)
    (writes_longer (marked_atoms (codes "B+\n") program.must)
    (writes_longer (ended_lines entry_line program.names)
    failed))))

pub returns-in_err-print_lines-2 : goal.returns-in_err-print_lines-2
returns-in_err-print_lines-2 g c =
    let program = c.args.program.now in
    let rules = rw c.as_slice.ensures at c.in_ok-print_lines.ensures in
    let failed = rw c.as_slice-2.ensures at c.in_err-print_lines-2.ensures in
    writes_fault c.from_residual-in_err-print_lines-2.ensures.0
    (writes_longer (number_line program.models)
    (writes_longer (marked_atoms (codes "B-\n") program.must_not)
    (writes_longer (marked_atoms (codes "B+\n") program.must)
    (writes_then rules failed))))

pub returns-in_err-print_atoms : goal.returns-in_err-print_atoms
returns-in_err-print_atoms g c =
    let program = c.args.program.now in
    let rules = rw c.as_slice.ensures at c.in_ok-print_lines.ensures in
    let names = rw c.as_slice-2.ensures at c.in_ok-print_lines-2.ensures in
    let failed = rw c.as_slice-3.ensures at c.in_err-print_atoms.ensures in
    writes_fault c.from_residual-in_err-print_atoms.ensures.0
    (writes_longer (number_line program.models)
    (writes_longer (marked_atoms (codes "B-\n") program.must_not)
    (writes_then (writes_then rules names) failed)))

pub returns-in_err-print_atoms-2 : goal.returns-in_err-print_atoms-2
returns-in_err-print_atoms-2 g c =
    let program = c.args.program.now in
    let rules = rw c.as_slice.ensures at c.in_ok-print_lines.ensures in
    let names = rw c.as_slice-2.ensures at c.in_ok-print_lines-2.ensures in
    let must = rw c.as_slice-3.ensures at c.in_ok-print_atoms.ensures in
    let failed = rw c.as_slice-4.ensures at c.in_err-print_atoms-2.ensures in
    writes_fault c.from_residual-in_err-print_atoms-2.ensures.0
    (writes_longer (number_line program.models)
    (writes_then (writes_then (writes_then rules names) must) failed))

pub returns : goal.returns
returns g c =
    let rules = rw c.as_slice.ensures at c.in_ok-print_lines.ensures in
    let names = rw c.as_slice-2.ensures at c.in_ok-print_lines-2.ensures in
    let must = rw c.as_slice-3.ensures at c.in_ok-print_atoms.ensures in
    let must_not = rw c.as_slice-4.ensures at c.in_ok-print_atoms-2.ensures in
    writes_then (writes_then (writes_then (writes_then rules names) must) must_not) c.print.ensures
