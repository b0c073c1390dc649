use Rattle.report_reader.proofs.TextLemmas.{all_read, all_refused}
use Rattle.report_reader.proofs.whole_text.read_report.Goals as goal

pub returns-clause-all_read : goal.returns-clause-all_read
returns-clause-all_read c =
    all_read (λ found. found.items) c.args.atoms c.args.names.now c.args.text.now
    c.ranges.atoms.fits c.requires.one_line c.read_lines.result c.read_lines.ensures.read
    c.read_lines.ensures.refused

pub returns-clause-all_refused : goal.returns-clause-all_refused
returns-clause-all_refused c =
    all_refused (λ found. found.items) c.args.atoms c.args.names.now c.args.text.now
    c.ranges.atoms.fits c.requires.one_line c.read_lines.result c.read_lines.ensures.read
    c.read_lines.ensures.refused
