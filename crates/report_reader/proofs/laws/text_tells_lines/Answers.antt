use Rattle.report_reader.proofs.TextLemmas.{text_tells}
use Rattle.report_reader.proofs.laws.text_tells_lines.Goals as goal

pub returns : goal.returns
returns c = text_tells
