use Rattle.byte_edges.proofs.CallerLemmas.{writes_then, writes_longer, writes_fault}
use Rattle.report.proofs.writing.write_whole.Goals as goal

pub returns-in_err-write_words : goal.returns-in_err-write_words
returns-in_err-write_words g c =
    writes_fault c.from_residual.ensures.0 (writes_longer _ c.in_err-write_words.ensures)

pub returns : goal.returns
returns g c =
    writes_then c.in_ok-write_words.ensures c.write_bytes.ensures
