use Rattle.byte_edges.proofs.CallerLemmas.{writes_same}
use Rattle.query_run.proofs.TellLemmas.{open_text}
use Rattle.query_run.proofs.telling.write_open.Goals as goal

pub returns : goal.returns
returns g c =
    writes_same (open_text c.args.names.now c.args.budget c.args.cands.now) c.write_each_open.ensures
