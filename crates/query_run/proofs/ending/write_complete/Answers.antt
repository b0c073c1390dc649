use Rattle.std.proofs.Common.{◌∷◌, []}
use Rattle.report.specs.declared.lines.Line.TheVariants.{Complete}
use Rattle.query_run.specs.Way.{sizes_before}
use Rattle.query_run.proofs.EndLemmas.{ended_fault, ended_then}
use Rattle.query_run.proofs.ending.write_complete.Goals as goal

pub returns-in_err-write_first_sizes : goal.returns-in_err-write_first_sizes
returns-in_err-write_first_sizes g c =
    ended_fault (sizes_before c.args.sized c.args.sizes.0 c.args.sizes.1) _
    c.from_residual.ensures.0 c.in_err-write_first_sizes.ensures

pub returns : goal.returns
returns g c =
    ended_then (sizes_before c.args.sized c.args.sizes.0 c.args.sizes.1) (Complete ∷ [])
    c.in_ok-write_first_sizes.ensures c.end_plainly.ensures
