use Rattle.std.proofs.Common.{◌++◌, ◌∷◌, []}
use Rattle.report.specs.declared.lines.Line.TheVariants.{Partial, Unknown}
use Rattle.query_run.specs.Way.{sizes_before}
use Rattle.query_run.proofs.EndLemmas.{ended_fault, ended_then}
use Rattle.query_run.proofs.ending.write_unknown.Goals as goal

pub returns-in_err-write_first_sizes : goal.returns-in_err-write_first_sizes
returns-in_err-write_first_sizes g c =
    ended_fault (sizes_before c.args.sized c.args.sizes.0 c.args.sizes.1) _
    c.from_residual.ensures.0 c.in_err-write_first_sizes.ensures

pub returns-in_err-write_unknown_line : goal.returns-in_err-write_unknown_line
returns-in_err-write_unknown_line g c =
    ended_then (sizes_before c.args.sized c.args.sizes.0 c.args.sizes.1)
    ((Unknown c.args.budget ∷ []) ++ Partial ∷ []) c.in_ok-write_first_sizes.ensures
    (ended_fault (Unknown c.args.budget ∷ []) (Partial ∷ [])
    c.from_residual-in_err-write_unknown_line.ensures.0 c.in_err-write_unknown_line.ensures)

pub returns : goal.returns
returns g c =
    ended_then (sizes_before c.args.sized c.args.sizes.0 c.args.sizes.1)
    ((Unknown c.args.budget ∷ []) ++ Partial ∷ []) c.in_ok-write_first_sizes.ensures
    (ended_then (Unknown c.args.budget ∷ []) (Partial ∷ []) c.in_ok-write_unknown_line.ensures
    c.end_with.ensures)
