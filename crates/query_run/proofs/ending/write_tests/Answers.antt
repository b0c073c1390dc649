use Rattle.std.proofs.Common.{◌++◌, ◌∷◌, [], map}
use Rattle.report.specs.declared.lines.Line.TheVariants.{Partial, Unsettled}
use Rattle.query_run.specs.Way.{sizes_before}
use Rattle.query_run.proofs.EndLemmas.{ended_fault, ended_then}
use Rattle.query_run.proofs.ending.write_tests.Goals as goal

pub returns-in_err-write_first_sizes : goal.returns-in_err-write_first_sizes
returns-in_err-write_first_sizes g c =
    ended_fault (sizes_before c.args.sized c.args.sizes.0 c.args.sizes.1) _
    c.from_residual.ensures.0 c.in_err-write_first_sizes.ensures

pub returns-in_err-write_open : goal.returns-in_err-write_open
returns-in_err-write_open g c =
    ended_then (sizes_before c.args.sized c.args.sizes.0 c.args.sizes.1)
    (map (λ cand. Unsettled cand c.args.budget) c.args.cands.now ++ Partial ∷ [])
    c.in_ok-write_first_sizes.ensures
    (ended_fault (map (λ cand. Unsettled cand c.args.budget) c.args.cands.now) (Partial ∷ [])
    c.from_residual-in_err-write_open.ensures.0 c.in_err-write_open.ensures)

pub returns : goal.returns
returns g c =
    ended_then (sizes_before c.args.sized c.args.sizes.0 c.args.sizes.1)
    (map (λ cand. Unsettled cand c.args.budget) c.args.cands.now ++ Partial ∷ [])
    c.in_ok-write_first_sizes.ensures
    (ended_then (map (λ cand. Unsettled cand c.args.budget) c.args.cands.now) (Partial ∷ [])
    c.in_ok-write_open.ensures c.end_with.ensures)
