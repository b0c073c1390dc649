use Rattle.std.proofs.Common.{ℕ, get_or, refl}
use Rattle.byte_edges.proofs.CallerLemmas.{wrote_more, wrote_fault}
use Rattle.report.specs.Text.{text_of_line}
use Rattle.report.specs.declared.lines.Line.TheVariants.{Unsettled}
use Rattle.query_run.proofs.telling.write_each_open.Goals as goal

pub returns-in_err-write_line : goal.returns-in_err-write_line
returns-in_err-write_line g c =
    wrote_fault (λ (cand : ℕ). text_of_line c.args.names.now (Unsettled cand c.args.budget))
    c.args.cands.now 0 c.loop-cand.cand-index (get_or c.args.cands.now c.loop-cand.cand-index 0)
    c.from_residual.ensures.0 c.loop-cand-test.true refl c.loop-cand.invariant
    c.in_err-write_line.ensures

pub loop-cand-preserved : goal.loop-cand-preserved
loop-cand-preserved g c =
    wrote_more (λ (cand : ℕ). text_of_line c.args.names.now (Unsettled cand c.args.budget))
    c.args.cands.now 0 c.loop-cand.cand-index (get_or c.args.cands.now c.loop-cand.cand-index 0)
    c.loop-cand-test.true refl c.loop-cand.invariant c.in_ok-write_line.ensures
