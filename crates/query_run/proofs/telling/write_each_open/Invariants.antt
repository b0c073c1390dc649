use Rattle.std.proofs.Common.{ℕ, take}
use Rattle.std.specs.List.{flat_map}
use Rattle.byte_edges.proofs.CallerLemmas.{Wrote}
use Rattle.report.specs.Text.{text_of_line}
use Rattle.report.specs.declared.lines.Line.TheVariants.{Unsettled}
use Rattle.query_run.proofs.telling.write_each_open.Given as goal

abbrev pub invariant-loop-cand : goal.invariant-loop-cand
invariant-loop-cand g l =
    Wrote g.K.Sink.written g.K.Sink.faults l.initial.sink l.sink
    (flat_map (λ (cand : ℕ). text_of_line l.names (Unsettled cand l.budget))
    (take l.cand-index l.cands))
