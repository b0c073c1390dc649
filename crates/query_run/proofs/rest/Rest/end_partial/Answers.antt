use Rattle.std.proofs.Common.{ℕ, List, inl, inr, map, subst, rules}
use Rattle.report.specs.declared.lines.Line.TheVariants.{Unsettled}
use Rattle.query_run.specs.Ending.{IsSpentEnd}
use Rattle.query_run.proofs.rest.Rest.end_partial.Goals as goal

pub returns-in-Ok : goal.returns-in-Ok
returns-in-Ok g c =
    inr (inl (
      search rules,
      subst (λ (cands : List ℕ).
          IsSpentEnd g.K.Sink.written g.K.Sink.faults c.args.sink.now c.end_open.new.sink c.args.self
          (map (λ cand. Unsettled cand c.args.self.books.budget) cands) c.end_open.result)
          (search rules) c.end_open.ensures,
    ))
