use Rattle.master_record.specs.Verdicts.{IsVerdict}
use Rattle.query_run.specs.Progress.{to_do}
use Rattle.query_run.proofs.ReachedLemmas.{IsTelling}
use Rattle.query_run.proofs.rounds.Rounds.to_verdict.Given as goal

abbrev pub invariant-loop-verdict : goal.invariant-loop-verdict
invariant-loop-verdict g l =
    IsTelling g.K.Sink.written g.K.Sink.faults l.initial.sink l.sink l.initial.self l.self
    × IsVerdict l.self.books l.verdict

abbrev pub decreases-loop-verdict : goal.decreases-loop-verdict
decreases-loop-verdict g l = to_do l.self.books l.self.worker
