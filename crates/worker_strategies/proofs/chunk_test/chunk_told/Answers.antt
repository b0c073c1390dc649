use Rattle.std.proofs.Common.{subst, sym}
use Rattle.coherence_test.specs.Asked.{IsTested, IsTestedAt}
use Rattle.worker_jobs.specs.declared.job.Job.TheVariants.{Chunk}
use Rattle.worker_strategies.specs.Disjunction.{asked_for}
use Rattle.worker_strategies.specs.Outcome.{IsAnswer}
use Rattle.worker_strategies.proofs.ChunkLemmas.{chunk_found}
use Rattle.worker_strategies.proofs.chunk_test.chunk_told.Goals as goal

pub returns-in_ok-gain-in-Found-clause-step : goal.returns-in_ok-gain-in-Found-clause-step
returns-in_ok-gain-in-Found-clause-step c says stop after at =
    let normal = c.args.normal.now in
    let job = Chunk c.args.cands.now in (
      subst (IsAnswer normal c.args.mode job) (sym c.in_ok-gain-in-Found.ensures)
          (chunk_found normal c.args.mode c.args.cands.now c.requires.normal
          c.requires.candidates c.in-Found.set
          (subst (IsTested normal (asked_for normal.names c.args.mode job)) c.in-Found.is says)),
      subst (IsTestedAt stop after) c.in-Found.is at,
    )
