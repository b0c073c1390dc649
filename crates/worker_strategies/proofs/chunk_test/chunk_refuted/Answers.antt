use Rattle.std.proofs.Common.{◌∙◌, ap, subst, sym}
use Rattle.worker_jobs.specs.declared.job.Job.TheVariants.{Chunk}
use Rattle.worker_strategies.specs.Outcome.{IsAnswer}
use Rattle.worker_strategies.proofs.PartLemmas.{first_is_candidate, half_of_named, named_is}
use Rattle.worker_strategies.proofs.PartLemmas.{none_named, one_named, same_candidates}
use Rattle.worker_strategies.proofs.chunk_test.chunk_refuted.Goals as goal

pub returns-in-empty-clause-step : goal.returns-in-empty-clause-step
returns-in-empty-clause-step c core_is stop after below =
    let normal = c.args.normal.now in
    let cands = c.args.cands.now in
    let named = c.as_slice-3.result.now in (
      subst (IsAnswer normal c.args.mode (Chunk cands)) (sym c.incoherent.ensures)
          (none_named normal c.args.mode cands c.requires.normal c.requires.candidates
          c.args.core.now named
          (named_is normal.names c.args.mode c.args.core.now.lits c.as_slice.result.now cands
          c.as_slice-2.result.now c.in_ok-named.named named c.as_slice-3.ensures
          c.in_ok-named.ensures c.as_slice.ensures c.as_slice-2.ensures) core_is
          c.in-empty.len_below),
      below,
    )

pub same_literal-requires-clause-one : goal.same_literal-requires-clause-one
same_literal-requires-clause-one c =
    let normal = c.args.normal.now in
    let cands = c.args.cands.now in
    let named = c.as_slice-3.result.now in
    first_is_candidate normal c.args.mode cands c.requires.normal c.requires.candidates
    c.args.core.now named
    (named_is normal.names c.args.mode c.args.core.now.lits c.as_slice.result.now cands
    c.as_slice-2.result.now c.in_ok-named.named named c.as_slice-3.ensures c.in_ok-named.ensures
    c.as_slice.ensures c.as_slice-2.ensures) c.in-len1.len_at_least

pub returns-in-len1-clause-step : goal.returns-in-len1-clause-step
returns-in-len1-clause-step c core_is stop after below =
    let normal = c.args.normal.now in
    let cands = c.args.cands.now in
    let named = c.as_slice-3.result.now in (
      subst (IsAnswer normal c.args.mode (Chunk cands)) (sym c.proved.ensures)
          (one_named normal c.args.mode cands c.requires.normal c.requires.candidates
          c.args.core.now named
          (named_is normal.names c.args.mode c.args.core.now.lits c.as_slice.result.now cands
          c.as_slice-2.result.now c.in_ok-named.named named c.as_slice-3.ensures
          c.in_ok-named.ensures c.as_slice.ensures c.as_slice-2.ensures) core_is
          c.in_ok-same-in-len1.same c.in-len1.len_at_least c.in-len1.len_below
          (c.in_ok-same-in-len1.ensures
          ∙ ap (same_candidates normal.names c.args.mode named) c.as_slice-in-len1.ensures)),
      below,
    )

pub returns-clause-step : goal.returns-clause-step
returns-clause-step c core_is stop after below =
    let normal = c.args.normal.now in
    let cands = c.args.cands.now in
    let named = c.as_slice-3.result.now in (
      half_of_named normal c.args.mode cands c.requires.normal c.requires.candidates
          c.args.core.now named
          (named_is normal.names c.args.mode c.args.core.now.lits c.as_slice.result.now cands
          c.as_slice-2.result.now c.in_ok-named.named named c.as_slice-3.ensures
          c.in_ok-named.ensures c.as_slice.ensures c.as_slice-2.ensures)
          c.in_ok-part-in_default.part c.in_default.len_at_least c.in_ok-part-in_default.ensures,
      below,
    )
