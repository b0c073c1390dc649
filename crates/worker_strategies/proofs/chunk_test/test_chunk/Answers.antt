use Rattle.std.proofs.Common.{◌+◌, ◌-◌, length, subst, sym}
use Rattle.assumption_engine.specs.Answer.{IsBelow}
use Rattle.worker_jobs.specs.declared.job.Job.TheVariants.{Chunk}
use Rattle.worker_strategies.specs.Chunks.{IsStep}
use Rattle.worker_strategies.specs.Outcome.{IsOutcome}
use Rattle.worker_strategies.proofs.PartLemmas.{IsNextPart, first_part, later_part, part_ends}
use Rattle.worker_strategies.proofs.PartLemmas.{same_stop, tested_both}
use Rattle.worker_strategies.proofs.chunk_test.test_chunk.Goals as goal

pub parts-init : goal.parts-init
parts-init c =
    let budget = c.args.budget.now in
    let tester = c.args.tester.now in
    subst
    (IsNextPart c.args.normal.now c.args.cands.now (length budget.units + c.args.slice) tester
    tester budget budget) (sym c.in_ok-part.ensures)
    (first_part c.args.normal.now c.args.cands.now c.args.slice tester budget
    c.requires.candidates c.requires.alive c.requires.some c.requires.unused)

pub returns-in-Ended-clause-tested : goal.returns-in-Ended-clause-tested
returns-in-Ended-clause-tested c =
    tested_both c.args.normal.now c.args.mode c.args.cands.now
    (length c.args.budget.now.units + c.args.slice) c.args.tester.now c.parts.tester
    c.try_chunk.new.tester c.args.budget.now c.parts.budget c.try_chunk.new.budget c.parts.part
    c.parts.invariant c.in_ok-outcome.ensures.tested

pub returns-in-Ended-clause-outcome : goal.returns-in-Ended-clause-outcome
returns-in-Ended-clause-outcome c =
    let normal = c.args.normal.now in
    let cands = c.args.cands.now in
    let stop = length c.args.budget.now.units + c.args.slice in
    let after = c.try_chunk.new.budget in
    let stays =
    same_stop normal cands c.args.slice c.args.tester.now c.parts.tester c.args.budget.now
    c.parts.budget c.parts.part c.parts.invariant c.used-before.result c.used.result
    c.used-before.ensures.used c.used.ensures.used in
    part_ends normal c.args.mode cands stop c.args.tester.now c.parts.tester
    c.try_chunk.new.tester c.args.budget.now c.parts.budget after c.parts.part c.parts.invariant
    c.in_ok-outcome.ensures.tested c.in-Ended.outcome
    (subst
    (λ end. IsOutcome normal c.args.mode (Chunk c.parts.part) end after c.in-Ended.outcome)
    stays
    (subst
    (IsStep normal c.args.mode c.parts.part
    (length c.parts.budget.units + (c.args.slice - (c.used.result - c.used-before.result)))
    after) c.in-Ended.is c.in_ok-outcome.ensures.step))

pub parts-preserved : goal.parts-preserved
parts-preserved c =
    let normal = c.args.normal.now in
    let cands = c.args.cands.now in
    let stop = length c.args.budget.now.units + c.args.slice in
    let after = c.try_chunk.new.budget in
    let stays =
    same_stop normal cands c.args.slice c.args.tester.now c.parts.tester c.args.budget.now
    c.parts.budget c.parts.part c.parts.invariant c.used-before.result c.used.result
    c.used-before.ensures.used c.used.ensures.used in
    let step =
    subst
    (IsStep normal c.args.mode c.parts.part
    (length c.parts.budget.units + (c.args.slice - (c.used.result - c.used-before.result)))
    after) c.in-Half.is c.in_ok-outcome.ensures.step in
    later_part normal c.args.mode cands stop c.args.tester.now c.parts.tester
    c.try_chunk.new.tester c.args.budget.now c.parts.budget after c.parts.part c.parts.invariant
    c.in_ok-outcome.ensures.tested c.in-Half.half step.0
    (subst (λ end. IsBelow end after) stays step.1)
