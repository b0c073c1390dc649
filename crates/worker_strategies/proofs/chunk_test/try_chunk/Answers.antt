use Rattle.worker_strategies.proofs.PartLemmas.{may_ask_all}
use Rattle.worker_strategies.proofs.chunk_test.try_chunk.Goals as goal

pub ask-requires-clause-may : goal.ask-requires-clause-may
ask-requires-clause-may c =
    may_ask_all c.args.normal.now c.args.tester.now.normal c.args.mode c.args.cands.now
    c.as_slice.result.now c.args.tester.now.disjunctions c.in_ok-assume.assume c.requires.same
    c.requires.normal c.requires.candidates.each c.in_ok-assume.ensures c.as_slice.ensures
