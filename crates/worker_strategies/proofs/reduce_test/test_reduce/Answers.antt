use Rattle.std.proofs.Common.{Some, subst, sym}
use Rattle.coherence_test.specs.Testing.{MayAsk}
use Rattle.worker_strategies.proofs.PartLemmas.{may_ask_any}
use Rattle.worker_strategies.proofs.reduce_test.test_reduce.Goals as goal

pub ask-requires-clause-may : goal.ask-requires-clause-may
ask-requires-clause-may c =
    let tester = c.args.tester.now in
    subst
    (λ assume. MayAsk tester.normal tester.disjunctions
    (record { assume = assume; any = Some c.in_ok-any.any })) (sym c.open.ensures)
    (may_ask_any c.args.normal.now tester.normal c.args.mode c.args.cands.now
    c.as_slice.result.now tester.disjunctions c.in_ok-any.any c.requires.same c.requires.normal
    c.requires.candidates.each c.in_ok-any.ensures c.as_slice.ensures c.requires.room)
