use Rattle.minimality_test.proofs.SearchLemmas.{answered, came, counts, has_atoms}
use Rattle.minimality_test.proofs.testing.search_parts.Goals as goal

pub read_answer-requires-clause-over : goal.read_answer-requires-clause-over
read_answer-requires-clause-over c =
    has_atoms c.args.normal.now c.args.set.now c.in_ok-engine.engine.theory
    c.in_ok-engine.ensures.theory c.ask_for_part-answer.new.engine.state c.args.budget.now
    c.ask_for_part-answer.new.budget c.ask_for_part-answer.result c.ask_for_part-answer.ensures
    c.trail.result.now c.trail.ensures

pub read_answer-requires-clause-comes : goal.read_answer-requires-clause-comes
read_answer-requires-clause-comes c =
    came c.args.normal.now c.args.set.now c.in_ok-engine.engine.theory
    c.in_ok-engine.ensures.theory c.ask_for_part-answer.new.engine.state c.args.budget.now
    c.ask_for_part-answer.new.budget c.ask_for_part-answer.result c.ask_for_part-answer.ensures
    c.trail.result.now c.trail.ensures

pub returns-clause-answer : goal.returns-clause-answer
returns-clause-answer c =
    answered c.args.normal.now c.args.set.now c.in_ok-engine.engine.theory
    c.in_ok-engine.ensures.theory c.ask_for_part-answer.new.engine.state c.args.budget.now
    c.ask_for_part-answer.new.budget c.ask_for_part-answer.result c.ask_for_part-answer.ensures
    c.trail.result.now c.trail.ensures c.requires.normal c.requires.over c.read_answer.result
    c.read_answer.ensures

pub returns-clause-counted : goal.returns-clause-counted
returns-clause-counted c =
    counts c.args.normal.now c.args.set.now c.in_ok-engine.engine.theory
    c.in_ok-engine.ensures.theory c.ask_for_part-answer.new.engine.state c.args.budget.now
    c.ask_for_part-answer.new.budget c.ask_for_part-answer.result c.ask_for_part-answer.ensures
    c.trail.result.now c.trail.ensures c.read_answer.result c.read_answer.ensures
