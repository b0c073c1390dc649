use Rattle.std.proofs.Common.{◌+◌, ap, arith, length, subst, sym}
use Rattle.coherence_test.specs.Searching.{assumed_with, Says}
use Rattle.coherence_test.proofs.TestLemmas.{test_added, test_beside, test_counts}
use Rattle.coherence_test.proofs.search.Search.test.Goals as goal

pub told-requires-clause-vars : goal.told-requires-clause-vars
told-requires-clause-vars c not =
    let vars = (c.ask_with-answer.ensures.sound not).vars in
    omega (arith, vars)

pub told-requires-clause-says : goal.told-requires-clause-says
told-requires-clause-says c not =
    let mid = c.select.new.self in
    let new = c.ask_with-answer.new.self in
    let lits = assumed_with c.args.asked.now.assume c.in_ok-selector.selector in
    subst
    (λ normal. Says normal.now new.engine new.disjunctions lits c.ask_with-answer.result)
    (sym c.ask_with-answer.ensures.normal)
    (subst
    (λ disjunctions. Says mid.normal.now new.engine disjunctions lits c.ask_with-answer.result)
    (sym c.ask_with-answer.ensures.disjunctions) (c.ask_with-answer.ensures.says not))

pub returns-clause-added : goal.returns-clause-added
returns-clause-added c =
    test_added c.args.self.now.normal.now c.select.new.self.normal.now
    c.select.new.self.disjunctions c.ask_with-answer.new.self.disjunctions
    c.args.self.now.engine.state.clauses c.select.new.self.engine.state.clauses
    c.ask_with-answer.new.self.engine.state.clauses c.args.budget.now c.ask_with-answer.new.budget
    (ap (λ it. it.now) c.in_ok-selector.ensures.normal) c.ask_with-answer.ensures.disjunctions
    c.in_ok-selector.ensures.given (c.ask_with-answer.ensures.added c.in_ok-tested.ensures.some)

pub returns-clause-counted : goal.returns-clause-counted
returns-clause-counted c =
    let selected = c.in_ok-selector.ensures in
    test_counts c.args.self.now.normal.now c.select.new.self.normal.now _ _ _ _ _ _ _ _ _
    (ap (λ it. it.now) selected.normal) c.ask_with-answer.ensures.disjunctions selected.given
    selected.selector c.requires.may.over c.ask_with-answer.ensures.counted

pub returns-clause-beside : goal.returns-clause-beside
returns-clause-beside c =
    let selected = c.in_ok-selector.ensures in
    test_beside c.args.self.now.normal.now c.select.new.self.normal.now _ _ _ _ _ _ _ _ _ _
    (ap (λ it. it.now) selected.normal) c.ask_with-answer.ensures.disjunctions selected.given
    selected.sound.defined selected.sound.right.kept selected.selector c.requires.may.over
    c.ask_with-answer.ensures.counted

pub returns-in_err-tested-clause-counted : goal.returns-in_err-tested-clause-counted
returns-in_err-tested-clause-counted c =
    let selected = c.in_ok-selector.ensures in
    test_counts c.args.self.now.normal.now c.select.new.self.normal.now _ _ _ _ _ _ _ _ _
    (ap (λ it. it.now) selected.normal) c.ask_with-answer.ensures.disjunctions selected.given
    selected.selector c.requires.may.over c.ask_with-answer.ensures.counted

pub returns-clause-at : goal.returns-clause-at
returns-clause-at c =
    c.in_ok-tested.ensures.at (length c.args.budget.now.units + c.args.slice)
    c.ask_with-answer.new.budget (c.ask_with-answer.ensures.at c.in_ok-tested.ensures.some)
