use Rattle.std.proofs.Common.{ap}
use Rattle.coherence_test.proofs.CheckLemmas.{minimal_accepted, set_keeps, set_over, spent_checked}
use Rattle.coherence_test.proofs.theory.AnswerSetTheory.judge_anew.Goals as goal

pub smaller-requires-clause-over : goal.smaller-requires-clause-over
smaller-requires-clause-over c =
    let it = rw (← c.self.view_is) at c.requires.candidate in
    let atoms = rw (← c.self.view_is) at c.requires.atoms in
    set_over c.self.inside.normal.now c.args.trail.now c.self.invariant.0.is_normal it c.args.set
    atoms

pub smaller-requires-clause-keeps : goal.smaller-requires-clause-keeps
smaller-requires-clause-keeps c =
    let it = rw (← c.self.view_is) at c.requires.candidate in
    let atoms = rw (← c.self.view_is) at c.requires.atoms in
    set_keeps c.self.inside.normal.now c.args.trail.now c.self.invariant.0.is_normal it c.args.set
    atoms

pub returns-in-Minimal-clause-answer : goal.returns-in-Minimal-clause-answer
returns-in-Minimal-clause-answer c =
    let it = rw (← c.self.view_is) at c.requires.candidate in
    let atoms = rw (← c.self.view_is) at c.requires.atoms in
    rw (← c.self.view_is)
    (minimal_accepted c.self.inside.normal.now c.args.trail.now c.self.invariant.0.is_normal it
    c.args.set atoms c.in-Minimal.ensures.answer.0)

pub returns-in-Spent-clause-answer : goal.returns-in-Spent-clause-answer
returns-in-Spent-clause-answer c =
    let it = rw (← c.self.view_is) at c.requires.candidate in
    let atoms = rw (← c.self.view_is) at c.requires.atoms in
    let disjunctive = rw (← c.self.view_is) at c.requires.disjunctive in
    rw (c.into_units.ensures, ← c.self.view_is)
    (spent_checked c.self.inside.normal.now c.args.trail.now c.self.invariant.0.is_normal it
    c.args.set atoms disjunctive c.args.limit c.new-budget.result
    c.smaller.new.budget
    (ap (λ budget. budget.limit) c.new-budget.ensures) (c.in-Spent.ensures.counted (λ e. cc))
    c.in-Spent.ensures.answer)
