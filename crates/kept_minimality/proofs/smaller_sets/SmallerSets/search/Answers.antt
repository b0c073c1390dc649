use Rattle.std.proofs.Common.{◌-◌, ◌∙◌, ap, subst, sym}
use Rattle.std.specs.Prelude.{IfOk}
use Rattle.clause_store.specs.Counted.{Counted}
use Rattle.ground_program.specs.Meaning.{IsSetOver}
use Rattle.normal_program.specs.declared.normal.Normal.{Normal}
use Rattle.minimality_test.specs.Minimality.{HasAnswered}
use Rattle.kept_minimality.proofs.SearchLemmas.{answered, kept_on, may_assume}
use Rattle.kept_minimality.proofs.smaller_sets.SmallerSets.search.Goals as goal

pub ask-answer-requires-clause-over : goal.ask-answer-requires-clause-over
ask-answer-requires-clause-over c =
    let over =
    subst (λ (it : Normal). IsSetOver it.atoms c.args.set.now) (sym c.self.view_is)
    c.requires.over in
    may_assume c.self.inside.source.value c.self.inside.engine c.self.inside.engine
    c.self.invariant c.args.set.now over c.as_slice.result.now
    (c.as_slice.ensures ∙ c.in_ok-assume.ensures)

pub invariant_of-self-2 : goal.invariant_of-self-2
invariant_of-self-2 c =
    let over =
    subst (λ (it : Normal). IsSetOver it.atoms c.args.set.now) (sym c.self.view_is)
    c.requires.over in
    let asked = c.ask-answer.ensures in
    kept_on c.self.inside.source.value c.self.inside.engine c.ask-answer.new.self
    c.self.invariant c.args.set.now over c.args.budget.now c.ask-answer.new.budget
    c.ask-answer.result asked.stays_dead asked.dead c.as_slice.result.now asked.same
    asked.defined asked.right asked.on

pub returns-clause-answer : goal.returns-clause-answer
returns-clause-answer c =
    let over =
    subst (λ (it : Normal). IsSetOver it.atoms c.args.set.now) (sym c.self.view_is)
    c.requires.over in
    subst
    (λ (it : Normal). IfOk c.read_answer.result
    (HasAnswered it c.args.set.now c.ask-answer.new.budget)) c.self.view_is
    (answered c.self.inside.source.value c.self.inside.engine c.ask-answer.new.self
    c.self.invariant c.args.set.now over c.args.budget.now c.ask-answer.new.budget
    c.ask-answer.result c.requires.unused c.limit-limit.result c.limit-limit.ensures
    (ap (λ (it : Counted). it.limit) c.ask-answer.ensures.counted.counts)
    c.as_slice.result.now (c.as_slice.ensures ∙ c.in_ok-assume.ensures)
    c.ask-answer.ensures.answer c.trail.result.now c.trail.ensures (c.len.result - 1)
    (ap (λ n. n - 1) c.len.ensures) c.read_answer.result c.read_answer.ensures)
