use Rattle.std.proofs.Common.{ap, subst, sym, ◌∙◌}
use Rattle.std.proofs.lemmas.Bool.{iff_false}
use Rattle.clause_store.specs.Trail.{values_of}
use Rattle.coherence_test.specs.AnswerSets.{ExtendsAnswerSet}
use Rattle.coherence_test.proofs.CheckLemmas.{accepted, candidate}
use Rattle.coherence_test.proofs.theory.AnswerSetTheory.judge.Goals as goal

pub judge_disjunctive-requires-clause-candidate : goal.judge_disjunctive-requires-clause-candidate
judge_disjunctive-requires-clause-candidate c =
    candidate c.args.self.now.normal c.look.new.self.normal c.args.trail.now c.look.new.out
    c.in_ok-look.field-0 (sym c.look.ensures.normal) c.vouch.ensures c.requires.total
    c.requires.range c.requires.meets c.in-Quiet.is c.in_ok-look.ensures.says

pub returns-in-Quiet-2-clause-answer : goal.returns-in-Quiet-2-clause-answer
returns-in-Quiet-2-clause-answer c =
    let same = ap (λ it. it.normal) c.self.view_is ∙ c.look.ensures.normal in
    subst (λ normal. ExtendsAnswerSet normal (values_of c.args.trail.now)) same
    (accepted c.self.inside.normal.now c.args.trail.now c.self.invariant.0.is_normal
    (candidate c.args.self.now.normal c.self.inside.normal.now c.args.trail.now c.look.new.out
    c.in_ok-look.field-0 (sym same) c.vouch.ensures c.requires.total
    c.requires.range c.requires.meets c.in-Quiet-2.is c.in_ok-look.ensures.says)
    (iff_false c.self.invariant.0.judged c.if-self.false))
