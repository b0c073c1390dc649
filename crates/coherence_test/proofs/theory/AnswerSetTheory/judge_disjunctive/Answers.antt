use Rattle.std.proofs.Common.{ap, subst}
use Rattle.normal_program.specs.Limit.{IsNormal}
use Rattle.coherence_test.specs.Looking.{MayBeLoop}
use Rattle.coherence_test.proofs.GivenLemmas.{loop_given}
use Rattle.coherence_test.proofs.theory.AnswerSetTheory.judge_disjunctive.Goals as goal

pub returns-in-Loop-clause-answer : goal.returns-in-Loop-clause-answer
returns-in-Loop-clause-answer c =
    let normal = c.args.self.now.normal in
    let clause = c.find_single.new.out in
    loop_given normal c.args.trail.now clause
    (subst IsNormal (ap (λ it. it.normal) c.self.view_is) c.self.invariant.0.is_normal)
    c.requires.candidate.total.over
    (subst (MayBeLoop normal c.args.trail.now clause) c.in-Loop.is
    c.in_ok-find_single.ensures.found)
