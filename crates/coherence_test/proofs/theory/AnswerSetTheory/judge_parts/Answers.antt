use Rattle.std.proofs.Common.{◌≡◌, ap, subst}
use Rattle.clause_store.specs.Trail.{values_of}
use Rattle.normal_program.specs.Limit.{IsNormal}
use Rattle.normal_program.specs.Models.{set_of}
use Rattle.coherence_test.proofs.CheckLemmas.{minimal_accepted, set_over}
use Rattle.coherence_test.proofs.theory.AnswerSetTheory.judge_parts.Goals as goal

pub ask_kept-requires-clause-over : goal.ask_kept-requires-clause-over
ask_kept-requires-clause-over c =
    let same = ap (λ it. it.normal) c.self.view_is in
    set_over c.args.self.now.normal c.args.trail.now
    (subst IsNormal same c.self.invariant.0.is_normal) c.requires.candidate c.in_ok-set.set
    (subst (λ it. c.in_ok-set.set ≡ set_of it (values_of c.args.trail.now)) same
    c.in_ok-set.ensures)

pub returns-in-Minimal-clause-answer : goal.returns-in-Minimal-clause-answer
returns-in-Minimal-clause-answer c =
    let same = ap (λ it. it.normal) c.self.view_is in
    minimal_accepted c.args.self.now.normal c.args.trail.now
    (subst IsNormal same c.self.invariant.0.is_normal) c.requires.candidate c.in_ok-set.set
    (subst (λ it. c.in_ok-set.set ≡ set_of it (values_of c.args.trail.now)) same
    c.in_ok-set.ensures) c.in-Minimal.ensures.says
