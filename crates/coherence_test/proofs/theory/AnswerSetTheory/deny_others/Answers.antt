use Rattle.std.proofs.Common.{refl}
use Rattle.clause_store.specs.Trail.{values_of}
use Rattle.normal_program.specs.Models.{set_of}
use Rattle.coherence_test.proofs.CheckLemmas.{smaller_keeps, smaller_lacks}
use Rattle.coherence_test.proofs.GivenLemmas.{loops_given}
use Rattle.coherence_test.proofs.theory.AnswerSetTheory.deny_others.Goals as goal

pub deny_others-requires-clause-keeps : goal.deny_others-requires-clause-keeps
deny_others-requires-clause-keeps c =
    let it = rw (← c.self.view_is) at c.requires.candidate in
    let smaller = rw (← c.self.view_is) at c.requires.smaller in
    smaller_keeps c.self.inside.normal.now c.args.trail.now c.self.invariant.0.is_normal it
    (set_of c.self.inside.normal.now (values_of c.args.trail.now)) refl c.args.part.now smaller

pub deny_others-requires-clause-lacks : goal.deny_others-requires-clause-lacks
deny_others-requires-clause-lacks c =
    let it = rw (← c.self.view_is) at c.requires.candidate in
    let smaller = rw (← c.self.view_is) at c.requires.smaller in
    smaller_lacks c.self.inside.normal.now c.args.trail.now c.self.invariant.0.is_normal it
    (set_of c.self.inside.normal.now (values_of c.args.trail.now)) refl c.args.part.now smaller

pub returns-clause-given : goal.returns-clause-given
returns-clause-given c =
    let it = rw (← c.self.view_is) at c.requires.candidate in
    rw (← c.self.view_is)
    (loops_given c.self.inside.normal.now c.args.trail.now c.deny_others.new.out
    c.self.invariant.0.is_normal it.total.over c.deny_others.result c.deny_others.ensures.written)
