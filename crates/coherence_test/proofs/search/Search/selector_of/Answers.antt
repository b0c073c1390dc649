use Rattle.std.proofs.Common.{◌≡◌, ◌<◌, Some, arith, inl, length, refl, slice_get, subst}
use Rattle.std.proofs.lemmas.Option.{slice_get_within}
use Rattle.conflict_learning.proofs.AssignedLemmas.{here_at}
use Rattle.coherence_test.proofs.SoundLemmas.{given_defined, selector_last}
use Rattle.coherence_test.proofs.search.Search.selector_of.Goals as goal

pub selector-requires-clause-few : goal.selector-requires-clause-few
selector-requires-clause-few c =
    let few = c.requires.few in
    let within : c.in-Some.at < length c.args.self.now.disjunctions =
    slice_get_within c.args.self.now.disjunctions c.in-Some.at c.args.any.now
    (subst (λ all. slice_get all c.in-Some.at ≡ Some c.args.any.now) c.as_slice.ensures
    c.in-Some.ensures.some) in
    omega (arith, few, within)

pub returns-in-Some-clause-used : goal.returns-in-Some-clause-used
returns-in-Some-clause-used c =
    inl (
      here_at c.args.self.now.disjunctions c.in-Some.at c.args.any.now
          (subst (λ all. slice_get all c.in-Some.at ≡ Some c.args.any.now) c.as_slice.ensures
          c.in-Some.ensures.some),
      refl,
    )

pub returns-in_ok-var-in-None-clause-selector : goal.returns-in_ok-var-in-None-clause-selector
returns-in_ok-var-in-None-clause-selector c =
    selector_last c.args.self.now.normal.now c.args.self.now.disjunctions
    c.define.new.self.disjunctions c.args.any.now c.in_ok-var-in-None.var.0
    c.in_ok-var-in-None.ensures.used c.in_ok-var-in-None.ensures.selector

pub returns-in_ok-var-in-None-clause-given : goal.returns-in_ok-var-in-None-clause-given
returns-in_ok-var-in-None-clause-given c =
    given_defined c.args.self.now.normal.now c.args.self.now.disjunctions
    c.define.new.self.disjunctions c.args.self.now.engine.state.clauses
    c.define.new.self.engine.state.clauses c.args.any.now c.in_ok-var-in-None.var.0
    c.in_ok-var-in-None.ensures.used c.in_ok-var-in-None.ensures.selector
    c.in_ok-var-in-None.ensures.clauses
