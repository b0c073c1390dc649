use Rattle.std.proofs.Common.{◌∙◌, sym, ap, subst, slice_index, slice_set, take}
use Rattle.std.specs.Prelude.{IfNone}
use Rattle.search_heuristics.specs.Places.{AreTrueBefore, AreTrueOn}
use Rattle.search_heuristics.proofs.PlaceLemmas as lemma
use Rattle.search_heuristics.proofs.assumption_places.AssumptionPlaces.next.Goals as goal

pub first_not_true-place-requires-clause-before :
    goal.first_not_true-place-requires-clause-before
first_not_true-place-requires-clause-before c =
    subst (λ place. AreTrueOn c.args.trail.now.steps (take place c.args.assumed.now))
    (sym (c.place_at.ensures ∙ ap (slice_index c.args.self.now) c.level-level.ensures.level))
    (lemma.before_present c.args.assumed.now c.args.trail.now.steps c.args.self.now
    c.requires.before)

pub returns-clause-before : goal.returns-clause-before
returns-clause-before c =
    subst (AreTrueBefore c.args.assumed.now c.args.trail.now.steps)
    (sym
    (c.keep.ensures
    ∙ ap (λ level. slice_set c.args.self.now level c.first_not_true-place.result)
    c.level-level.ensures.level))
    (lemma.before_kept c.args.assumed.now c.args.trail.now.steps c.args.self.now
    c.first_not_true-place.result c.requires.before c.first_not_true-place.ensures.before)

pub returns-clause-none : goal.returns-clause-none
returns-clause-none c =
    subst (λ at. IfNone at (AreTrueOn c.args.trail.now.steps c.args.assumed.now))
    (sym c.then_some.ensures)
    (lemma.none_past c.args.trail.now.steps c.args.assumed.now c.first_not_true-place.result
    c.first_not_true-place.ensures.before)
