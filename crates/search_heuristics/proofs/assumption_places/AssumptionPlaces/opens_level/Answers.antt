use Rattle.std.proofs.Common.{◌∙◌, ◌+◌, sym, ap, ap₂, subst, slice_index, slice_set}
use Rattle.search_heuristics.specs.Places.{OpensLevel}
use Rattle.search_heuristics.proofs.PlaceLemmas as lemma
use Rattle.search_heuristics.proofs.assumption_places.AssumptionPlaces.opens_level.Goals as goal

pub returns : goal.returns
returns c =
    subst (OpensLevel c.args.trail.now.steps c.args.self.now)
    (sym
    (c.keep.ensures
    ∙ ap₂ (λ level place. slice_set c.args.self.now (level + 1) place)
    c.level-level.ensures.level
    (c.place_at.ensures ∙ ap (slice_index c.args.self.now) c.level-level.ensures.level)))
    (lemma.opens_level c.args.trail.now.steps c.args.self.now)
