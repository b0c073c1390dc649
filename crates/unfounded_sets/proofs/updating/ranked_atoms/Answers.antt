use Rattle.std.proofs.Common.{◌∙◌}
use Rattle.unfounded_sets.proofs.TrailLemmas.{ranked_below}
use Rattle.unfounded_sets.proofs.updating.ranked_atoms.Goals as goal

pub returns-clause-below : goal.returns-clause-below
returns-clause-below c =
    ranked_below c.args.normal.now c.args.trail.now.steps c.drop_failed.new.sources
    c.mark_ranked.new.set c.drop_failed.ensures.sources c.drop_failed.ensures.none
    c.mark_ranked.ensures.ranked (c.mark_ranked.ensures.size ∙ c.requires.size)
