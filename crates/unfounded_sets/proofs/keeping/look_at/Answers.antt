use Rattle.std.proofs.Common.{[], get_or, refl}
use Rattle.unfounded_sets.proofs.FollowLemmas.{sources_settle}
use Rattle.unfounded_sets.proofs.keeping.look_at.Goals as goal

pub drop_by-requires-clause-sources : goal.drop_by-requires-clause-sources
drop_by-requires-clause-sources c =
    sources_settle c.args.normal.now c.args.trail.now.steps
    (get_or c.args.places.now.heads c.args.body []) c.args.body c.args.sources.now _
    c.requires.sources (λ atom head. (c.requires.places.heads c.args.body atom).1 head) refl refl
    refl refl c.settle.ensures.waits
