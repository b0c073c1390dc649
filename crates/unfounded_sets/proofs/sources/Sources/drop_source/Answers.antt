use Rattle.std.proofs.Common.{◌≡◌, true, set, ap, subst, arith}
use Rattle.unfounded_sets.specs.declared.sources.Sources.{Sources}
use Rattle.unfounded_sets.specs.declared.sources.TheConstants.{NO_RANK}
use Rattle.unfounded_sets.specs.Waits.{Waited}
use Rattle.unfounded_sets.proofs.ChangeLemmas.{drops_after, mark_one}
use Rattle.unfounded_sets.proofs.sources.Sources.drop_source.Goals as goal

pub returns : goal.returns
returns c =
    let same = c.doubt_around.ensures.same in
    let old = c.args.self.now in
    drops_after c.args.places.now.occurrences c.args.atom old _
    (ap (λ (it : Sources). it.bodies) same) (ap (λ (it : Sources). it.next) same)
    (ap (λ (it : Sources). set it.ranks.items c.args.atom NO_RANK) same) c.requires.within
    c.requires.most c.doubt_around.ensures.more c.doubt_around.ensures.all
    (mark_one c.args.atom old.lost c.mark.new.self
    (omega (arith, c.requires.within, c.requires.lost))
    (subst (λ (waited : Waited). c.mark.new.self.waits ≡ set waited.waits c.args.atom true)
    (ap (λ (it : Sources). it.lost) same) c.mark.ensures.waits) c.mark.ensures.few)
    c.requires.lost
