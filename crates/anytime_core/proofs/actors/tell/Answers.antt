use Rattle.std.proofs.Common.{◌≡◌, ◌∙◌, ap, sym, refl, get_or-set_same, get_or-set_other, max}
use Rattle.std.proofs.Common.{rules}
use Rattle.anytime_core.specs.declared.actor.Actor.{Actor}
use Rattle.anytime_core.specs.Bits.{both}
use Rattle.anytime_core.specs.Actors.{actor_of}
use Rattle.anytime_core.proofs.StepLemmas.{found_is, told_is_set}
use Rattle.anytime_core.proofs.actors.tell.Goals as goal

pub returns : goal.returns
returns c =
    let items = c.args.actors.now.items in
    let first : Actor = c.index_mut.result.now in
    let first_is : first ≡ actor_of items c.args.to =
    found_is items c.args.to first (search rules) (search rules) in
    let other : Actor = c.index.result.now in
    let other_is : other ≡ actor_of items c.args.from =
    found_is items c.args.from other (search rules)
    (c.index.ensures ∙ get_or-set_other items c.args.to c.args.from _ other
    (λ same. c.requires.differ (sym same))) in
    let again_is : c.index-3.result.now ≡ actor_of items c.args.from =
    found_is items c.args.from c.index-3.result.now (search rules)
    (c.index-3.ensures ∙ get_or-set_other items c.args.to c.args.from _ c.index-3.result.now
    (λ same. c.requires.differ (sym same))) in
    let own = ap (λ (a : Actor). a.places)
    (c.index-2.ensures ∙ get_or-set_same items c.args.to _ c.index-2.result.now (search rules)) in
    let mine = ap (λ (a : Actor). a.seen) first_is in
    let theirs = ap (λ (a : Actor). a.seen) other_is in
    let had = c.replace-seen.ensures.value ∙ mine in
    let gets = c.as_slice.ensures ∙ theirs in
    let before = own ∙ ap (λ (a : Actor). a.places) first_is in
    let there = ap (λ (a : Actor). a.places) again_is in
    told_is_set items c.args.to c.args.from _ first c.index_mut-told.result.now _ (search rules)
    first_is (search rules) refl refl refl
    (c.add_bits.ensures ∙ (λ i. both (had i) (gets i)))
    (c.max-places.ensures ∙ (λ i. max (before i) (there i)))
    refl refl refl
