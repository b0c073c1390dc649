use Rattle.std.proofs.Common.{◌∙◌, []}
use Rattle.std.proofs.lemmas.List.{get_or_default}
use Rattle.unfounded_sets.proofs.PlacedLemmas.{put_last}
use Rattle.unfounded_sets.proofs.places.enter.Goals as goal

pub returns : goal.returns
returns c =
    let list = c.index_mut-list.result.now in
    put_last c.args.lists.now.items c.args.place c.args.number list c.push.new.self c.requires
    (c.index_mut-list.ensures.value
    ∙ get_or_default c.args.lists.now.items c.args.place list [] c.requires)
    c.in_ok-push.ensures.ok
