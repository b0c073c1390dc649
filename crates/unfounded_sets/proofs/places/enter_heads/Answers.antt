use Rattle.std.proofs.Common.{◌≡◌, ◌∙◌, ◌∷◌, ◌++◌, [], ℕ, take, get_or, sym, subst, take_all}
use Rattle.std.specs.Prelude.{Contains}
use Rattle.std.proofs.lemmas.List.{take_more}
use Rattle.unfounded_sets.specs.Placed.{ArePut}
use Rattle.unfounded_sets.proofs.PlacedLemmas.{put_more, head_step}
use Rattle.unfounded_sets.proofs.places.enter_heads.Goals as goal

pub loop-head-preserved : goal.loop-head-preserved
loop-head-preserved c =
    let items = c.as_slice-head-items.result.now in
    let at = c.loop-head.head-index in
    let body = c.args.rule.now.body in
    let head : ℕ = get_or items at 0 in
    subst
    (λ all. ArePut (λ place item. (place ≡ c.args.rule.now.body) × Contains all item)
    c.args.lists.now.items c.enter.new.lists.items)
    (sym (take_more items at 0 c.loop-head-test.true))
    (put_more (λ place item. (place ≡ body) × Contains (take at items) item)
    (λ place item. (place ≡ body) × (item ≡ head))
    (λ place item. (place ≡ body) × Contains (take at items ++ head ∷ []) item)
    c.args.lists.now.items c.loop-head.lists.items c.enter.new.lists.items c.loop-head.invariant
    c.in_ok-enter.ensures (head_step body (take at items) head))

pub returns : goal.returns
returns c =
    subst
    (λ items. ArePut (λ place item. (place ≡ c.args.rule.now.body) × Contains items item)
    c.args.lists.now.items c.loop-head.lists.items)
    (take_all c.loop-head.head-index c.as_slice-head-items.result.now c.loop-head-test.false
    ∙ c.as_slice-head-items.ensures) c.loop-head.invariant
