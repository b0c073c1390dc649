use Rattle.std.proofs.Common.{◌≡◌, ◌+◌, ℕ, true, false, List, [], ◌∷◌, ◌++◌, sym, ap, ◌∙◌}
use Rattle.std.proofs.Common.{rules}
use Rattle.master_record.specs.Course.{is_open}
use Rattle.master_record.proofs.OpenListLemmas.{none_among, among_open, among_shut}
use Rattle.master_record.proofs.candidates.open_list.Goals as goal
use Rattle.master_record.proofs.candidates.open_list.Goals.{then-is_open+in_ok-push, else-is_open}

pub loop-place-init : goal.loop-place-init
loop-place-init c =
    c.new-cands.ensures.items
    ∙ sym (none_among c.args.candidates.now.pair c.least_open-place.result
    c.least_open-place.ensures.before)

pub loop-place-preserved : goal.loop-place-preserved
loop-place-preserved c =
    let pair = c.args.candidates.now.pair in
    let place = c.loop-place.place in
    elim c.if-is_open.branch [
      | then-is_open+in_ok-push w ↦
          let now : c.if-is_open.cands.items ≡ c.loop-place.cands.items ++ (place + 1) ∷ [] =
          search rules in
          let found : is_open pair (place + 1) ≡ true = sym c.is_open.ensures ∙ w.if-is_open.true in
          now
          ∙ ap (λ (xs : List ℕ). xs ++ (place + 1) ∷ []) c.loop-place.invariant
          ∙ sym (among_open pair place found)
      | else-is_open w ↦
          let now : c.if-is_open.cands.items ≡ c.loop-place.cands.items = search rules in
          let shut : is_open pair (place + 1) ≡ false =
          sym c.is_open.ensures ∙ w.if-is_open.false in
          now ∙ c.loop-place.invariant ∙ sym (among_shut pair place shut)
    ]
