use Rattle.std.proofs.Common.{◌≡◌, ◌+◌, ◌++◌, ◌∷◌, [], ℕ, true, false, take, get_or, rules}
use Rattle.std.proofs.Common.{length, ◌<◌}
use Rattle.std.proofs.lemmas.List.{get_or_default}
use Rattle.ground_program.specs.Meaning.{has}
use Rattle.normal_program.specs.Clauses.{positive}
use Rattle.item_list.proofs.ListLemmas.{take_more_read}
use Rattle.unfounded_sets.specs.Founding.{is_false}
use Rattle.unfounded_sets.proofs.ValueLemmas.{false_if, not_false_if}
use Rattle.unfounded_sets.proofs.FoundingLemmas.{heads_known, heads_new}
use Rattle.unfounded_sets.proofs.founding.add_heads.Goals as goal
use Rattle.unfounded_sets.proofs.founding.add_heads.Goals.{then-not-has_atom+then-not-is_false_atom}
use Rattle.unfounded_sets.proofs.founding.add_heads.Goals.{else-not-has_atom}
use Rattle.unfounded_sets.proofs.founding.add_heads.Goals.{
  else-not-has_atom-via-then-not-has_atom+else-not-is_false_atom,
}
use Rattle.unfounded_sets.proofs.founding.add_heads.Goals.{
  else-not-has_atom-via-else-not-has_atom,
}

pub loop-head-preserved : goal.loop-head-preserved
loop-head-preserved c =
    let items = c.as_slice-head-items.result.now in
    let head : ℕ = get_or items c.loop-head.head-index 0 in
    let steps = c.args.trail.now.steps in
    let front = take c.loop-head.head-index items in
    let mid = c.loop-head.founded in
    let more : take (c.loop-head.head-index + 1) items ≡ front ++ head ∷ [] =
    take_more_read items c.loop-head.head-index head c.loop-head-test.true
    (get_or_default items c.loop-head.head-index 0 head c.loop-head-test.true) in
    rw more (elim c.if-not-has_atom.branch [
      | then-not-has_atom+then-not-is_false_atom w ↦
          let out : has mid head ≡ false = search rules in
          let possible : is_false steps (positive head) ≡ false = search rules in
          let low : head < length mid = search rules in
          rw (w.founded-is, w.grew-is, w.set.ensures)
          (heads_new steps front head c.args.founded.now mid c.loop-head.grew
          c.loop-head.invariant low out (not_false_if steps (positive head) possible))
      | else-not-has_atom w ↦
          rw (w.founded-is, w.grew-is) (elim w.else-not-has_atom.branch [
            | else-not-has_atom-via-then-not-has_atom+else-not-is_false_atom v ↦
                let no : is_false steps (positive head) ≡ true = search rules in
                heads_known steps front head c.args.founded.now mid c.loop-head.grew
                c.loop-head.invariant
                (λ possible. absurd (possible (false_if steps (positive head) no)))
            | else-not-has_atom-via-else-not-has_atom v ↦
                let known : has mid head ≡ true = search rules in
                heads_known steps front head c.args.founded.now mid c.loop-head.grew
                c.loop-head.invariant (λ possible. known)
          ])
    ])
