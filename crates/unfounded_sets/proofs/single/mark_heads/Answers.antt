use Rattle.std.proofs.Common.{◌≡◌, true, rules}
use Rattle.unfounded_sets.proofs.SingleLemmas.{marks_both}
use Rattle.unfounded_sets.proofs.single.mark_heads.Goals as goal

pub returns-else-not-has_other_true : goal.returns-else-not-has_other_true
returns-else-not-has_other_true c =
    let yes : c.has_other_true.result ≡ true = search rules in
    let others = rw c.as_slice-heads.ensures at c.has_other_true.ensures.0 yes in
    marks_both c.args.normal.now c.args.trail.now.steps c.args.rule.now c.args.supported.now
    c.in-Some.head c.in-Some.ensures.some others
