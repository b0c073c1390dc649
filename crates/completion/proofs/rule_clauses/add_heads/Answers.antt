use Rattle.std.proofs.Common.{◌<◌, ◌+◌, ◌∷◌, length, get_or, map, take, ap, ◌∙◌, arith}
use Rattle.std.proofs.lemmas.List.{get_or_default}
use Rattle.clause_store.proofs.LiteralLemmas.{lit_of_code}
use Rattle.normal_program.specs.Clauses.{positive, negative}
use Rattle.completion.specs.Drafts.{with_lit}
use Rattle.completion.proofs.DraftLemmas.{pushed, map_more}
use Rattle.completion.proofs.rule_clauses.add_heads.Goals as goal

pub loop-head-preserved : goal.loop-head-preserved
loop-head-preserved c =
    let heads = c.args.heads.now in
    let first = negative c.args.var.0 in
    let at = c.loop-head.head-index in
    let within : at < length heads = omega arith in
    let head = get_or heads at 0 in
    pushed c.loop-head.draft c.push.new.self (first ∷ map positive (take at heads))
    (first ∷ map positive (take (at + 1) heads)) (positive head) c.loop-head.invariant
    (c.in_ok-push.ensures
    ∙ ap (with_lit c.loop-head.draft)
    (lit_of_code c.positive.result (positive head) c.positive.ensures))
    (ap (λ rest. first ∷ rest)
    (map_more positive heads at head within (get_or_default heads at 0 head within)))
