use Rattle.std.proofs.Common.{◌<◌, ◌+◌, ◌∷◌, length, get_or, map, take, ap, ◌∙◌, arith}
use Rattle.std.proofs.lemmas.List.{get_or_default}
use Rattle.clause_store.specs.declared.literal.Lit.{Lit}
use Rattle.clause_store.specs.Clause.{negation}
use Rattle.normal_program.specs.Clauses.{positive}
use Rattle.completion.specs.Drafts.{with_lit}
use Rattle.completion.proofs.DraftLemmas.{pushed, map_more}
use Rattle.completion.proofs.body_clauses.all_or_false.Goals as goal

pub loop-lit-preserved : goal.loop-lit-preserved
loop-lit-preserved c =
    let lits = c.args.lits.now in
    let first = positive c.args.var.0 in
    let at = c.loop-lit.lit-index in
    let within : at < length lits = omega arith in
    let none : Lit = record { 0 = 0 } in
    let lit = get_or lits at none in
    pushed c.loop-lit.draft c.push.new.self (first ∷ map negation (take at lits))
    (first ∷ map negation (take (at + 1) lits)) (negation lit) c.loop-lit.invariant
    (c.in_ok-push.ensures ∙ ap (with_lit c.loop-lit.draft) c.negated.ensures)
    (ap (λ rest. first ∷ rest)
    (map_more negation lits at lit within (get_or_default lits at none lit within)))
