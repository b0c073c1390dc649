use Rattle.std.proofs.Common.{◌<◌, ◌+◌, ◌∷◌, length, get_or, take, ap, arith}
use Rattle.std.proofs.lemmas.List.{take_more}
use Rattle.clause_store.specs.declared.literal.Lit.{Lit}
use Rattle.normal_program.specs.Clauses.{negative}
use Rattle.completion.proofs.DraftLemmas.{pushed}
use Rattle.completion.proofs.support_clauses.add_support.Goals as goal

pub loop-body-preserved : goal.loop-body-preserved
loop-body-preserved c =
    let bodies = c.args.bodies.now in
    let first = negative c.args.atom in
    let at = c.loop-body.body-index in
    let within : at < length bodies = omega arith in
    let none : Lit = record { 0 = 0 } in
    pushed c.loop-body.draft c.push.new.self (first ∷ take at bodies)
    (first ∷ take (at + 1) bodies) (get_or bodies at none) c.loop-body.invariant
    c.in_ok-push.ensures (ap (λ rest. first ∷ rest) (take_more bodies at none within))
