use Rattle.std.proofs.Common.{[], ◌∷◌, map}
use Rattle.clause_store.specs.Clause.{negation}
use Rattle.normal_program.specs.Clauses.{positive, negative}
use Rattle.completion.proofs.AddsLemmas.{Adds-then}
use Rattle.completion.proofs.body_clauses.define.Goals as goal

pub returns : goal.returns
returns c =
    let var = c.args.var.0 in
    let lits = c.args.lits.now in
    Adds-then c.all_or_false.result c.args.store.now c.imply_each.new.store
    c.all_or_false.new.store (map (λ lit. negative var ∷ lit ∷ []) lits)
    ((positive var ∷ map negation lits) ∷ []) c.in_ok-imply_each.ensures c.all_or_false.ensures
