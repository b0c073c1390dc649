use Rattle.std.proofs.Common.{◌<◌, List, [], ◌∷◌, length, get_or, subst, arith}
use Rattle.std.proofs.lemmas.List.{get_or_default}
use Rattle.clause_store.specs.declared.literal.Lit.{Lit}
use Rattle.clause_store.proofs.LiteralLemmas.{lit_of_code}
use Rattle.normal_program.specs.Clauses.{negative, cleaned}
use Rattle.completion.specs.Filling.{GainsFirst}
use Rattle.completion.proofs.AddsLemmas.{Adds-stopped, mapped_stopped}
use Rattle.completion.proofs.body_clauses.imply_each.Goals as goal

pub returns-in_err-add_two : goal.returns-in_err-add_two
returns-in_err-add_two c =
    let lits = c.args.lits.now in
    let at = c.loop-lit.lit-index in
    let within : at < length lits = omega arith in
    let none : Lit = record { 0 = 0 } in
    let lit = get_or lits at none in
    let mid = c.loop-lit.store in
    let new = c.add_two.new.store in
    Adds-stopped c.from_residual.result c.args.store.now new _ c.from_residual.ensures.0
    (mapped_stopped (λ one. negative c.args.var.0 ∷ one ∷ []) c.args.store.now mid new lits at lit
    (within, get_or_default lits at none lit within) c.loop-lit.invariant
    (subst (λ (one : Lit). GainsFirst mid new (cleaned ((one ∷ lit ∷ []) ∷ [])))
    (lit_of_code c.negative.result (negative c.args.var.0) c.negative.ensures)
    c.in_err-add_two.ensures))
