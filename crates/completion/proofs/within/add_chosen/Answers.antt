use Rattle.std.proofs.Common.{◌<◌, [], ◌∷◌, length, get_or, arith}
use Rattle.std.proofs.lemmas.List.{get_or_default}
use Rattle.ground_program.specs.Meaning.{has}
use Rattle.normal_program.specs.Clauses.{positive, negative}
use Rattle.completion.proofs.AddsLemmas.{Adds-stopped, kept_more, kept_stopped}
use Rattle.completion.proofs.within.add_chosen.Goals as goal

pub loop-head-preserved : goal.loop-head-preserved
loop-head-preserved c =
    let heads = c.args.heads.now in
    let at = c.loop-head.head-index in
    let within : at < length heads = omega arith in
    let head = get_or heads at 0 in
    kept_more (λ one. negative c.args.var.0 ∷ positive one ∷ []) (has c.args.set.now)
    c.args.store.now c.loop-head.store c.add_if_chosen.new.store heads at head
    (within, get_or_default heads at 0 head within) c.loop-head.invariant
    c.in_ok-add_if_chosen.ensures

pub returns-in_err-add_if_chosen : goal.returns-in_err-add_if_chosen
returns-in_err-add_if_chosen c =
    let heads = c.args.heads.now in
    let at = c.loop-head.head-index in
    let within : at < length heads = omega arith in
    let head = get_or heads at 0 in
    Adds-stopped c.from_residual.result c.args.store.now c.add_if_chosen.new.store _
    c.from_residual.ensures.0
    (kept_stopped (λ one. negative c.args.var.0 ∷ positive one ∷ []) (has c.args.set.now)
    c.args.store.now c.loop-head.store c.add_if_chosen.new.store heads at head
    (within, get_or_default heads at 0 head within) c.loop-head.invariant
    c.in_err-add_if_chosen.ensures)
