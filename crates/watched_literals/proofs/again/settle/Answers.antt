use Rattle.std.proofs.Common.{◌∙◌, ◌*◌, ◌+◌, ◌<◌, ℕ, List, length, arith, get_or, map, refl}
use Rattle.std.proofs.Common.{ap, subst, sym}
use Rattle.clause_store.specs.declared.literal.Lit.{Lit}
use Rattle.clause_store.specs.Standing.{as_followed}
use Rattle.watched_literals.specs.Chains.{lit_of}
use Rattle.watched_literals.specs.Walking.{IsSettledRow}
use Rattle.watched_literals.specs.Watching.{IsRow}
use Rattle.watched_literals.proofs.AgainLemmas.{again_lits, looked_kept, looked_settled}
use Rattle.watched_literals.proofs.AgainLemmas.{run_unmarked}
use Rattle.watched_literals.proofs.SeatLemmas.{named_over}
use Rattle.watched_literals.proofs.again.settle.Goals as goal

pub returns-then-is_settled-clause-running : goal.returns-then-is_settled-clause-running
returns-then-is_settled-clause-running c =
    let within : get_or c.args.tables.now.pending.stack c.args.at 0 < length c.args.entries.now =
    omega (
      arith,
      c.rows.ensures.all.within c.args.at 0 c.requires.within,
      c.requires.running.watching.waits,
    ) in
    run_unmarked c.args.store.now c.args.entries.now c.args.trail.now c.args.tables.now
    (record c.args.tables.now { pending = c.settle.new.self }) c.args.next
    (get_or c.args.tables.now.pending.stack c.args.at 0) c.lits-lits.result.now
    c.requires.running
    (record { chains = refl; saved = refl; waits = c.settle.ensures.waits })
    (again_lits c.args.store.now c.args.entries.now
    (get_or c.args.tables.now.pending.stack c.args.at 0) c.index-entries-row.result
    c.at.result c.lits-lits.result.now c.requires.running.named within
    (c.index-entries-row.is
    ∙ ap (λ (stack : List ℕ). get_or c.args.entries.now (get_or stack c.args.at 0)
    c.index-entries-row.result) c.rows.ensures.rows)
    c.at.ensures c.lits-lits.ensures.lits)
    (subst
    (λ (stack : List ℕ). IsSettledRow (map as_followed c.args.trail.now.steps)
    c.lits-lits.result.now
    (lit_of c.args.tables.now.chains.nodes.items (2 * get_or stack c.args.at 0))
    (lit_of c.args.tables.now.chains.nodes.items (2 * get_or stack c.args.at 0 + 1)))
    c.rows.ensures.rows (c.is_settled.ensures c.if-is_settled.true))

pub returns-then-is_settled-clause-looked : goal.returns-then-is_settled-clause-looked
returns-then-is_settled-clause-looked c =
    looked_settled c.args.entries.now c.args.trail.now.steps c.args.tables.now.pending.stack
    c.settle.new.self.stack c.args.at c.requires.within c.settle.ensures.stack

pub returns-else-is_settled-clause-looked : goal.returns-else-is_settled-clause-looked
returns-else-is_settled-clause-looked c =
    looked_kept c.args.entries.now c.args.trail.now.steps c.args.tables.now.pending.stack c.args.at

pub is_settled-requires-clause-row : goal.is_settled-requires-clause-row
is_settled-requires-clause-row c =
    let within : get_or c.args.tables.now.pending.stack c.args.at 0 < length c.args.entries.now =
    omega (
      arith,
      c.rows.ensures.all.within c.args.at 0 c.requires.within,
      c.requires.running.watching.waits,
    ) in
    subst
    (λ (stack : List ℕ). IsRow (map as_followed c.args.trail.now.steps) c.lits-lits.result.now
    (get_or c.args.tables.now.saved.items (get_or stack c.args.at 0) 0)
    (lit_of c.args.tables.now.chains.nodes.items (2 * get_or stack c.args.at 0))
    (lit_of c.args.tables.now.chains.nodes.items (2 * get_or stack c.args.at 0 + 1)))
    (sym c.rows.ensures.rows)
    (subst
    (λ (lits : List Lit). IsRow (map as_followed c.args.trail.now.steps) lits
    (get_or c.args.tables.now.saved.items
    (get_or c.args.tables.now.pending.stack c.args.at 0) 0)
    (lit_of c.args.tables.now.chains.nodes.items
    (2 * get_or c.args.tables.now.pending.stack c.args.at 0))
    (lit_of c.args.tables.now.chains.nodes.items
    (2 * get_or c.args.tables.now.pending.stack c.args.at 0 + 1)))
    (again_lits c.args.store.now c.args.entries.now
    (get_or c.args.tables.now.pending.stack c.args.at 0) c.index-entries-row.result
    c.at.result c.lits-lits.result.now c.requires.running.named within
    (c.index-entries-row.is
    ∙ ap (λ (stack : List ℕ). get_or c.args.entries.now (get_or stack c.args.at 0)
    c.index-entries-row.result) c.rows.ensures.rows)
    c.at.ensures c.lits-lits.ensures.lits c.index-entries-row.result)
    (c.requires.running.watching.rows (get_or c.args.tables.now.pending.stack c.args.at 0)
    c.index-entries-row.result within))

pub is_settled-requires-clause-over : goal.is_settled-requires-clause-over
is_settled-requires-clause-over c =
    named_over c.args.trail.now.vars c.args.store.now c.at.result.0 c.lits-lits.result.now
    c.requires.running.over c.lits-lits.ensures.lits
