use Rattle.std.proofs.Common.{◌∙◌, sym}
use Rattle.std.proofs.lemmas.List.{get_or_default}
use Rattle.watched_literals.specs.Watching.{partner_of}
use Rattle.watched_literals.proofs.SeenLemmas.{read_lit, row_exists, row_lits}
use Rattle.watched_literals.proofs.SeenLemmas.{seen_all, seen_binary}
use Rattle.watched_literals.proofs.node_visit.visit_node.Goals as goal

pub returns-then-start : goal.returns-then-start
returns-then-start c =
    seen_binary c.args.store.now c.args.entries.now c.args.trail.now c.args.tables.now
    c.args.cursor.lit c.args.cursor.at c.args.cursor.level c.index.result.now.lit
    c.without_others.result c.requires
    (read_lit c.args.tables.now.chains.nodes.items c.partner.result (partner_of c.args.cursor.at)
    c.index.result.now c.requires.partner c.partner.ensures c.index.ensures)
    (get_or_default c.args.tables.now.saved.items _ 0 c.index-start.result.now c.requires.saved
    ∙ sym c.index-start.ensures ∙ c.if-start.true)
    c.without_others.ensures

pub lits-requires : goal.lits-requires
lits-requires c =
    row_exists c.args.store.now c.args.entries.now c.args.trail.now c.args.tables.now
    c.args.cursor.lit c.args.cursor.at c.index-entries-row.result c.at.result c.requires
    c.index-entries-row.is c.at.ensures

pub returns : goal.returns
returns c =
    seen_all c.args.entries.now c.args.trail.now c.args.tables.now c.args.cursor.at
    c.args.cursor.level c.index.result.now.lit c.lits.result.now c.visit_clause.result
    (read_lit c.args.tables.now.chains.nodes.items c.partner.result (partner_of c.args.cursor.at)
    c.index.result.now c.requires.partner c.partner.ensures c.index.ensures)
    (row_lits c.args.store.now c.args.entries.now c.args.trail.now c.args.tables.now
    c.args.cursor.lit c.args.cursor.at c.index-entries-row.result c.at.result c.lits.result.now
    c.requires c.index-entries-row.is c.at.ensures c.lits.ensures.lits)
    c.visit_clause.ensures
