use Rattle.std.proofs.Common.{◌≡◌, arith, inl, map, refl, subst}
use Rattle.clause_store.specs.Standing.{IsFalse, as_followed}
use Rattle.watched_literals.specs.Chains.{lit_of}
use Rattle.watched_literals.specs.Watching.{IsTrueBy, partner_of}
use Rattle.watched_literals.proofs.KnownLemmas.{yes_present}
use Rattle.watched_literals.proofs.SeenLemmas.{forced_reason, read_lit}
use Rattle.watched_literals.proofs.node_visit.imply.Goals as goal

pub make_true-requires-clause-not_false : goal.make_true-requires-clause-not_false
make_true-requires-clause-not_false c is_false =
    (c.requires.forced.forces c.index-entries-row.result).not_false
    (subst (IsFalse c.args.trail.now.steps)
    (read_lit c.args.tables.now.chains.nodes.items c.partner.result (partner_of c.args.cursor.at)
    c.index.result.now c.requires.seat.partner c.partner.ensures c.index.ensures) is_false)

pub make_true-requires-clause-forced : goal.make_true-requires-clause-forced
make_true-requires-clause-forced c =
    forced_reason c.args.store.now c.args.entries.now c.args.trail.now c.args.tables.now
    c.args.cursor.lit c.args.cursor.at c.index.result.now.lit c.index-entries-row.result
    c.at.result c.requires.seat c.requires.forced
    (read_lit c.args.tables.now.chains.nodes.items c.partner.result (partner_of c.args.cursor.at)
    c.index.result.now c.requires.seat.partner c.partner.ensures c.index.ensures)
    c.index-entries-row.is c.at.ensures

pub returns-else-level-cursor-clause-kept : goal.returns-else-level-cursor-clause-kept
returns-else-level-cursor-clause-kept c =
    let other_is : c.index.result.now.lit
    ≡ lit_of c.args.tables.now.chains.nodes.items (partner_of c.args.cursor.at) =
    read_lit c.args.tables.now.chains.nodes.items c.partner.result (partner_of c.args.cursor.at)
    c.index.result.now c.requires.seat.partner c.partner.ensures c.index.ensures in
    record {
      chains = refl;
      saved = refl;
      waits =
          inl (
            refl,
            subst
                (IsTrueBy c.args.cursor.level (map as_followed c.make_true.new.trail.steps))
                other_is
                (yes_present c.make_true.new.trail.steps c.args.cursor.level
                c.index.result.now.lit c.make_true.ensures.yes
                (omega (arith, c.level.ensures.level, c.if-level-cursor.false))),
          );
    }
