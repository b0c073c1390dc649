use Rattle.std.proofs.Common.{◌≡◌, ◌*◌, ◌+◌, ap, arith, map, refl}
use Rattle.clause_store.specs.declared.literal.Lit.{Lit}
use Rattle.clause_store.specs.Standing.{as_followed}
use Rattle.watched_literals.specs.Chains.{lit_of}
use Rattle.watched_literals.proofs.AgainLemmas.{both_settled, none_of_row}
use Rattle.watched_literals.proofs.QuietLemmas.{short_settled}
use Rattle.watched_literals.proofs.SeenLemmas.{read_lit}
use Rattle.watched_literals.proofs.again.is_settled.Goals as goal

pub returns-then-one-eq0 : goal.returns-then-one-eq0
returns-then-one-eq0 c =
    let one_is : c.index.result.now.lit
    ≡ lit_of c.args.tables.now.chains.nodes.items (2 * c.args.row) =
    read_lit c.args.tables.now.chains.nodes.items _ (2 * c.args.row) c.index.result.now
    (omega (arith, c.requires.nodes)) refl c.index.ensures in
    λ yes. record {
      both =
          short_settled c.args.trail.now
          (lit_of c.args.tables.now.chains.nodes.items (2 * c.args.row))
          (lit_of c.args.tables.now.chains.nodes.items (2 * c.args.row + 1))
          c.requires.is_trail
          (none_of_row (map as_followed c.args.trail.now.steps) c.args.trail.now.vars
          c.args.lits.now _
          (lit_of c.args.tables.now.chains.nodes.items (2 * c.args.row))
          (lit_of c.args.tables.now.chains.nodes.items (2 * c.args.row + 1))
          c.requires.over c.requires.row
          (omega (arith, ap (λ (it : Lit). it.0) one_is, c.if-one-eq0.true)));
      good = λ none_is. c.holds_for_good.ensures yes;
    }

pub returns-then-settles : goal.returns-then-settles
returns-then-settles c =
    let one_is : c.index.result.now.lit
    ≡ lit_of c.args.tables.now.chains.nodes.items (2 * c.args.row) =
    read_lit c.args.tables.now.chains.nodes.items _ (2 * c.args.row) c.index.result.now
    (omega (arith, c.requires.nodes)) refl c.index.ensures in
    λ yes. record {
      both =
          both_settled (map as_followed c.args.trail.now.steps) c.index.result.now.lit
          c.index-2.result.now.lit
          (lit_of c.args.tables.now.chains.nodes.items (2 * c.args.row))
          (lit_of c.args.tables.now.chains.nodes.items (2 * c.args.row + 1)) one_is
          (read_lit c.args.tables.now.chains.nodes.items _ (2 * c.args.row + 1)
          c.index-2.result.now c.requires.nodes refl c.index-2.ensures)
          (c.settles.ensures c.if-settles.true) (c.settles-then-settles.ensures yes);
      good =
          λ none_is. absurd
          (omega (
            arith,
            none_is.one_none,
            ap (λ (it : Lit). it.0) one_is,
            c.if-one-eq0.false,
          ));
    }
