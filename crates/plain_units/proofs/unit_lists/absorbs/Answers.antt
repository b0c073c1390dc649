use Rattle.std.proofs.Common.{◌≡◌, true, false, refl, rules}
use Rattle.std.proofs.lemmas.Bool.{false≢true, iff_false}
use Rattle.std.proofs.lemmas.List.Elements.{All-more}
use Rattle.plain_units.specs.Forcing.{IsAbsorbedAt}
use Rattle.plain_units.proofs.UnitLemmas.{all_read, not_all_at}
use Rattle.plain_units.proofs.unit_lists.absorbs.Goals as goal

pub returns-then-not-absorbed : goal.returns-then-not-absorbed
returns-then-not-absorbed c =
    let no : c.in_ok-absorbed.absorbed ≡ false = search rules in (
      λ wrong. absurd (false≢true wrong),
      λ all. absurd
          (not_all_at (IsAbsorbedAt c.args.clauses.now c.args.clause.now) c.args.clause.now
          c.loop-lit.lit-index (record { 0 = 0 }) c.loop-lit-test.true
          (iff_false c.in_ok-absorbed.ensures no) all),
    )

pub loop-lit-preserved : goal.loop-lit-preserved
loop-lit-preserved c =
    let yes : c.in_ok-absorbed.absorbed ≡ true = search rules in
    All-more (IsAbsorbedAt c.args.clauses.now c.args.clause.now) c.args.clause.now
    c.loop-lit.lit-index (record { 0 = 0 }) c.loop-lit-test.true c.loop-lit.invariant
    (c.in_ok-absorbed.ensures.0 yes)

pub returns : goal.returns
returns c = (
  λ t. all_read (IsAbsorbedAt c.args.clauses.now c.args.clause.now) c.args.clause.now
      c.loop-lit.lit-index c.loop-lit-test.false c.loop-lit.invariant,
  λ all. refl,
)
