use Rattle.std.proofs.Common.{◌≡◌, true, false, refl, subst, sym, rules}
use Rattle.std.specs.Prelude.{Contains}
use Rattle.std.proofs.lemmas.Bool.{false≢true, iff_false}
use Rattle.std.proofs.lemmas.List.Elements.{All-more}
use Rattle.clause_store.specs.Clause.{negation}
use Rattle.plain_units.proofs.UnitLemmas.{all_read, not_all_at}
use Rattle.plain_units.proofs.propagation.is_false.Goals as goal

pub returns-then-not-has : goal.returns-then-not-has
returns-then-not-has c =
    let no : c.has.result ≡ false = search rules in (
      λ wrong. absurd (false≢true wrong),
      λ all. absurd
          (not_all_at (λ lit. Contains c.args.known.now (negation lit)) c.args.clause.now
          c.loop-lit.lit-index (record { 0 = 0 }) c.loop-lit-test.true
          (λ here. iff_false c.has.ensures no
          (subst (Contains c.args.known.now) (sym c.negated.ensures) here)) all),
    )

pub loop-lit-preserved : goal.loop-lit-preserved
loop-lit-preserved c =
    let yes : c.has.result ≡ true = search rules in
    All-more (λ lit. Contains c.args.known.now (negation lit)) c.args.clause.now
    c.loop-lit.lit-index (record { 0 = 0 }) c.loop-lit-test.true c.loop-lit.invariant
    (subst (Contains c.args.known.now) c.negated.ensures (c.has.ensures.0 yes))

pub returns : goal.returns
returns c = (
  λ t. all_read (λ lit. Contains c.args.known.now (negation lit)) c.args.clause.now
      c.loop-lit.lit-index c.loop-lit-test.false c.loop-lit.invariant,
  λ all. refl,
)
