use Rattle.std.proofs.Common.{◌≡◌, true, false, refl, subst, sym, rules}
use Rattle.std.proofs.lemmas.Bool.{false≢true, iff_false}
use Rattle.plain_units.specs.Forcing.{IsFalseBy}
use Rattle.plain_units.proofs.UnitLemmas.{all_more, none_read, some_read}
use Rattle.plain_units.proofs.propagation.some_false.Goals as goal

pub returns-then-is_false : goal.returns-then-is_false
returns-then-is_false c =
    let yes : c.is_false.result ≡ true = search rules in (
      λ t. some_read (IsFalseBy c.args.known.now) c.args.clauses.now c.loop-clause.clause-index
          c.clause-item.result c.loop-clause-test.true c.clause-item.is
          (subst (IsFalseBy c.args.known.now) c.as_slice.ensures (c.is_false.ensures.0 yes)),
      λ some. refl,
    )

pub loop-clause-preserved : goal.loop-clause-preserved
loop-clause-preserved c =
    let no : c.is_false.result ≡ false = search rules in
    all_more (λ clause. IsFalseBy c.args.known.now clause → ⊥) c.args.clauses.now
    c.loop-clause.clause-index c.clause-item.result c.loop-clause-test.true c.clause-item.is
    (λ all. iff_false c.is_false.ensures no
    (subst (IsFalseBy c.args.known.now) (sym c.as_slice.ensures) all)) c.loop-clause.invariant

pub returns : goal.returns
returns c = (
  λ wrong. absurd (false≢true wrong),
  λ some. absurd
      (none_read (IsFalseBy c.args.known.now) c.args.clauses.now c.loop-clause.clause-index
      c.loop-clause-test.false c.loop-clause.invariant some),
)
