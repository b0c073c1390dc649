use Rattle.std.proofs.Common.{◌≡◌, ◌+◌, true, false, get_or, subst, sym, rules}
use Rattle.std.proofs.lemmas.Bool.{false≢true, iff_false}
use Rattle.std.proofs.lemmas.List.{get_or_default, take_rest}
use Rattle.plain_units.specs.Forcing.{HasVariable}
use Rattle.plain_units.proofs.UnitLemmas.{not_once, once_more}
use Rattle.plain_units.proofs.unit_lists.has_no_variable_twice.Goals as goal

pub returns-then-has_variable : goal.returns-then-has_variable
returns-then-has_variable c =
    let found : c.has_variable.result ≡ true = search rules in
    let lit = get_or c.args.clause.now c.loop-at.at (record { 0 = 0 }) in (
      λ wrong. absurd (false≢true wrong),
      λ once. absurd
          (not_once c.args.clause.now c.loop-at.at lit c.loop-at-test.true
          (get_or_default c.args.clause.now c.loop-at.at (record { 0 = 0 }) lit
          c.loop-at-test.true)
          (subst (λ rest. HasVariable rest lit) (take_rest c.args.clause.now (c.loop-at.at + 1))
          (c.has_variable.ensures.0 found)) once),
    )

pub loop-at-preserved : goal.loop-at-preserved
loop-at-preserved c =
    let none : c.has_variable.result ≡ false = search rules in
    let lit = get_or c.args.clause.now c.loop-at.at (record { 0 = 0 }) in
    once_more c.args.clause.now c.loop-at.at lit c.loop-at-test.true
    (get_or_default c.args.clause.now c.loop-at.at (record { 0 = 0 }) lit c.loop-at-test.true)
    (λ has. iff_false c.has_variable.ensures none
    (subst (λ rest. HasVariable rest lit) (sym (take_rest c.args.clause.now (c.loop-at.at + 1)))
    has)) c.loop-at.invariant
