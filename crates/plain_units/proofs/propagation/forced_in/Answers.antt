use Rattle.std.proofs.Common.{◌≡◌, true, false, rules}
use Rattle.std.specs.Prelude.{Contains}
use Rattle.std.proofs.lemmas.Bool.{iff_false}
use Rattle.std.proofs.lemmas.List.Elements.{All-more}
use Rattle.clause_store.specs.Entailment.{IsForcedBy}
use Rattle.plain_units.proofs.UnitLemmas.{all_read, closed_under}
use Rattle.plain_units.proofs.propagation.forced_in.Goals as goal
use Rattle.plain_units.proofs.propagation.forced_in.Goals.{
  else-not-has-via-then-not-has+else-others_are_false,
}
use Rattle.plain_units.proofs.propagation.forced_in.Goals.{else-not-has-via-else-not-has}

pub loop-lit-preserved : goal.loop-lit-preserved
loop-lit-preserved c =
    All-more
    (λ lit. IsForcedBy c.args.known.now c.args.clause.now lit → Contains c.args.known.now lit)
    c.args.clause.now c.loop-lit.lit-index (record { 0 = 0 }) c.loop-lit-test.true
    c.loop-lit.invariant
    (λ forced. elim c.else-not-has.branch [
      | else-not-has-via-then-not-has+else-others_are_false w ↦
          let no : w.others_are_false.result ≡ false = search rules in
          absurd (iff_false w.others_are_false.ensures no forced.others)
      | else-not-has-via-else-not-has w ↦
          let yes : c.has.result ≡ true = search rules in c.has.ensures.0 yes
    ])

pub returns-clause-none : goal.returns-clause-none
returns-clause-none c =
    closed_under c.args.known.now c.args.clause.now
    (all_read
    (λ lit. IsForcedBy c.args.known.now c.args.clause.now lit → Contains c.args.known.now lit)
    c.args.clause.now c.loop-lit.lit-index c.loop-lit-test.false c.loop-lit.invariant)
