use Rattle.std.proofs.Common.{◌≡◌, false, rules, subst}
use Rattle.propagator.specs.Fixpoint.{IsQuietOn}
use Rattle.plain_units.proofs.UnitLemmas.{all_more, all_read}
use Rattle.trial_engine.proofs.trials.listed.find.Goals as goal

pub loop-clause-preserved : goal.loop-clause-preserved
loop-clause-preserved c =
    let no : c.acts.result ≡ false = search rules in
    all_more (IsQuietOn c.args.trail.now.steps) c.args.clauses.now c.loop-clause.clause-index
    c.clause-item.result c.loop-clause-test.true c.clause-item.is
    (subst (IsQuietOn c.args.trail.now.steps) c.as_slice.ensures (c.acts.ensures.quiet no))
    c.loop-clause.invariant

pub returns : goal.returns
returns c = record {
  one = λ e. cc;
  acts = λ e. cc;
  none =
      λ e. all_read (IsQuietOn c.args.trail.now.steps) c.args.clauses.now
      c.loop-clause.clause-index c.loop-clause-test.false c.loop-clause.invariant;
}
