use Rattle.std.proofs.Common.{sym, subst}
use Rattle.clause_store.specs.declared.theory_says.Says.TheVariants.{Quiet, Clause as Given}
use Rattle.weight_propagator.specs.Weighed.{IsSaid}
use Rattle.assumption_engine.specs.Theory.{IsChecked}
use Rattle.kept_minimality.specs.Pairing.{meaning_of}
use Rattle.kept_minimality.proofs.TheoryLemmas.{theory_checks}
use Rattle.kept_minimality.proofs.theory.PairTheoryTheory.complete_check.Goals as goal
use Rattle.kept_minimality.proofs.theory.PairTheoryTheory.complete_check.Goals.{in-Ok-Clause}
use Rattle.kept_minimality.proofs.theory.PairTheoryTheory.complete_check.Goals.{in-Ok-Quiet, in-Err}

pub returns-clause-answer : goal.returns-clause-answer
returns-clause-answer c =
    let trail = c.args.trail.now in
    let out = c.propagate.new.out in
    let is_checked = IsChecked (meaning_of c.args.self.now.pair) trail c.args.limit out in
    let said = IsSaid c.self.inside.weights.inside c.self.inside.pair trail out in
    let checks =
    theory_checks c.self.inside.pair c.self.inside.weights c.self.invariant trail out
    c.args.self.now c.self.inside.weights.followed c.self.view_is c.args.limit
    c.vouch.ensures c.requires.total c.requires.range c.requires.needs in
    elim c.match-propagate.branch [
      | in-Ok-Clause w ↦ subst is_checked (sym w.result-is)
          (checks Given (subst said w.in-Ok-Clause.field-0-is w.in-Ok-Clause.ensures.says))
      | in-Ok-Quiet w ↦ subst is_checked (sym w.result-is)
          (checks Quiet (subst said w.in-Ok-Quiet.field-0-is w.in-Ok-Quiet.ensures.says))
      | in-Err w ↦ subst is_checked (sym w.result-is) tt
    ]
