use Rattle.std.proofs.Common.{◌≡◌, ◌≤◌, refl, sym, subst}
use Rattle.clause_store.specs.declared.theory_says.Says.TheVariants.{Quiet, Clause as Found}
use Rattle.clause_store.specs.Clause.{AreOver}
use Rattle.assumption_engine.specs.declared.check.Check.TheVariants.{Clause as Given}
use Rattle.assumption_engine.specs.Theory.{IsChecked}
use Rattle.trial_engine.specs.Told.{HasFound, Told, meaning_of}
use Rattle.trial_engine.proofs.ToldLemmas.{are_over, checked_at}
use Rattle.trial_engine.proofs.trials.listed.ListedTheory.complete_check.Goals as goal
use Rattle.trial_engine.proofs.trials.listed.ListedTheory.complete_check.Goals.{in-Err}
use Rattle.trial_engine.proofs.trials.listed.ListedTheory.complete_check.Goals.{in-Ok-Clause}
use Rattle.trial_engine.proofs.trials.listed.ListedTheory.complete_check.Goals.{in-Ok-Quiet}

pub find-requires : goal.find-requires
find-requires c =
    subst (AreOver c.args.trail.now.vars) (sym c.as_slice.ensures)
    (are_over c.self.inside.vars c.args.trail.now.vars c.self.inside.clauses
    (subst (λ (told : Told). told.vars ≤ c.args.trail.now.vars) (sym c.self.view_is)
    c.requires.range)
    c.self.invariant)

pub returns-clause-answer : goal.returns-clause-answer
returns-clause-answer c =
    let trail = c.args.trail.now in
    let out = c.find.new.out in
    let is_checked = IsChecked (meaning_of c.args.self.now) trail c.args.limit out in
    let found = HasFound c.as_slice.result.now trail.steps out in
    let checks =
    checked_at
    (record {
      vars = c.self.inside.vars;
      base = c.self.inside.base.value;
      clauses = c.self.inside.clauses;
      spends = c.self.inside.spends;
    })
    c.args.self.now trail out c.args.limit c.as_slice.result.now c.self.view_is c.as_slice.ensures
    c.self.invariant c.requires.range c.requires.total c.requires.needs in
    elim c.match-find.branch [
      | in-Err w ↦ subst is_checked (sym w.result-is) tt
      | in-Ok-Clause w ↦ subst is_checked (sym w.result-is)
          (checks Found Given (subst found w.in-Ok-Clause.field-0-is w.in-Ok-Clause.ensures) refl)
      | in-Ok-Quiet w ↦ subst is_checked (sym w.result-is)
          (checks Quiet w.end_of.result
          (subst found w.in-Ok-Quiet.field-0-is w.in-Ok-Quiet.ensures) w.end_of.ensures)
    ]
