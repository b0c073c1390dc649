use Rattle.std.proofs.Common.{◌≡◌, ◌∙◌, ◌≤◌, ap, sym, subst}
use Rattle.std.specs.Prelude.{IfOk}
use Rattle.clause_store.specs.declared.theory_says.Says.TheVariants.{Clause}
use Rattle.clause_store.specs.Clause.{AreOver}
use Rattle.assumption_engine.specs.Theory.{IsGiven}
use Rattle.trial_engine.specs.Told.{HasFound, Told, meaning_of}
use Rattle.trial_engine.proofs.ToldLemmas.{are_over, said}
use Rattle.trial_engine.proofs.trials.listed.ListedTheory.propagate.Goals as goal

pub find-requires : goal.find-requires
find-requires c =
    let same = c.self.view_is ∙ c.is_time.ensures in
    subst (AreOver c.args.trail.now.vars) (sym c.as_slice.ensures)
    (are_over c.self.inside.vars c.args.trail.now.vars c.self.inside.clauses
    (subst (λ (told : Told). told.vars ≤ c.args.trail.now.vars) (sym same) c.requires.range)
    c.self.invariant)

pub returns-clause-given : goal.returns-clause-given
returns-clause-given c =
    let same = c.self.view_is ∙ c.is_time.ensures in
    subst
    (λ (told : Told). IfOk c.find.result (λ says. says ≡ Clause
    → IsGiven (meaning_of told) c.args.trail.now c.find.new.out))
    same
    (said (record {
      vars = c.self.inside.vars;
      base = c.self.inside.base.value;
      clauses = c.self.inside.clauses;
      spends = c.self.inside.spends;
    })
    c.args.trail.now c.find.new.out c.find.result c.self.invariant
    (subst (λ (told : Told). told.vars ≤ c.args.trail.now.vars) (sym same) c.requires.range)
    (subst
    (λ clauses. IfOk c.find.result (HasFound clauses c.args.trail.now.steps c.find.new.out))
    c.as_slice.ensures c.find.ensures))
