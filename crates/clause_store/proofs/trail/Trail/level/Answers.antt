use Rattle.std.proofs.Common.{◌≤◌, ◌∙◌, sym, ap, subst, length, arith, ◌≡◌}
use Rattle.clause_store.specs.Trail.{present_level}
use Rattle.clause_store.proofs.StepLemmas.{last_level, present_end, level_fits}
use Rattle.clause_store.proofs.trail.Trail.level.Goals as goal

pub returns-in-len1-up-clause-level : goal.returns-in-len1-up-clause-level
returns-in-len1-up-clause-level c =
    rw c.as_slice.ensures.value
    (last_level 0 c.self.inside.steps.items _
    (subst (λ steps. 1 ≤ length steps) c.as_slice.ensures.value c.in-len1-up.len_at_least)
    ∙ sym (present_end c.self.inside.steps.items c.self.invariant.trail.levels)
    ∙ ap (λ trail. present_level trail.steps) c.self.view_is)

pub returns-in-len1-up-clause-few : goal.returns-in-len1-up-clause-few
returns-in-len1-up-clause-few c =
    subst (λ level. level ≤ c.args.self.now.vars) (sym (returns-in-len1-up-clause-level c))
    (subst (λ trail. present_level trail.steps ≤ trail.vars) c.self.view_is
    (level_fits _ c.self.invariant.trail))

pub returns-in-len1-up-clause-small : goal.returns-in-len1-up-clause-small
returns-in-len1-up-clause-small c =
    let vars : c.self.inside.vars ≡ c.args.self.now.vars =
    ap (λ trail. trail.vars) c.self.view_is in
    omega (arith, returns-in-len1-up-clause-few c, c.self.invariant.few)
