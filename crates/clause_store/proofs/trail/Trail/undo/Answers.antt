use Rattle.std.proofs.Common.{subst}
use Rattle.clause_store.specs.Arrays.{IsWithoutLast}
use Rattle.clause_store.proofs.ArrayLemmas.{kept_front, without_last}
use Rattle.clause_store.proofs.trail.Trail.undo.Goals as goal

pub invariant_of-self : goal.invariant_of-self
invariant_of-self c =
    rw (c.var.ensures, c.negated.ensures)
    (kept_front _ _ _ _ _ _ _ _ _ c.in-Some.step c.self.invariant c.in-Some.ensures.items
    c.in-Some.ensures.len c.pop.ensures.capacity)

pub returns-in-Some-clause-steps : goal.returns-in-Some-clause-steps
returns-in-Some-clause-steps c =
    subst (λ trail. IsWithoutLast trail.steps c.pop.new.self.items) c.self.view_is
    (without_last c.self.inside.vars c.self.inside.steps.items c.pop.new.self.items c.in-Some.step
    c.self.invariant.trail c.in-Some.ensures.items)
