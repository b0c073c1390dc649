use Rattle.std.proofs.Common.{◌∙◌, ◌-◌, ap, take}
use Rattle.unfounded_sets.specs.Waits.{Waited}
use Rattle.unfounded_sets.proofs.StackLemmas.{stack_without, stack_few}
use Rattle.unfounded_sets.proofs.waiting.Waiting.settle.Goals as goal

pub invariant_of-self : goal.invariant_of-self
invariant_of-self c =
    rw (
      c.pop.ensures.rest
          ∙ ap (λ n. take (n - 1) c.self.inside.stack.items) c.self.inside.stack.ok.0,
      c.pop.ensures.capacity,
    )
    (stack_without c.self.inside.waits.items c.self.inside.stack.items _ c.self.invariant c.args.row
    (ap (λ (it : Waited). it.next) c.self.view_is ∙ c.requires))

pub returns-clause-few : goal.returns-clause-few
returns-clause-few c =
    rw (c.pop.ensures.rest
    ∙ ap (λ n. take (n - 1) c.self.inside.stack.items) c.self.inside.stack.ok.0)
    (stack_few _ _ _
    (stack_without c.self.inside.waits.items c.self.inside.stack.items _ c.self.invariant c.args.row
    (ap (λ (it : Waited). it.next) c.self.view_is ∙ c.requires)))
