use Rattle.std.proofs.Common.{◌∙◌, ◌-◌, ap, take}
use Rattle.weight_propagator.specs.Waits.{Waited}
use Rattle.weight_propagator.proofs.StackLemmas.{stack_without}
use Rattle.weight_propagator.proofs.waiting.Waiting.settle.Goals as goal

pub invariant_of-self : goal.invariant_of-self
invariant_of-self c =
    rw (
      c.pop.ensures.rest
          ∙ ap (λ n. take (n - 1) c.self.inside.stack.items) c.self.inside.stack.ok.0,
      c.pop.ensures.capacity,
    )
    (stack_without c.self.inside.waits.items c.self.inside.stack.items _ c.self.invariant c.args.row
    (ap (λ (it : Waited). it.next) c.self.view_is ∙ c.requires))
