use Rattle.std.proofs.Common.{◌∙◌, ◌-◌, ap, length, slice_get}
use Rattle.unfounded_sets.proofs.StackLemmas.{none_at_end}
use Rattle.unfounded_sets.proofs.waiting.Waiting.next.Goals as goal

pub returns-clause-none : goal.returns-clause-none
returns-clause-none c =
    rw (← c.self.view_is)
    (none_at_end c.self.inside.waits.items c.self.inside.stack.items _ c.self.invariant
    c.copied.result
    (c.copied.ensures ∙ c.last.ensures.value
    ∙ ap (λ stack. slice_get stack (length stack - 1)) c.as_slice.ensures.value))
