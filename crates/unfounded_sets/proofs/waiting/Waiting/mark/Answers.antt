use Rattle.std.proofs.Common.{◌<◌, ◌∙◌, length, sym, subst, arith}
use Rattle.unfounded_sets.specs.Waits.{Waited}
use Rattle.unfounded_sets.proofs.StackLemmas.{stack_room, stack_with, stack_few}
use Rattle.unfounded_sets.proofs.waiting.Waiting.mark.Goals as goal

pub push_reserved-requires : goal.push_reserved-requires
push_reserved-requires c =
    omega (
      arith,
      c.self.inside.stack.ok.0,
      stack_room c.self.inside.waits.items c.self.inside.stack.items _ c.self.invariant c.args.row
          c.index.result.now
          (subst (λ (it : Waited). c.args.row < length it.waits) (sym c.self.view_is) c.requires)
          (sym c.index.ensures ∙ c.if-not-index.true),
    )

pub invariant_of-self : goal.invariant_of-self
invariant_of-self c =
    rw (c.push_reserved.ensures.items, c.push_reserved.ensures.capacity)
    (stack_with c.self.inside.waits.items c.self.inside.stack.items _ c.self.invariant c.args.row
    c.index.result.now
    (subst (λ (it : Waited). c.args.row < length it.waits) (sym c.self.view_is) c.requires)
    (sym c.index.ensures ∙ c.if-not-index.true))

pub returns-then-not-index-clause-few : goal.returns-then-not-index-clause-few
returns-then-not-index-clause-few c =
    rw c.push_reserved.ensures.items
    (stack_few _ _ _
    (stack_with c.self.inside.waits.items c.self.inside.stack.items _ c.self.invariant c.args.row
    c.index.result.now
    (subst (λ (it : Waited). c.args.row < length it.waits) (sym c.self.view_is) c.requires)
    (sym c.index.ensures ∙ c.if-not-index.true)))

pub returns-else-not-index-clause-few : goal.returns-else-not-index-clause-few
returns-else-not-index-clause-few c =
    rw (← c.self.view_is)
    (stack_few c.self.inside.waits.items c.self.inside.stack.items _ c.self.invariant)
