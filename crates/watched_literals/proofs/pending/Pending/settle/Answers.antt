use Rattle.std.proofs.Common.{◌<◌, ◌∙◌, length, get_or, set, sym, subst}
use Rattle.std.specs.Prelude.{false, vec_capacity}
use Rattle.std.proofs.lemmas.List.{get_or_default}
use Rattle.watched_literals.specs.Pends.{IsStack, Waited}
use Rattle.watched_literals.proofs.StackLemmas.{stack_without}
use Rattle.watched_literals.proofs.pending.Pending.settle.Goals as goal

pub invariant_of-self : goal.invariant_of-self
invariant_of-self c =
    let inside : c.args.at < length c.self.inside.stack.items =
    subst (λ (it : Waited). c.args.at < length it.stack) (sym c.self.view_is) c.requires in
    subst
    (λ row. IsStack (set c.self.inside.waits.items row false) c.take_out.new.stack.items
    (vec_capacity c.take_out.new.stack))
    (get_or_default c.self.inside.stack.items c.args.at 0 c.index-row.result.now inside
    ∙ sym c.index-row.ensures)
    (subst
    (IsStack (set c.self.inside.waits.items (get_or c.self.inside.stack.items c.args.at 0) false)
    c.take_out.new.stack.items)
    (sym c.take_out.ensures.room)
    (stack_without c.self.inside.waits.items c.self.inside.stack.items _ c.self.invariant c.args.at
    c.take_out.new.stack.items inside c.take_out.ensures.left))
