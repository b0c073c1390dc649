use Rattle.std.proofs.Common.{arith}
use Rattle.watched_literals.proofs.StackLemmas.{stack_fits}
use Rattle.watched_literals.proofs.pending.Pending.put.Goals as goal

pub overflow_sub-more : goal.overflow_sub-more
overflow_sub-more c =
    omega (
      arith,
      c.len.ensures,
      c.len-2.ensures,
      stack_fits c.self.inside.waits.items c.self.inside.stack.items _ c.self.invariant,
    )
