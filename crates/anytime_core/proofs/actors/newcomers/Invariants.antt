use Rattle.std.proofs.Common.{◌≡◌, replicate}
use Rattle.anytime_core.specs.Knowing.{newcomer}
use Rattle.anytime_core.proofs.actors.newcomers.Given as goal

abbrev pub invariant-loop-number : goal.invariant-loop-number
invariant-loop-number l = l.actors.items ≡ replicate l._number (newcomer l.words)
