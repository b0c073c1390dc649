use Rattle.anytime_core.specs.Machine.{actor_at, candidates_of}
use Rattle.anytime_core.specs.Showing.{IsShownUpTo}
use Rattle.anytime_core.proofs.machine.Core.pair_of.Given as goal

abbrev pub invariant-loop-word : goal.invariant-loop-word
invariant-loop-word l =
    IsShownUpTo (candidates_of l.self) (actor_at l.self l.actor).seen l.pair l.word
