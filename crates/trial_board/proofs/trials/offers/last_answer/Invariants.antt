use Rattle.std.proofs.Common.{◌≡◌}
use Rattle.trial_board.proofs.trials.offers.last_answer.Given as goal

abbrev pub invariant-loop-bits : goal.invariant-loop-bits
invariant-loop-bits l = l.client.program ≡ l.program
