use Rattle.std.proofs.Common.{◌≡◌}
use Rattle.trial_board.proofs.trials.client_at_once.read_often.Given as goal

abbrev pub invariant-loop : goal.invariant-loop
invariant-loop l = l.client.board ≡ l.initial.client.board
