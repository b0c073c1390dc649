use Rattle.std.proofs.Common.{◌≡◌}
use Rattle.bench_board.proofs.measuring.read_often.Given as goal

abbrev pub invariant-loop : goal.invariant-loop
invariant-loop l = l.client.board ≡ l.initial.client.board
