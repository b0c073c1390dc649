use Rattle.std.proofs.Common.{◌≢◌, All, take}
use Rattle.coherence_test.proofs.search.place_of.Given as goal

abbrev pub invariant-loop-at : goal.invariant-loop-at
invariant-loop-at l = All (λ one. one ≢ l.clause) (take l.at l.list)
