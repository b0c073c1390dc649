use Rattle.std.proofs.Common.{◌≡◌, false, length}
use Rattle.std.specs.Prelude.{All}
use Rattle.unfounded_sets.proofs.tables.empty_set.Given as goal

abbrev pub invariant-loop-place : goal.invariant-loop-place
invariant-loop-place l = (length l.set ≡ l._place) × All (λ bit. bit ≡ false) l.set
