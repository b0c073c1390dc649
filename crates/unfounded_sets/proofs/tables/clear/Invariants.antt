use Rattle.std.proofs.Common.{◌≡◌, ◌<◌, ℕ, Bool, false, length, get_or}
use Rattle.unfounded_sets.proofs.tables.clear.Given as goal

abbrev pub invariant-loop-place : goal.invariant-loop-place
invariant-loop-place l =
    (length l.set ≡ length l.initial.set)
    × ((at : ℕ) (d : Bool) → at < l.place → get_or l.set at d ≡ false)
