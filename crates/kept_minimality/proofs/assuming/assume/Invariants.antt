use Rattle.std.proofs.Common.{◌≡◌, ◌≤◌, ◌-◌, map}
use Rattle.std.specs.List.{range_with_len}
use Rattle.kept_minimality.specs.Asking.{literal_in}
use Rattle.kept_minimality.proofs.assuming.assume.Given as goal

-- the literals are those of the atoms before the next
abbrev pub invariant-loop-atom : goal.invariant-loop-atom
invariant-loop-atom l =
    (1 ≤ l.atom) × (l.lits ≡ map (literal_in l.set) (range_with_len 1 (l.atom - 1)))
