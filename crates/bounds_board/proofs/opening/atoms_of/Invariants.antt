use Rattle.std.proofs.Common.{◌≡◌, map, take}
use Rattle.bounds_board.proofs.opening.atoms_of.Given as goal

abbrev pub invariant-loop-named : goal.invariant-loop-named
invariant-loop-named l = l.atoms ≡ map (λ named. named.atom) (take l.named-index l.named-items)
