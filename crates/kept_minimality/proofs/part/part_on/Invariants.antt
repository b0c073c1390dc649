use Rattle.std.proofs.Common.{◌≡◌, ◌∷◌, ◌+◌, false, take, drop}
use Rattle.clause_store.specs.Trail.{values_of}
use Rattle.kept_minimality.proofs.part.part_on.Given as goal

-- the part has the values of so many atoms
abbrev pub invariant-loop-at : goal.invariant-loop-at
invariant-loop-at l = l.part ≡ false ∷ take l.at (drop (l.atoms + 1) (values_of l.trail))
