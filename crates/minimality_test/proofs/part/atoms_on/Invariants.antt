use Rattle.std.proofs.Common.{◌≡◌, map}
use Rattle.std.specs.List.{range_with_len}
use Rattle.clause_store.specs.Trail.{is_yes, value_of}
use Rattle.normal_program.specs.Clauses.{positive}
use Rattle.minimality_test.proofs.part.atoms_on.Given as goal

-- the set has the values of the variables before the next atom
abbrev pub invariant-loop-atom : goal.invariant-loop-atom
invariant-loop-atom l =
    l.set
    ≡ map (λ var. is_yes (value_of l.trail.steps (positive var))) (range_with_len 0 l.atom)
