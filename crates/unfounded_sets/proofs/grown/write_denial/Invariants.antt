use Rattle.std.proofs.Common.{◌≡◌, map, take}
use Rattle.unfounded_sets.specs.Grown.{coded}
use Rattle.unfounded_sets.proofs.grown.write_denial.Given as goal

abbrev pub invariant-loop-code : goal.invariant-loop-code
invariant-loop-code l = l.out ≡ map coded (take l.code-index l.code-items)
