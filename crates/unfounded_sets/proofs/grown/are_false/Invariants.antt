use Rattle.std.proofs.Common.{take}
use Rattle.std.specs.Prelude.{All}
use Rattle.clause_store.specs.Standing.{IsFalse}
use Rattle.unfounded_sets.specs.Grown.{coded}
use Rattle.unfounded_sets.proofs.grown.are_false.Given as goal

abbrev pub invariant-loop-code : goal.invariant-loop-code
invariant-loop-code l =
    All (λ code. IsFalse l.trail.steps (coded code)) (take l.code-index l.codes)
