use Rattle.std.proofs.Common.{◌≡◌, ◌<◌, ◌+◌, ℕ, length}
use Rattle.std.specs.Prelude.{◌↔◌}
use Rattle.ground_program.specs.Meaning.{IsIn}
use Rattle.unfounded_sets.specs.Founding.{IsOpen}
use Rattle.unfounded_sets.proofs.loops.mark_open.Given as goal

abbrev pub invariant-loop-atom : goal.invariant-loop-atom
invariant-loop-atom l =
    (length l.part ≡ l.normal.atoms + 1)
    × ((one : ℕ) → one < l.atom → IsIn l.part one ↔ IsOpen l.normal l.trail.steps l.founded one)
