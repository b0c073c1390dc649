use Rattle.std.proofs.Common.{◌≡◌, ◌-◌, ℕ, vec_len}
use Rattle.completion.specs.Drafts.{is_marked}
use Rattle.completion.proofs.draft.make_room.Given as goal

abbrev pub invariant-loop-marks : goal.invariant-loop-marks
invariant-loop-marks l =
    (code : ℕ) → is_marked l.marks.items code ≡ is_marked l.initial.marks.items code

abbrev pub decreases-loop-marks : goal.decreases-loop-marks
decreases-loop-marks l = l.count - vec_len l.marks
