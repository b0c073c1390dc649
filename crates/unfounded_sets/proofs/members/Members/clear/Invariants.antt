use Rattle.std.proofs.Common.{◌≡◌, length}
use Rattle.unfounded_sets.proofs.members.Members.clear.Given as goal

abbrev pub invariant-numbers : goal.invariant-numbers
invariant-numbers l = length l.self.marks ≡ length l.initial.self.marks

abbrev pub decreases-numbers : goal.decreases-numbers
decreases-numbers l = length l.self.list
