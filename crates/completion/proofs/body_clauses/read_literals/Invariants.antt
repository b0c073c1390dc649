use Rattle.std.proofs.Common.{◌≡◌, take}
use Rattle.normal_program.specs.Clauses.{literals_of}
use Rattle.completion.proofs.body_clauses.read_literals.Given as goal

abbrev pub invariant-loop-part : goal.invariant-loop-part
invariant-loop-part l = l.lits.items ≡ literals_of (take l.part-index l.parts)
