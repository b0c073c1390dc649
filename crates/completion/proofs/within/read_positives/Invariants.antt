use Rattle.std.proofs.Common.{◌≡◌, not, filter, take}
use Rattle.normal_program.specs.declared.normal.Part.{Part}
use Rattle.normal_program.specs.Clauses.{literals_of}
use Rattle.completion.proofs.within.read_positives.Given as goal

abbrev pub invariant-loop-part : goal.invariant-loop-part
invariant-loop-part l =
    l.lits.items
    ≡ literals_of (filter (λ (part : Part). not part.lit.negated) (take l.part-index l.parts))
