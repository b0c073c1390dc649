use Rattle.std.proofs.Common.{◌∙◌, get_or, ap, sym}
use Rattle.conflict_learning.proofs.AssignedLemmas.{blank}
use Rattle.clause_store.specs.Trail.{place_of}
use Rattle.clause_store.proofs.PlaceLemmas.{place_within}
use Rattle.clause_store.specs.Clause.{variable}
use Rattle.conflict_learning.proofs.CellLemmas.{marks_set}
use Rattle.conflict_learning.proofs.CoreLemmas.{read_there}
use Rattle.conflict_learning.proofs.assumption_core.mark.Goals as goal

pub returns-then-cell-len : goal.returns-then-cell-len
returns-then-cell-len c =
    let found =
    ap (place_of c.args.trail.now.steps) (sym c.var.ensures) ∙ sym c.place_of.ensures
    ∙ c.in-Some.is in
    marks_set c.args.trail.now.steps c.args.last c.in-Some.place c.args.lit
    (get_or c.steps-steps.result.now c.in-Some.place blank) c.args.core.now c.set.new.self found
    (read_there c.steps-steps.result.now c.args.trail.now.steps c.in-Some.place
    c.steps-steps.ensures.steps
    (place_within c.args.trail.now.steps (variable c.args.lit) c.in-Some.place found))
    c.set.ensures
