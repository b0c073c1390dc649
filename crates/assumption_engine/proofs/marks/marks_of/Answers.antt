use Rattle.std.proofs.Common.{◌≡◌, [], ◌∷◌, ◌++◌, get_or, take, ap, sym, subst, ◌∙◌, arith}
use Rattle.std.proofs.lemmas.Option.{get_or_from_slice_get}
use Rattle.assumption_engine.specs.Marks.{AreMarkedIn}
use Rattle.assumption_engine.proofs.MarkLemmas.{marked_with, taken_next}
use Rattle.assumption_engine.proofs.marks.marks_of.Goals as goal

pub clauses-preserved : goal.clauses-preserved
clauses-preserved c =
    let is : get_or c.args.store.now c.clauses.at [] ≡ c.lits.result.now =
    get_or_from_slice_get c.args.store.now c.clauses.at c.lits.result.now [] c.lits.ensures.lits in
    subst (λ clauses. AreMarkedIn clauses c.mark.new.marks.items)
    (sym
    (taken_next c.args.store.now c.clauses.at []
    (omega (arith, c.clauses-test.true, c.len-at-end.ensures.len))
    ∙ ap (λ clause. take c.clauses.at c.args.store.now ++ clause ∷ []) is))
    (marked_with (take c.clauses.at c.args.store.now) c.lits.result.now c.clauses.marks.items
    c.mark.new.marks.items c.clauses.invariant c.mark.ensures)
