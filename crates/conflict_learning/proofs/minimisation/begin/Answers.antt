use Rattle.std.proofs.Common.{get_or, sym, subst}
use Rattle.std.specs.Prelude.{All}
use Rattle.clause_store.specs.Clause.{IsOver}
use Rattle.conflict_learning.proofs.AssignedLemmas.{false_over}
use Rattle.conflict_learning.proofs.minimisation.begin.Goals as goal

pub cover_all-requires-clause-over : goal.cover_all-requires-clause-over
cover_all-requires-clause-over c =
    subst (All (IsOver c.args.trail.now.vars)) (sym c.as_slice.ensures)
    (λ k d inside. false_over c.args.trail.now (get_or c.args.learned.now.clause k d)
    c.begin-judge.ensures.ready.is_trail (c.requires.is_false k d inside))
