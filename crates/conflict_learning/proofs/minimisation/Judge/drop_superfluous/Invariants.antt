use Rattle.conflict_learning.proofs.MinimisationLemmas.{IsDropping}
use Rattle.conflict_learning.proofs.minimisation.Judge.drop_superfluous.Given as goal

abbrev pub invariant-loop-at : goal.invariant-loop-at
invariant-loop-at l =
    IsDropping l.store l.trail l.initial.clause l.self l.clause l.kept l.at
