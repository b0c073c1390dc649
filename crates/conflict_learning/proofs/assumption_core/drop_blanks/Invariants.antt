use Rattle.std.proofs.Common.{not}
use Rattle.std.proofs.lemmas.List.Filters.{FiltersInPlace}
use Rattle.conflict_learning.specs.Cells.{is_blank}
use Rattle.conflict_learning.proofs.assumption_core.drop_blanks.Given as goal

abbrev pub invariant-loop-at : goal.invariant-loop-at
invariant-loop-at l = FiltersInPlace (λ lit. not (is_blank lit)) l.initial.core l.core l.kept l.at
