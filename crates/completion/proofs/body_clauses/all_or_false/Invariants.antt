use Rattle.std.proofs.Common.{◌≡◌, ◌∷◌, map, take}
use Rattle.clause_store.specs.Clause.{negation}
use Rattle.normal_program.specs.Clauses.{positive, each_once}
use Rattle.completion.proofs.body_clauses.all_or_false.Given as goal

abbrev pub invariant-loop-lit : goal.invariant-loop-lit
invariant-loop-lit l =
    l.draft ≡ each_once (positive l.fn.var.0 ∷ map negation (take l.lit-index l.lits))
