use Rattle.std.proofs.Common.{◌≡◌, false, take}
use Rattle.std.specs.List.{list_any}
use Rattle.clause_store.specs.Clause.{negation}
use Rattle.normal_program.specs.Clauses.{has_lit}
use Rattle.completion.proofs.draft.has_opposites.Given as goal

abbrev pub invariant-loop-lit : goal.invariant-loop-lit
invariant-loop-lit l =
    list_any (λ lit. has_lit l.lits (negation lit)) (take l.lit-index l.lits) ≡ false
