use Rattle.std.proofs.Common.{◌≡◌, take}
use Rattle.clause_store.specs.Entailment.{negations, others}
use Rattle.plain_units.proofs.unit_lists.negated_others.Given as goal

abbrev pub invariant-loop-other : goal.invariant-loop-other
invariant-loop-other l = l.given ≡ negations (others (take l.other-index l.clause) l.lit)
