use Rattle.std.specs.Prelude.{◌≢◌, All, take}
use Rattle.clause_store.specs.declared.literal.Value.TheVariants.{Unset}
use Rattle.clause_store.specs.Trail.{value_of}
use Rattle.trial_engine.proofs.trials.listed.first_unset.Given as goal

abbrev pub invariant-loop-lit : goal.invariant-loop-lit
invariant-loop-lit l = All (λ lit. value_of l.trail.steps lit ≢ Unset) (take l.lit-index l.lits)
