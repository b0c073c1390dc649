-- What is kept of weight bodies between two calls. No public clause cites this module.
use Rattle.std.specs.Prelude.{Bool, List, All, Any, Option}
use Rattle.clause_store.specs.declared.literal.Lit.{Lit}
use Rattle.clause_store.specs.declared.step.Step.{Step}
use Rattle.clause_store.specs.declared.theory_says.Says.{Says}
use Rattle.clause_store.specs.declared.theory_says.Says.TheVariants.{Quiet, Clause as Given}
use Rattle.clause_store.specs.Trail.{Assigned}
use Rattle.normal_program.specs.declared.normal.Normal.{Normal}
use Rattle.weight_propagator.specs.declared.row.Row.{Row}
use Rattle.weight_propagator.specs.declared.occurrences.Occurrence.{Occurrence}
use Rattle.weight_propagator.specs.declared.tally.Tally.{Tally}
use Rattle.weight_propagator.specs.Rows.{AreRows, RowGives, IsGivenBy}
use Rattle.weight_propagator.specs.Sums.{AreOccurrences, IsInStep, AreApart}

-- the weight bodies with the places of their literals, and sums that follow the assignments
pub record AreKept (inside : Option (List Bool)) (normal : Normal) (rows : List Row)
    (places : List (List Occurrence)) (tally : Tally) (followed : List Step) : Type 0 where
  pub rows_are : AreRows inside normal rows
  pub places_are : AreOccurrences rows places
  pub in_step : IsInStep rows followed tally
  pub apart : AreApart followed

-- what is answered of all kept bodies, with the clause that is written
abbrev pub IsSettled : List Row → Assigned → List Lit → Says → Type 0
IsSettled rows trail clause Quiet = All (λ row. ¬ RowGives trail.steps row) rows
IsSettled rows trail clause Given = Any (λ row. IsGivenBy row trail clause) rows
