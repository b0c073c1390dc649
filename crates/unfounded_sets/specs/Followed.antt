-- What contracts see of the founding of a normal form, and what is kept of it between two calls.
use Rattle.std.specs.Prelude.{Bool, List}
use Rattle.clause_store.specs.declared.step.Step.{Step}
use Rattle.clause_store.specs.Standing.{Followed}
use Rattle.normal_program.specs.declared.normal.Normal.{Normal}
use Rattle.normal_program.specs.Range.{IsInRange}
use Rattle.unfounded_sets.specs.declared.grown.Grown.{Grown}
use Rattle.unfounded_sets.specs.declared.places.Places.{Places}
use Rattle.unfounded_sets.specs.declared.sources.Sources.{Sources}
use Rattle.unfounded_sets.specs.Grown.{IsGrown}
use Rattle.unfounded_sets.specs.Placed.{ArePlaces}
use Rattle.unfounded_sets.specs.Rounds.{AreTables}
use Rattle.unfounded_sets.specs.Sources.{AreSources}

-- the normal form, and the assignments that are followed
pub record Founding : Type 0 where
  pub normal : Normal
  pub followed : List Followed

-- the tables, where atoms and bodies stand, sources that follow the assignments, and the set that
-- was grown last
pub record AreKept (normal : Normal) (founded part wanted : List Bool) (places : Places)
    (sources : Sources) (grown : Grown) (followed : List Step) : Type 0 where
  pub range : IsInRange normal
  pub tables : AreTables normal founded part wanted
  pub places_are : ArePlaces normal places
  pub sources_are : AreSources normal followed sources
  pub grown_is : IsGrown normal grown
