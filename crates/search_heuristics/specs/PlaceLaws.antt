-- Laws of the places that are kept for levels. Each is a clause of a function in src/laws.rt.
use Rattle.std.specs.Prelude.{◌≡◌, ◌++◌, ℕ, List, All}
use Rattle.clause_store.specs.declared.literal.Lit.{Lit}
use Rattle.clause_store.specs.declared.step.Step.{Step}
use Rattle.clause_store.specs.Trail.{present_level, up_to}
use Rattle.search_heuristics.specs.Places.{AreTrueBefore}

-- places stay right when assignments of the present level come last
abbrev pub PlacesWithMore : Type 0
PlacesWithMore =
    (assumed : List Lit) (old new added : List Step) (places : List ℕ) → new ≡ old ++ added
    → All (λ step. step.level ≡ present_level old) added → AreTrueBefore assumed old places
    → AreTrueBefore assumed new places

-- and when the trail goes back
abbrev pub PlacesAfterBack : Type 0
PlacesAfterBack =
    (assumed : List Lit) (old new : List Step) (level : ℕ) (places : List ℕ)
    → new ≡ up_to level old → AreTrueBefore assumed old places → AreTrueBefore assumed new places
