-- What one more literal does to merged parts. No public clause cites this module.
use Rattle.std.specs.Prelude.{◌≤◌, List, [], ◌∷◌, ◌++◌, All}
use Rattle.ground_program.specs.declared.program.Weighted.{Weighted}
use Rattle.normal_program.specs.declared.normal.Part.{Part}
use Rattle.normal_program.specs.Body.{rank, IsMerged}

-- the parts of some literals become those of the same and one more, which comes before none of them
abbrev pub KeepsMerged : List Part → Weighted → List Part → Type 0
KeepsMerged old item new =
    (body : List Weighted) → All (λ earlier. rank earlier.lit ≤ rank item.lit) body →
    IsMerged body old → IsMerged (body ++ item ∷ []) new
