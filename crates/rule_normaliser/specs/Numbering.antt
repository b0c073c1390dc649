-- What one more body does to numbered ones. No public clause cites this module.
use Rattle.std.specs.Prelude.{◌≡◌, ◌≢◌, ◌⊎◌, ℕ, Some, slice_get, length, List, [], ◌∷◌, ◌++◌}
use Rattle.std.specs.Prelude.{All}
use Rattle.normal_program.specs.declared.normal.BodyOf.{BodyOf}

-- a body gets a number: its own where it is there, else the next
abbrev pub Numbers : List BodyOf → BodyOf → List BodyOf → ℕ → Type 0
Numbers old body new number =
    (new ≡ old) × (slice_get old number ≡ Some body)
    ⊎ All (λ other. other ≢ body) old × (new ≡ old ++ body ∷ []) × (number ≡ length old)
