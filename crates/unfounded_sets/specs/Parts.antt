-- Parts of an array of numbers. No public clause cites this module.
use Rattle.std.specs.Prelude.{◌≤◌, ℕ, List, slice_range}
use Rattle.unfounded_sets.specs.declared.lists.Span.{Span}

-- a part of an array
abbrev pub part_of : List ℕ → Span → List ℕ
part_of entries span = slice_range entries span.start span.end

-- it stands within an array of that length
pub record IsSpan (size : ℕ) (span : Span) : Type 0 where
  pub order : span.start ≤ span.end
  pub within : span.end ≤ size
