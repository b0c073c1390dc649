-- Sources and sinks in memory, as contracts see them.
use Rattle.std.specs.Prelude.{◌≤◌, ◌<◌, ◌+◌, ◌-◌, ◌^◌, ◌++◌, ◌⊎◌, ℕ, Bool, true, List, Option, Some}
use Rattle.std.specs.Prelude.{None, Result, Ok, Err, length, take, drop, min, Contains, not, ◌&&◌}
use Rattle.std.specs.Prelude.{nat_le, if◌then◌else◌}
use Rattle.byte_edges.specs.Faults.{one_more}

-- the call after so many has its number, counted from 1, in the list; past the end of the type no
-- call has a number
pub record IsListed (fails : List ℕ) (calls : ℕ) : Type 0 where
  pub numbered : calls + 1 < 2 ^ 64
  pub listed : Contains fails (calls + 1)

-- a source: the bytes left, at most how many one call moves, which calls fail, and how many were
-- made and failed
pub record SourceState : Type 0 where
  pub left : List ℕ
  pub most : ℕ
  pub fails : List ℕ
  pub calls : ℕ
  pub faults : ℕ

-- how many bytes a read into so much room moves
abbrev pub read_count : SourceState → ℕ → ℕ
read_count source room = min source.most (min room (length source.left))

-- a source after a read
abbrev pub after_read : {E : Type 0} → SourceState → Result ℕ E → SourceState
after_read source (Ok n) =
    record source { left = drop n source.left; calls = one_more source.calls }
after_read source (Err e) =
    record source { calls = one_more source.calls; faults = one_more source.faults }

-- a sink: the bytes written, for how many it has room, and the rest as for a source
pub record SinkState : Type 0 where
  pub written : List ℕ
  pub room : ℕ
  pub most : ℕ
  pub fails : List ℕ
  pub calls : ℕ
  pub faults : ℕ

-- the next write fails: its number is listed, or no room is left
abbrev pub RefusesWrite : SinkState → Type 0
RefusesWrite sink = IsListed sink.fails sink.calls ⊎ (sink.room ≤ length sink.written)

-- how many of so many bytes a write takes
abbrev pub write_count : SinkState → ℕ → ℕ
write_count sink count = min sink.most (min count (sink.room - length sink.written))

-- a sink after a write of these bytes
abbrev pub after_write : {E : Type 0} → SinkState → List ℕ → Result ℕ E → SinkState
after_write sink bytes (Ok n) =
    record sink { written = sink.written ++ take n bytes; calls = one_more sink.calls }
after_write sink bytes (Err e) =
    record sink { calls = one_more sink.calls; faults = one_more sink.faults }

-- a sink that never fails: the bytes kept, for how many it has room, and whether a write didn't fit
pub record SteadyState : Type 0 where
  pub kept : List ℕ
  pub room : ℕ
  pub overflowed : Bool

-- what a steady sink tells: nothing once a write didn't fit
abbrev pub told_by : SteadyState → Option (List ℕ)
told_by sink = if sink.overflowed then None else Some sink.kept

-- whether a write of so many bytes fits
abbrev pub fits : SteadyState → ℕ → Bool
fits sink count = not sink.overflowed && nat_le (length sink.kept + count) sink.room

-- a steady sink after a write of these bytes: they are kept where they fit, and else none from then
-- on
abbrev pub after_steady_write : SteadyState → List ℕ → SteadyState
after_steady_write sink bytes =
    if fits sink (length bytes)
    then record sink { kept = sink.kept ++ bytes }
    else record sink { overflowed = true }

-- a page: the bytes written, and how many writes failed
pub record PageState : Type 0 where
  pub written : List ℕ
  pub faults : ℕ
