-- What an actor has seen and done after a step. An actor meets a word where it sees the word as it
-- stands after the step.
use Rattle.std.specs.Prelude.{◌+◌, ℕ, nat_eq, nat_lt, ◌&&◌, if◌then◌else◌, replicate, max, Some}
use Rattle.std.specs.Prelude.{None}
use Rattle.std.specs.Prelude.{slice_set}
use Rattle.anytime_core.specs.declared.event.Event.{Event}
use Rattle.anytime_core.specs.declared.actor.Actor.{Actor}
use Rattle.anytime_core.specs.Bits.{both}

-- an actor that has seen nothing, over so many words
abbrev pub newcomer : ℕ → Actor
newcomer words =
    record {
      seen = replicate words 0;
      places = 0;
      steps = 0;
      met = replicate words 0;
      last = None;
    }

-- an actor makes a step that teaches it nothing
abbrev pub steps_once : Actor → Event → Actor
steps_once actor event = record actor { steps = actor.steps + 1; last = Some event }

-- an actor meets the word at a place
abbrev pub meets_word : Actor → Event → ℕ → ℕ → Actor
meets_word actor event place word =
    record (steps_once actor event) {
      seen = slice_set actor.seen place word;
      met = slice_set actor.met place (actor.steps + 1);
    }

-- an actor has seen so many places of the log
abbrev pub sees_places : Actor → Event → ℕ → Actor
sees_places actor event places = record (steps_once actor event) { places = places }

-- an actor has seen what both have seen, with no step of its own
abbrev pub told_by : Actor → Actor → Actor
told_by actor other =
    record actor {
      seen = both actor.seen other.seen;
      places = max actor.places other.places;
    }

-- the number of places seen after a look at one: one more where it is the next one and is there
abbrev pub places_after : ℕ → ℕ → ℕ → ℕ
places_after seen place there =
    if nat_eq place seen && nat_lt seen there then seen + 1 else seen
