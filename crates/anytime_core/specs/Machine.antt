-- The machine of events: what its state is, and what each event does to it.
use Rattle.std.specs.Prelude.{◌+◌, ℕ, Bool, if◌then◌else◌, List, [], ◌∷◌, ◌++◌, length, replicate}
use Rattle.std.specs.Prelude.{slice_index, slice_index_or, slice_set, bit_or}
use Rattle.ground_program.specs.declared.program.Mode.{Mode}
use Rattle.clause_store.specs.declared.theory_says.Short.{Short}
use Rattle.normal_program.specs.declared.normal.Normal.{Normal}
use Rattle.anytime_core.specs.declared.event.Event.{Event}
use Rattle.anytime_core.specs.declared.event.Event.TheVariants.{ReportIn, ReportOut, ReportState}
use Rattle.anytime_core.specs.declared.event.Event.TheVariants.{ReadWord, Append, ReadPlace}
use Rattle.anytime_core.specs.declared.event.Event.TheVariants.{Copy, Meet}
use Rattle.anytime_core.specs.declared.actor.Actor.{Actor}
use Rattle.anytime_core.specs.Bits.{words_for, all_words}
use Rattle.anytime_core.specs.Knowing.{newcomer, steps_once, meets_word, sees_places, told_by}
use Rattle.anytime_core.specs.Knowing.{places_after}

-- the state: what the run is about, the words, the log of clauses with its room, and the actors
pub record Machine : Type 0 where
  pub normal : Normal
  pub mode : Mode
  pub room : ℕ
  pub words : List ℕ
  pub log : List Short
  pub actors : List Actor

-- how many candidates the run is about
abbrev pub candidates_of : Machine → ℕ
candidates_of machine = length machine.normal.names

-- the machine of these parts
abbrev pub machine_of : Normal → Mode → ℕ → List ℕ → List Short → List Actor → Machine
machine_of normal mode room words log actors =
    record {
      normal = normal;
      mode = mode;
      room = room;
      words = words;
      log = log;
      actors = actors;
    }

-- the machine at opening
abbrev pub opening : Normal → Mode → ℕ → ℕ → Machine
opening normal mode actors room =
    machine_of normal mode room (replicate (all_words (length normal.names)) 0) []
    (replicate actors (newcomer (all_words (length normal.names))))

-- the actor of a number
abbrev pub actor_at : Machine → ℕ → Actor
actor_at machine number = slice_index_or machine.actors number (newcomer 0)

-- the actor of a number becomes another
abbrev pub with_actor : Machine → ℕ → Actor → Machine
with_actor machine number actor =
    record machine { actors = slice_set machine.actors number actor }

-- the word at a place gets the bits of a mask, and the actor meets it
abbrev pub puts_bits : Machine → Event → ℕ → ℕ → ℕ → Machine
puts_bits machine event number place mask =
    let word : ℕ = bit_or (slice_index machine.words place) mask in
    record (with_actor machine number (meets_word (actor_at machine number) event place word)) {
      words = slice_set machine.words place word;
    }

-- the flag that says whether there is an answer set
abbrev pub flag_of : Bool → ℕ
flag_of coherent = if coherent then 1 else 2

-- the machine after an event
abbrev pub after : Machine → Event → Machine
after machine (ReportIn actor word mask) =
    puts_bits machine (ReportIn actor word mask) actor (1 + word) mask
after machine (ReportOut actor word mask) =
    puts_bits machine (ReportOut actor word mask) actor
    (1 + words_for (candidates_of machine) + word) mask
after machine (ReportState actor coherent) =
    puts_bits machine (ReportState actor coherent) actor 0 (flag_of coherent)
after machine (ReadWord actor word) =
    with_actor machine actor
    (meets_word (actor_at machine actor) (ReadWord actor word) word
    (slice_index machine.words word))
after machine (Append actor clause) =
    record (with_actor machine actor
    (sees_places (actor_at machine actor) (Append actor clause) (length machine.log + 1))) {
      log = machine.log ++ clause ∷ [];
    }
after machine (ReadPlace actor place) =
    let old : Actor = actor_at machine actor in
    with_actor machine actor
    (sees_places old (ReadPlace actor place) (places_after old.places place (length machine.log)))
after machine (Copy from to) =
    with_actor
    (with_actor machine to (told_by (actor_at machine to) (actor_at machine from))) from
    (steps_once (actor_at machine from) (Copy from to))
after machine (Meet into from) =
    with_actor machine into
    (steps_once (told_by (actor_at machine into) (actor_at machine from)) (Meet into from))

-- the machine after a list of events
abbrev pub after_all : Machine → List Event → Machine
after_all machine [] = machine
after_all machine (event ∷ rest) = after_all (after machine event) rest
