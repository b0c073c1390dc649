-- The laws of the machine: what holds after every list of legal events. Each is a clause of a
-- function in src/laws.rt.
use Rattle.std.specs.Prelude.{◌≡◌, ◌≤◌, ◌+◌, ℕ, List, ◌∷◌, ◌++◌, length, All, ⊤}
use Rattle.ground_program.specs.declared.program.Mode.{Mode}
use Rattle.ground_program.specs.declared.program.Program.{Program}
use Rattle.ground_program.specs.declared.pair.Pair.{Pair}
use Rattle.ground_program.specs.Bounds.{IsCandidate, HasCandidate, IsWithin, Encloses}
use Rattle.clause_store.specs.declared.theory_says.Short.{Short}
use Rattle.normal_program.specs.declared.normal.Normal.{Normal}
use Rattle.normal_program.specs.Normal.{IsNormalFormOf}
use Rattle.anytime_core.specs.declared.event.Event.{Event}
use Rattle.anytime_core.specs.declared.event.Event.TheVariants.{ReportIn, ReportOut, ReportState}
use Rattle.anytime_core.specs.declared.event.Event.TheVariants.{ReadWord, Append, ReadPlace}
use Rattle.anytime_core.specs.declared.event.Event.TheVariants.{Copy, Meet}
use Rattle.anytime_core.specs.declared.actor.Actor.{Actor}
use Rattle.anytime_core.specs.Bits.{HasBit, IsPairOf, IsPartOf, all_words, in_place, out_place}
use Rattle.anytime_core.specs.Bits.{bit_of, words_for}
use Rattle.anytime_core.specs.Truth.{EnclosesN, AreTrue}
use Rattle.short_clauses.specs.Shareable.{IsShareable}
use Rattle.anytime_core.specs.Machine.{Machine, candidates_of, actor_at, opening, after, after_all}
use Rattle.anytime_core.specs.Legal.{HasActor, IsLegal, AreLegal, steps_by}

-- an actor has seen no bit that the words lack, and of the log no more than there is
pub record IsActorOf (machine : Machine) (actor : Actor) : Type 0 where
  pub seen_length : length actor.seen ≡ all_words (candidates_of machine)
  pub met_length : length actor.met ≡ all_words (candidates_of machine)
  pub part : IsPartOf actor.seen machine.words
  pub front : actor.places ≤ length machine.log

-- what holds of the machine at all times: its words are true, the clauses of its log hold in every
-- answer set, and no actor has seen what isn't there
pub record IsSound (machine : Machine) : Type 0 where
  pub row : length machine.words ≡ all_words (candidates_of machine)
  pub true_words : AreTrue machine.normal machine.mode machine.words
  pub true_log : All (IsShareable machine.normal) machine.log
  pub within : length machine.log ≤ machine.room
  pub each : All (IsActorOf machine) machine.actors

-- the pair of an actor
abbrev pub IsPairAt : Machine → ℕ → Pair → Type 0
IsPairAt machine number pair =
    IsPairOf (candidates_of machine) (actor_at machine number).seen pair

-- each actor's pair encloses the consequences
abbrev pub EachEncloses : Machine → Type 0
EachEncloses machine =
    (number : ℕ) (pair : Pair) → HasActor machine number → IsPairAt machine number pair
    → EnclosesN machine.normal machine.mode pair

-- what an actor knew it knows
pub record KnowsMore (earlier later : Actor) : Type 0 where
  pub words : IsPartOf earlier.seen later.seen
  pub log : earlier.places ≤ later.places

-- what stays from one state to a later one: what the run is about, the places of the log, and what
-- each actor has seen
pub record IsLater (earlier later : Machine) : Type 0 where
  pub normal : later.normal ≡ earlier.normal
  pub mode : later.mode ≡ earlier.mode
  pub room : later.room ≡ earlier.room
  pub count : length later.actors ≡ length earlier.actors
  pub log : (more : List Short) × (later.log ≡ earlier.log ++ more)
  pub each : (number : ℕ) → HasActor earlier number
      → KnowsMore (actor_at earlier number) (actor_at later number)

-- a pair holds what an event reports
abbrev pub HoldsReport : Machine → Event → Pair → Type 0
HoldsReport machine (ReportIn actor word mask) pair =
    (cand : ℕ) → IsCandidate machine.normal.names cand → in_place cand ≡ 1 + word
    → HasBit mask (bit_of cand) → HasCandidate pair.lower cand
HoldsReport machine (ReportOut actor word mask) pair =
    (cand : ℕ) → IsCandidate machine.normal.names cand
    → out_place (candidates_of machine) cand ≡ 1 + words_for (candidates_of machine) + word
    → HasBit mask (bit_of cand) → ¬ HasCandidate pair.upper cand
HoldsReport machine (ReportState actor coherent) pair = ⊤
HoldsReport machine (ReadWord actor word) pair = ⊤
HoldsReport machine (Append actor clause) pair = ⊤
HoldsReport machine (ReadPlace actor place) pair = ⊤
HoldsReport machine (Copy from to) pair = ⊤
HoldsReport machine (Meet into from) pair = ⊤

-- after an event in which an actor takes in what two have seen, its pair lies within both pairs
abbrev pub IsToldBoth : Machine → Event → ℕ → ℕ → Type 0
IsToldBoth machine event to from =
    (pair one other : Pair) → IsPairAt (after machine event) to pair
    → IsPairAt machine to one → IsPairAt machine from other
    → IsWithin pair one × IsWithin pair other

-- after every list of legal events from the opening the machine is sound
abbrev pub StaysSound : Type 0
StaysSound =
    (normal : Normal) (mode : Mode) (actors room : ℕ) (events : List Event)
    → AreLegal (opening normal mode actors room) events
    → IsSound (after_all (opening normal mode actors room) events)

-- so each actor's pair encloses the consequences
abbrev pub AlwaysEncloses : Type 0
AlwaysEncloses =
    (normal : Normal) (mode : Mode) (actors room : ℕ) (events : List Event)
    → AreLegal (opening normal mode actors room) events
    → EachEncloses (after_all (opening normal mode actors room) events)

-- legal events leave a sound machine sound, and it is a later one
abbrev pub EventsKeep : Type 0
EventsKeep =
    (machine : Machine) (events : List Event) → IsSound machine → AreLegal machine events
    → IsSound (after_all machine events) × IsLater machine (after_all machine events)

-- an actor's pair at a later state lies within its pair before
abbrev pub PairsNarrow : Type 0
PairsNarrow =
    (earlier later : Machine) (number : ℕ) (before now : Pair) → IsLater earlier later
    → HasActor earlier number → IsPairAt earlier number before → IsPairAt later number now
    → IsWithin now before

-- an actor's pair holds each of its reports, from the event on
abbrev pub ReportsAreHeld : Type 0
ReportsAreHeld =
    (machine : Machine) (event : Event) (later : List Event) (pair : Pair) → IsSound machine
    → AreLegal machine (event ∷ later)
    → IsPairAt (after_all machine (event ∷ later)) (steps_by event) pair
    → HoldsReport machine event pair

-- who is told, by Copy or by Meet, has a pair within both pairs
abbrev pub ToldHaveBoth : Type 0
ToldHaveBoth =
    (machine : Machine) (one other : ℕ) → IsSound machine
    → (IsLegal machine (Copy one other) → IsToldBoth machine (Copy one other) other one)
    × (IsLegal machine (Meet one other) → IsToldBoth machine (Meet one other) one other)

-- what encloses the consequences of a normal form encloses those of the program
abbrev pub EnclosesTheProgram : Type 0
EnclosesTheProgram =
    (normal : Normal) (program : Program) (mode : Mode) (pair : Pair)
    → IsNormalFormOf normal program → EnclosesN normal mode pair → Encloses program mode pair
