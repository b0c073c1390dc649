-- Which events are legal.
use Rattle.std.specs.Prelude.{◌≢◌, ◌≤◌, ◌<◌, ◌+◌, ◌↔◌, ℕ, Bool, List, [], ◌∷◌, length, IsTrue, ⊤}
use Rattle.clause_store.specs.declared.theory_says.Short.{Short}
use Rattle.anytime_core.specs.declared.event.Event.{Event}
use Rattle.anytime_core.specs.declared.event.Event.TheVariants.{ReportIn, ReportOut, ReportState}
use Rattle.anytime_core.specs.declared.event.Event.TheVariants.{ReadWord, Append, ReadPlace}
use Rattle.anytime_core.specs.declared.event.Event.TheVariants.{Copy, Meet}
use Rattle.anytime_core.specs.Bits.{HasBit, words_for}
use Rattle.anytime_core.specs.Truth.{IsTrueIn, IsTrueOut, IsCoherent}
use Rattle.short_clauses.specs.Shareable.{IsShareable}
use Rattle.anytime_core.specs.Machine.{Machine, candidates_of, actor_at, after}

-- the actor of a number exists
abbrev pub HasActor : Machine → ℕ → Type 0
HasActor machine number = number < length machine.actors

-- a report that candidates are consequences: each bit of the mask is one's, and that is one
pub record IsLegalIn (machine : Machine) (number word mask : ℕ) : Type 0 where
  pub actor : HasActor machine number
  pub exists : word < words_for (candidates_of machine)
  pub bits : (bit : ℕ) → HasBit mask bit → IsTrueIn machine.normal machine.mode (1 + word) bit

-- a report that candidates aren't
pub record IsLegalOut (machine : Machine) (number word mask : ℕ) : Type 0 where
  pub actor : HasActor machine number
  pub exists : word < words_for (candidates_of machine)
  pub bits : (bit : ℕ) → HasBit mask bit
      → IsTrueOut machine.normal machine.mode
      (1 + words_for (candidates_of machine) + word) bit

-- a report on whether there is an answer set
pub record IsLegalState (machine : Machine) (number : ℕ) (coherent : Bool) : Type 0 where
  pub actor : HasActor machine number
  pub holds : IsTrue coherent ↔ IsCoherent machine.normal

-- a look at a word
pub record IsLegalRead (machine : Machine) (number word : ℕ) : Type 0 where
  pub actor : HasActor machine number
  pub exists : word < length machine.words

-- a clause for the log, which has room
pub record IsLegalAppend (machine : Machine) (number : ℕ) (clause : Short) : Type 0 where
  pub actor : HasActor machine number
  pub shareable : IsShareable machine.normal clause
  pub room : length machine.log < machine.room

-- a look at a place of the log: the next one, or one that was seen
pub record IsLegalPlace (machine : Machine) (number place : ℕ) : Type 0 where
  pub actor : HasActor machine number
  pub exists : place < machine.room
  pub next : place ≤ (actor_at machine number).places

-- an actor tells another
pub record IsLegalPair (machine : Machine) (one other : ℕ) : Type 0 where
  pub first : HasActor machine one
  pub second : HasActor machine other
  pub differ : one ≢ other

-- the event may come next
abbrev pub IsLegal : Machine → Event → Type 0
IsLegal machine (ReportIn actor word mask) = IsLegalIn machine actor word mask
IsLegal machine (ReportOut actor word mask) = IsLegalOut machine actor word mask
IsLegal machine (ReportState actor coherent) = IsLegalState machine actor coherent
IsLegal machine (ReadWord actor word) = IsLegalRead machine actor word
IsLegal machine (Append actor clause) = IsLegalAppend machine actor clause
IsLegal machine (ReadPlace actor place) = IsLegalPlace machine actor place
IsLegal machine (Copy from to) = IsLegalPair machine from to
IsLegal machine (Meet into from) = IsLegalPair machine into from

-- each event of a list may come in its turn
abbrev pub AreLegal : Machine → List Event → Type 0
AreLegal machine [] = ⊤
AreLegal machine (event ∷ rest) = IsLegal machine event × AreLegal (after machine event) rest

-- the actor whose step an event is
abbrev pub steps_by : Event → ℕ
steps_by (ReportIn actor word mask) = actor
steps_by (ReportOut actor word mask) = actor
steps_by (ReportState actor coherent) = actor
steps_by (ReadWord actor word) = actor
steps_by (Append actor clause) = actor
steps_by (ReadPlace actor place) = actor
steps_by (Copy from to) = from
steps_by (Meet into from) = into
