-- Words for the list of actors. No public clause cites this module.
use Rattle.std.specs.Prelude.{◌<◌, ◌-◌, ◌^◌, ℕ, List, length, slice_index_or}
use Rattle.anytime_core.specs.declared.actor.Actor.{Actor}
use Rattle.anytime_core.specs.Knowing.{newcomer}

-- the actor of a number
abbrev pub actor_of : List Actor → ℕ → Actor
actor_of actors number = slice_index_or actors number (newcomer 0)

-- the actor exists, and its next step has a number
pub record CanStep (actors : List Actor) (number : ℕ) : Type 0 where
  pub exists : number < length actors
  pub few : (actor_of actors number).steps < 2 ^ 64 - 1

-- the actor has a word at the place
pub record HasWord (actors : List Actor) (number place : ℕ) : Type 0 where
  pub seen : place < length (actor_of actors number).seen
  pub met : place < length (actor_of actors number).met
