-- What the code of a step leaves is the machine after the event.
use Rattle.std.proofs.Common.{◌≡◌, ◌<◌, ℕ, List, length, get_or, set, sym, ap, subst, ◌∙◌, max}
use Rattle.std.proofs.Common.{ext_get_or, set-set}
use Rattle.std.specs.Prelude.{bit_or, slice_index}
use Rattle.std.proofs.lemmas.List.{get_or-set_same, get_or_default}
use Rattle.anytime_core.specs.declared.event.Event.{Event}
use Rattle.anytime_core.specs.declared.actor.Actor.{Actor}
use Rattle.anytime_core.specs.Bits.{both}
use Rattle.anytime_core.specs.Knowing.{newcomer, steps_once, told_by}
use Rattle.anytime_core.specs.Actors.{actor_of}
use Rattle.anytime_core.specs.Machine.{Machine, after}
use Rattle.anytime_core.specs.Legal.{IsLegal}
use Rattle.anytime_core.specs.Laws.{IsSound}
use Rattle.anytime_core.proofs.BitLemmas.{both_at, length-both}
use Rattle.anytime_core.proofs.MachineLemmas.{sound_after}

-- what the code leaves is sound
pub kept : (old later : Machine) (event : Event) → later ≡ after old event → IsSound old
    → IsLegal old event → IsSound later
kept old later event is sound legal = subst IsSound (sym is) (sound_after old event sound legal)

-- a row of words that has the bits of both at each place
pub both_is : (ones others words : List ℕ) → length words ≡ length ones
    → length ones ≡ length others
    → ((at : ℕ) → at < length others
    → slice_index words at ≡ bit_or (slice_index ones at) (slice_index others at))
    → words ≡ both ones others
both_is ones others words length_is same each =
    ext_get_or 0 words (both ones others) (length_is ∙ sym (length-both ones others same))
    (λ at within. each at (subst (λ n. at < n) (length_is ∙ same) within)
    ∙ sym (both_at ones others at))

-- an actor is written twice
pub twice : (actors : List Actor) (number : ℕ) (told : Actor) (event : Event)
    → number < length actors
    → set (set actors number told) number
    (steps_once (actor_of (set actors number told) number) event)
    ≡ set actors number (steps_once told event)
twice actors number told event has =
    ap (λ (a : Actor). set (set actors number told) number (steps_once a event))
    (get_or-set_same actors number told (newcomer 0) has)
    ∙ set-set actors number told (steps_once told event)

-- the actor at a place that was read, whatever stands for a missing one
pub found_is : (actors : List Actor) (number : ℕ) (found : Actor) → number < length actors
    → found ≡ get_or actors number found → found ≡ actor_of actors number
found_is actors number found has is =
    is ∙ get_or_default actors number found (newcomer 0) has

-- an actor that was emptied and then filled is the one that was told
module _ (actors : List Actor) (to from : ℕ) (hollow first second filled : Actor)
    (has : to < length actors) (first_is : first ≡ actor_of actors to)
    (second_is : second ≡ actor_of (set actors to hollow) to)
    (steps : hollow.steps ≡ first.steps) (met : hollow.met ≡ first.met)
    (last : hollow.last ≡ first.last)
    (seen : filled.seen ≡ both (actor_of actors to).seen (actor_of actors from).seen)
    (places : filled.places ≡ max (actor_of actors to).places (actor_of actors from).places)
    (same_steps : filled.steps ≡ second.steps) (same_met : filled.met ≡ second.met)
    (same_last : filled.last ≡ second.last) where
  second_hollow : second ≡ hollow
  second_hollow = second_is ∙ get_or-set_same actors to hollow (newcomer 0) has

  told : filled ≡ told_by (actor_of actors to) (actor_of actors from)
  told i =
      record {
        seen = seen i;
        places = places i;
        steps = (same_steps ∙ ap (λ (a : Actor). a.steps) second_hollow ∙ steps
            ∙ ap (λ (a : Actor). a.steps) first_is) i;
        met = (same_met ∙ ap (λ (a : Actor). a.met) second_hollow ∙ met
            ∙ ap (λ (a : Actor). a.met) first_is) i;
        last = (same_last ∙ ap (λ (a : Actor). a.last) second_hollow ∙ last
            ∙ ap (λ (a : Actor). a.last) first_is) i;
      }

  pub told_is_set : set (set actors to hollow) to filled
      ≡ set actors to (told_by (actor_of actors to) (actor_of actors from))
  told_is_set = set-set actors to hollow filled ∙ ap (λ (a : Actor). set actors to a) told
