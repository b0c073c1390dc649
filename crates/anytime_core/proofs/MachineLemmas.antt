-- A legal event leaves the machine sound.
use Rattle.std.proofs.Common.{◌≡◌, ◌<◌, ◌≤◌, ◌+◌, ℕ, Bool, true, false, max}
use Rattle.std.proofs.Common.{List, [], ◌∷◌, ◌++◌, length, get_or, set, replicate, refl, sym, ap}
use Rattle.std.proofs.Common.{subst}
use Rattle.std.proofs.Common.{◌∙◌, arith, length-append, length-set, le_trans, le_refl, zero-le}
use Rattle.std.proofs.Common.{ltb-true, inl, inr}
use Rattle.std.specs.Prelude.{bit_or, slice_index, if◌then◌else◌, nat_eq, nat_lt, ◌&&◌}
use Rattle.std.proofs.lemmas.List.{get_or-set_same, get_or-replicate}
use Rattle.std.proofs.lemmas.List.{length-replicate}
use Rattle.std.proofs.lemmas.List.Elements.{All-set, All-nil, All-append, All-cons}
use Rattle.ground_program.specs.declared.program.Mode.{Mode}
use Rattle.clause_store.specs.declared.theory_says.Short.{Short}
use Rattle.normal_program.specs.declared.normal.Normal.{Normal}
use Rattle.anytime_core.specs.declared.event.Event.{Event}
use Rattle.anytime_core.specs.declared.event.Event.TheVariants.{ReportIn, ReportOut, ReportState}
use Rattle.anytime_core.specs.declared.event.Event.TheVariants.{ReadWord, Append, ReadPlace}
use Rattle.anytime_core.specs.declared.event.Event.TheVariants.{Copy, Meet}
use Rattle.anytime_core.specs.declared.actor.Actor.{Actor}
use Rattle.anytime_core.specs.Bits.{IsPartOf, all_words, words_for}
use Rattle.anytime_core.specs.Truth.{IsTrueWord}
use Rattle.short_clauses.specs.Shareable.{IsShareable}
use Rattle.anytime_core.specs.Knowing.{newcomer, steps_once, meets_word, sees_places, told_by}
use Rattle.anytime_core.specs.Knowing.{places_after}
use Rattle.anytime_core.specs.Machine.{Machine, candidates_of, actor_at, with_actor, puts_bits}
use Rattle.anytime_core.specs.Machine.{opening, after, flag_of}
use Rattle.anytime_core.specs.Legal.{HasActor, IsLegal}
use Rattle.anytime_core.specs.Laws.{IsActorOf, IsSound}
use Rattle.anytime_core.proofs.BitLemmas.{part_trans, part_refl, part_with_mask, part_meets}
use Rattle.anytime_core.proofs.BitLemmas.{length-both, both_within, zeros_are_part}
use Rattle.anytime_core.proofs.TruthLemmas.{true_or, true_set, true_zeros, true_flag}

-- an actor of a state is one of a state of the same run with more bits and a longer log
pub actor_stays : (machine later : Machine) (actor : Actor)
    → candidates_of later ≡ candidates_of machine → IsPartOf machine.words later.words
    → length machine.log ≤ length later.log → IsActorOf machine actor → IsActorOf later actor
actor_stays machine later actor same more longer it =
    record {
      seen_length = it.seen_length ∙ sym (ap all_words same);
      met_length = it.met_length ∙ sym (ap all_words same);
      part = part_trans actor.seen machine.words later.words it.part more;
      front = le_trans it.front longer;
    }

-- the actor of a number is one of the machine's
pub actor_is : (machine : Machine) (number : ℕ) → IsSound machine → HasActor machine number
    → IsActorOf machine (actor_at machine number)
actor_is machine number sound has = sound.each number (newcomer 0) has

-- a step that teaches nothing
pub step_is : (machine : Machine) (actor : Actor) (event : Event) → IsActorOf machine actor
    → IsActorOf machine (steps_once actor event)
step_is machine actor event it =
    record {
      seen_length = it.seen_length;
      met_length = it.met_length;
      part = it.part;
      front = it.front;
    }

-- what both have seen
pub told_is : (machine : Machine) (one other : Actor) → IsActorOf machine one
    → IsActorOf machine other → IsActorOf machine (told_by one other)
told_is machine one other first second =
    record {
      seen_length = length-both one.seen other.seen (first.seen_length ∙ sym second.seen_length)
          ∙ first.seen_length;
      met_length = first.met_length;
      part = both_within one.seen other.seen machine.words first.part second.part;
      front = at_most one.places other.places (length machine.log) first.front second.front;
    }
  where
    at_most : (x y n : ℕ) → x ≤ n → y ≤ n → max x y ≤ n
    at_most x y n one' other' = omega arith

-- an actor of a sound machine becomes another of it
pub sound_with : (machine : Machine) (number : ℕ) (actor : Actor) → IsSound machine
    → IsActorOf machine actor → IsSound (with_actor machine number actor)
sound_with machine number actor sound it =
    record {
      row = sound.row;
      true_words = sound.true_words;
      true_log = sound.true_log;
      within = sound.within;
      each = All-set (IsActorOf later) machine.actors number actor (moved actor it)
          (λ k d within. moved (get_or machine.actors k d) (sound.each k d within));
    }
  where
    later : Machine
    later = with_actor machine number actor

    moved : (each : Actor) → IsActorOf machine each → IsActorOf later each
    moved each is =
        record {
          seen_length = is.seen_length;
          met_length = is.met_length;
          part = is.part;
          front = is.front;
        }

-- an actor meets a word
pub sound_meets : (machine : Machine) (event : Event) (number place : ℕ) → IsSound machine
    → HasActor machine number
    → IsSound (with_actor machine number
    (meets_word (actor_at machine number) event place (slice_index machine.words place)))
sound_meets machine event number place sound has =
    let it = actor_is machine number sound has in
    let actor : Actor = actor_at machine number in
    sound_with machine number (meets_word actor event place (slice_index machine.words place)) sound
    record {
      seen_length = length-set actor.seen place (slice_index machine.words place)
          ∙ it.seen_length;
      met_length = length-set actor.met place (actor.steps + 1) ∙ it.met_length;
      part = part_meets actor.seen machine.words place it.part;
      front = it.front;
    }

-- a word gets true bits, and an actor meets it
module _ (machine : Machine) (event : Event) (number place mask : ℕ) (sound : IsSound machine)
    (has : HasActor machine number) (exists : place < length machine.words)
    (trues : IsTrueWord machine.normal machine.mode place mask) where
  abbrev word : ℕ
  word = bit_or (slice_index machine.words place) mask

  abbrev words : List ℕ
  words = set machine.words place word

  abbrev later : Machine
  later = puts_bits machine event number place mask

  moved : (actor : Actor) → IsActorOf machine actor → IsActorOf later actor
  moved actor is =
      record {
        seen_length = is.seen_length;
        met_length = is.met_length;
        part = part_trans actor.seen machine.words words is.part
            (part_with_mask machine.words place mask);
        front = is.front;
      }

  mine : IsActorOf later (meets_word (actor_at machine number) event place word)
  mine =
      let actor : Actor = actor_at machine number in
      let is = moved actor (actor_is machine number sound has) in
      record {
        seen_length = length-set actor.seen place word ∙ is.seen_length;
        met_length = length-set actor.met place (actor.steps + 1) ∙ is.met_length;
        part = subst (λ w. IsPartOf (set actor.seen place w) words)
            (get_or-set_same machine.words place word 0 exists)
            (part_meets actor.seen words place is.part);
        front = is.front;
      }

  pub sound_puts : IsSound (puts_bits machine event number place mask)
  sound_puts =
      record {
        row = length-set machine.words place word ∙ sound.row;
        true_words = true_set machine.normal machine.mode machine.words place word
            sound.true_words
            (true_or machine.normal machine.mode place (slice_index machine.words place) mask
            (sound.true_words place) trues);
        true_log = sound.true_log;
        within = sound.within;
        each = All-set (IsActorOf later) machine.actors number
            (meets_word (actor_at machine number) event place word) mine
            (λ k d within. moved (get_or machine.actors k d) (sound.each k d within));
      }

-- an actor has seen so many places of the log
pub sound_sees : (machine : Machine) (event : Event) (number places : ℕ) → IsSound machine
    → HasActor machine number → places ≤ length machine.log
    → IsSound (with_actor machine number (sees_places (actor_at machine number) event places))
sound_sees machine event number places sound has front =
    let it = actor_is machine number sound has in
    sound_with machine number (sees_places (actor_at machine number) event places) sound
    record {
      seen_length = it.seen_length;
      met_length = it.met_length;
      part = it.part;
      front = front;
    }

-- the log gets a clause
pub sound_longer : (machine : Machine) (clause : Short) → IsSound machine
    → IsShareable machine.normal clause → length machine.log < machine.room
    → IsSound (record machine { log = machine.log ++ clause ∷ [] })
sound_longer machine clause sound shareable room =
    record {
      row = sound.row;
      true_words = sound.true_words;
      true_log = All-append (IsShareable machine.normal) machine.log (clause ∷ [])
          sound.true_log
          (All-cons (IsShareable machine.normal) clause [] shareable
          (All-nil (IsShareable machine.normal)));
      within = let longer : length (machine.log ++ clause ∷ []) ≡ length machine.log + 1 =
          length-append machine.log (clause ∷ []) in omega arith;
      each = λ k d within. moved (get_or machine.actors k d) (sound.each k d within);
    }
  where
    later : Machine
    later = record machine { log = machine.log ++ clause ∷ [] }

    moved : (each : Actor) → IsActorOf machine each → IsActorOf later each
    moved each is =
        let longer : length (machine.log ++ clause ∷ []) ≡ length machine.log + 1 =
        length-append machine.log (clause ∷ []) in
        let front : each.places ≤ length machine.log = is.front in
        record {
          seen_length = is.seen_length;
          met_length = is.met_length;
          part = is.part;
          front = omega arith;
        }

-- a look sees at most one place more, and only where it is there
pub places_there : (seen place there : ℕ) → seen ≤ there → places_after seen place there ≤ there
places_there seen place there front = by (nat_eq place seen) (nat_lt seen there) refl
  where
    by : (same less : Bool) → nat_lt seen there ≡ less
        → (if same && less then seen + 1 else seen) ≤ there
    by true true is = let more : seen < there = ltb-true seen there is in omega arith
    by true false is = front
    by false true is = front
    by false false is = front

pub sound_after : (machine : Machine) (event : Event) → IsSound machine → IsLegal machine event
    → IsSound (after machine event)
sound_after machine (ReportIn actor word' mask) sound legal =
    sound_puts machine (ReportIn actor word' mask) actor (1 + word') mask sound legal.actor
    (subst (λ n. 1 + word' < n) (sym sound.row)
    (let less : word' < words_for (candidates_of machine) = legal.exists in omega arith))
    (λ bit has. inr (inl (legal.bits bit has)))
sound_after machine (ReportOut actor word' mask) sound legal =
    let side : ℕ = words_for (candidates_of machine) in
    sound_puts machine (ReportOut actor word' mask) actor (1 + side + word') mask sound legal.actor
    (subst (λ n. 1 + side + word' < n) (sym sound.row)
    (let less : word' < side = legal.exists in omega arith))
    (λ bit has. inr (inr (legal.bits bit has)))
sound_after machine (ReportState actor coherent) sound legal =
    sound_puts machine (ReportState actor coherent) actor 0 (flag_of coherent) sound legal.actor
    (subst (λ n. 0 < n) (sym sound.row) (omega arith))
    (true_flag machine.normal machine.mode coherent legal.holds)
sound_after machine (ReadWord actor word') sound legal =
    sound_meets machine (ReadWord actor word') actor word' sound legal.actor
sound_after machine (Append actor clause) sound legal =
    let longer : length (machine.log ++ clause ∷ []) ≡ length machine.log + 1 =
    length-append machine.log (clause ∷ []) in
    sound_sees (record machine { log = machine.log ++ clause ∷ [] }) (Append actor clause) actor
    (length machine.log + 1)
    (sound_longer machine clause sound legal.shareable legal.room) legal.actor
    (omega arith)
sound_after machine (ReadPlace actor place) sound legal =
    sound_sees machine (ReadPlace actor place) actor
    (places_after (actor_at machine actor).places place (length machine.log)) sound legal.actor
    (places_there (actor_at machine actor).places place (length machine.log)
    (actor_is machine actor sound legal.actor).front)
sound_after machine (Copy from to) sound legal =
    let told : Actor = told_by (actor_at machine to) (actor_at machine from) in
    let first = actor_is machine from sound legal.first in
    let second = actor_is machine to sound legal.second in
    sound_with (with_actor machine to told) from (steps_once (actor_at machine from) (Copy from to))
    (sound_with machine to told sound
    (told_is machine (actor_at machine to) (actor_at machine from) second first))
    (actor_stays machine (with_actor machine to told)
    (steps_once (actor_at machine from) (Copy from to)) refl (part_refl machine.words)
    (le_refl (length machine.log))
    (step_is machine (actor_at machine from) (Copy from to) first))
sound_after machine (Meet into from) sound legal =
    let told : Actor = told_by (actor_at machine into) (actor_at machine from) in
    sound_with machine into (steps_once told (Meet into from)) sound
    (step_is machine told (Meet into from)
    (told_is machine (actor_at machine into) (actor_at machine from)
    (actor_is machine into sound legal.first) (actor_is machine from sound legal.second)))

pub sound_opening : (normal : Normal) (mode : Mode) (actors room : ℕ)
    → IsSound (opening normal mode actors room)
sound_opening normal mode actors room =
    record {
      row = length-replicate count 0;
      true_words = true_zeros normal mode count;
      true_log = All-nil (IsShareable normal);
      within = zero-le;
      each = λ k d within. subst (IsActorOf machine)
          (sym (get_or-replicate actors k (newcomer count) d
          (subst (λ n. k < n) (length-replicate actors (newcomer count)) within))) first;
    }
  where
    count : ℕ
    count = all_words (length normal.names)

    machine : Machine
    machine = opening normal mode actors room

    first : IsActorOf machine (newcomer count)
    first =
        record {
          seen_length = length-replicate count 0;
          met_length = length-replicate count 0;
          part = zeros_are_part count (replicate count 0);
          front = zero-le;
        }
