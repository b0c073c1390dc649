-- What stays from a state to a later one, and what pairs and reports owe to that.
use Rattle.std.proofs.Common.{◌≡◌, ◌<◌, ◌≤◌, ◌+◌, ℕ, Bool, true, false, max, List, [], ◌∷◌}
use Rattle.std.proofs.Common.{◌++◌, length, get_or, set, refl, sym, ap, subst, ◌∙◌, ⊎_elim}
use Rattle.std.proofs.Common.{arith, length-set, le_trans, le_refl, append-nil, append_assoc, not}
use Rattle.std.proofs.Common.{true≢false, rules}
use Rattle.std.specs.Prelude.{bit_or, slice_index, slice_set, if◌then◌else◌, nat_eq, nat_lt}
use Rattle.std.specs.Prelude.{◌&&◌}
use Rattle.std.proofs.lemmas.List.{get_or-set_same, get_or-set_other}
use Rattle.std.proofs.lemmas.Bool.{cases_eq}
use Rattle.ground_program.specs.declared.program.Mode.{Mode}
use Rattle.ground_program.specs.declared.program.Mode.TheVariants.{Cautious, Brave}
use Rattle.ground_program.specs.declared.program.Program.{Program}
use Rattle.ground_program.specs.declared.program.Named.{Named}
use Rattle.ground_program.specs.declared.pair.Pair.{Pair}
use Rattle.ground_program.specs.Meaning.{IsIn}
use Rattle.ground_program.specs.Bounds.{IsCandidate, IsConsequence, HasCandidate, IsWithin}
use Rattle.ground_program.specs.Bounds.{atom_of}
use Rattle.normal_program.specs.declared.normal.Normal.{Normal}
use Rattle.normal_program.specs.Normal.{IsNormalFormOf, SameAnswerSets}
use Rattle.normal_program.proofs.NormalLemmas.{SameAnswerSets-normal_form}
use Rattle.anytime_core.specs.declared.event.Event.{Event}
use Rattle.anytime_core.specs.declared.event.Event.TheVariants.{ReportIn, ReportOut, ReportState}
use Rattle.anytime_core.specs.declared.event.Event.TheVariants.{ReadWord, Append, ReadPlace}
use Rattle.anytime_core.specs.declared.event.Event.TheVariants.{Copy, Meet}
use Rattle.anytime_core.specs.declared.actor.Actor.{Actor}
use Rattle.anytime_core.specs.Bits.{HasBit, IsPairOf, words_for, in_place}
use Rattle.anytime_core.specs.Bits.{out_place, bit_of}
use Rattle.anytime_core.specs.Truth.{IsConsequenceN}
use Rattle.anytime_core.specs.Knowing.{newcomer, steps_once, meets_word, sees_places, told_by}
use Rattle.anytime_core.specs.Knowing.{places_after}
use Rattle.anytime_core.specs.Machine.{Machine, candidates_of, actor_at, with_actor, puts_bits}
use Rattle.anytime_core.specs.Machine.{opening, after, after_all, flag_of}
use Rattle.anytime_core.specs.Legal.{HasActor, IsLegal, AreLegal}
use Rattle.anytime_core.specs.Laws.{IsSound, KnowsMore, IsLater, IsPairAt}
use Rattle.anytime_core.specs.Laws.{StaysSound, AlwaysEncloses, EventsKeep, PairsNarrow}
use Rattle.anytime_core.specs.Laws.{ReportsAreHeld, ToldHaveBoth, EnclosesTheProgram, EachEncloses}
use Rattle.anytime_core.proofs.BitLemmas.{part_trans, part_refl, part_grows, bit_or_left}
use Rattle.anytime_core.proofs.BitLemmas.{bit_or_right, part_of_both_left, part_of_both_right}
use Rattle.anytime_core.proofs.TruthLemmas.{true_part}
use Rattle.anytime_core.proofs.PairLemmas.{encloses, narrows, set_is}
use Rattle.anytime_core.proofs.MachineLemmas.{actor_is, sound_after, sound_opening}

knows_same : (actor : Actor) → KnowsMore actor actor
knows_same actor =
    record { words = part_refl actor.seen; log = le_refl actor.places }

pub later_refl : (machine : Machine) → IsLater machine machine
later_refl machine =
    record {
      normal = refl;
      mode = refl;
      room = refl;
      count = refl;
      log = ([], sym (append-nil machine.log));
      each = λ number has. knows_same (actor_at machine number);
    }

pub later_trans : (one two three : Machine) → IsLater one two → IsLater two three
    → IsLater one three
later_trans one two three first second =
    record {
      normal = second.normal ∙ first.normal;
      mode = second.mode ∙ first.mode;
      room = second.room ∙ first.room;
      count = second.count ∙ first.count;
      log = (
        first.log.0 ++ second.log.0,
        second.log.1 ∙ ap (λ xs. xs ++ second.log.0) first.log.1
            ∙ append_assoc one.log first.log.0 second.log.0,
      );
      each = λ number has.
          let a = first.each number has in
          let b = second.each number (subst (λ n. number < n) (sym first.count) has) in
          record {
            words = part_trans (actor_at one number).seen (actor_at two number).seen
                (actor_at three number).seen a.words b.words;
            log = le_trans a.log b.log;
          };
    }

-- one actor comes to know more, and the others are as before
each_with : (actors : List Actor) (number : ℕ) (new : Actor)
    → KnowsMore (get_or actors number (newcomer 0)) new
    → (other : ℕ) → other < length actors
    → KnowsMore (get_or actors other (newcomer 0))
    (get_or (set actors number new) other (newcomer 0))
each_with actors number new more other has =
    ⊎_elim
    (λ same. subst (λ n. KnowsMore (get_or actors n (newcomer 0))
    (get_or (set actors number new) n (newcomer 0))) (sym same)
    (subst (KnowsMore (get_or actors number (newcomer 0)))
    (sym (get_or-set_same actors number new (newcomer 0) (subst (λ n. n < length actors) same has)))
    more))
    (λ differ. subst (KnowsMore (get_or actors other (newcomer 0)))
    (sym (get_or-set_other actors number other new (newcomer 0) differ))
    (knows_same (get_or actors other (newcomer 0))))
    (cases_eq other number)

-- a state in which one actor knows more
later_with : (machine : Machine) (number : ℕ) (new : Actor)
    → KnowsMore (actor_at machine number) new → IsLater machine (with_actor machine number new)
later_with machine number new more =
    record {
      normal = refl;
      mode = refl;
      room = refl;
      count = length-set machine.actors number new;
      log = ([], sym (append-nil machine.log));
      each = each_with machine.actors number new more;
    }

-- an actor that meets a word with all bits that it has seen of it
meets_more : (actor : Actor) (event : Event) (place word : ℕ)
    → ((bit : ℕ) → HasBit (slice_index actor.seen place) bit → HasBit word bit)
    → KnowsMore actor (meets_word actor event place word)
meets_more actor event place word grows =
    record { words = part_grows actor.seen place word grows; log = le_refl actor.places }

-- other words make no state earlier
later_words : (machine next : Machine) (words : List ℕ) → IsLater machine next
    → IsLater machine (record next { words = words })
later_words machine next words is =
    record {
      normal = is.normal;
      mode = is.mode;
      room = is.room;
      count = is.count;
      log = is.log;
      each = is.each;
    }

later_puts : (machine : Machine) (event : Event) (number place mask : ℕ) → IsSound machine
    → HasActor machine number → IsLater machine (puts_bits machine event number place mask)
later_puts machine event number place mask sound has =
    let word : ℕ = bit_or (slice_index machine.words place) mask in
    let new : Actor = meets_word (actor_at machine number) event place word in
    later_words machine (with_actor machine number new) (slice_set machine.words place word)
    (later_with machine number new
    (meets_more (actor_at machine number) event place word
    (λ bit seen. bit_or_left (slice_index machine.words place) mask bit
    ((actor_is machine number sound has).part place bit seen))))

told_more : (one other : Actor) → KnowsMore one (told_by one other)
told_more one other =
    record {
      words = part_of_both_left one.seen other.seen;
      log = at_least one.places other.places;
    }
  where
    at_least : (x y : ℕ) → x ≤ max x y
    at_least x y = omega arith

-- a look never loses a place
places_grow : (seen place there : ℕ) → seen ≤ places_after seen place there
places_grow seen place there = by (nat_eq place seen && nat_lt seen there)
  where
    by : (more : Bool) → seen ≤ (if more then seen + 1 else seen)
    by true = omega arith
    by false = le_refl seen

pub later_after : (machine : Machine) (event : Event) → IsSound machine → IsLegal machine event
    → IsLater machine (after machine event)
later_after machine (ReportIn actor word mask) sound legal =
    later_puts machine (ReportIn actor word mask) actor (1 + word) mask sound legal.actor
later_after machine (ReportOut actor word mask) sound legal =
    later_puts machine (ReportOut actor word mask) actor
    (1 + words_for (candidates_of machine) + word) mask sound legal.actor
later_after machine (ReportState actor coherent) sound legal =
    later_puts machine (ReportState actor coherent) actor 0 (flag_of coherent) sound legal.actor
later_after machine (ReadWord actor word) sound legal =
    later_with machine actor
    (meets_word (actor_at machine actor) (ReadWord actor word) word
    (slice_index machine.words word))
    (meets_more (actor_at machine actor) (ReadWord actor word) word (slice_index machine.words word)
    (λ bit seen. (actor_is machine actor sound legal.actor).part word bit seen))
later_after machine (Append actor clause) sound legal =
    let new : Actor =
    sees_places (actor_at machine actor) (Append actor clause) (length machine.log + 1) in
    record {
      normal = refl;
      mode = refl;
      room = refl;
      count = length-set machine.actors actor new;
      log = (clause ∷ [], refl);
      each = each_with machine.actors actor new
          record {
            words = part_refl (actor_at machine actor).seen;
            log = let front : (actor_at machine actor).places ≤ length machine.log =
                (actor_is machine actor sound legal.actor).front in omega arith;
          };
    }
later_after machine (ReadPlace actor place) sound legal =
    let old : Actor = actor_at machine actor in
    later_with machine actor
    (sees_places old (ReadPlace actor place) (places_after old.places place (length machine.log)))
    record {
      words = part_refl old.seen;
      log = places_grow old.places place (length machine.log);
    }
later_after machine (Copy from to) sound legal =
    let told : Actor = told_by (actor_at machine to) (actor_at machine from) in
    let step : Actor = steps_once (actor_at machine from) (Copy from to) in
    let middle : Machine = with_actor machine to told in
    later_trans machine middle (with_actor middle from step)
    (later_with machine to told (told_more (actor_at machine to) (actor_at machine from)))
    (later_with middle from step
    (subst (λ actor. KnowsMore actor step)
    (sym (get_or-set_other machine.actors to from told (newcomer 0) legal.differ))
    record {
      words = part_refl (actor_at machine from).seen;
      log = le_refl (actor_at machine from).places;
    }))
later_after machine (Meet into from) sound legal =
    let told : Actor = told_by (actor_at machine into) (actor_at machine from) in
    let more = told_more (actor_at machine into) (actor_at machine from) in
    later_with machine into (steps_once told (Meet into from))
    record { words = more.words; log = more.log }

pub events_keep : EventsKeep
events_keep machine [] sound legal = (sound, later_refl machine)
events_keep machine (event ∷ rest) sound legal =
    let rec = events_keep (after machine event) rest (sound_after machine event sound legal.0)
    legal.1 in (
      rec.0,
      later_trans machine (after machine event) (after_all (after machine event) rest)
          (later_after machine event sound legal.0) rec.1,
    )

pub stays_sound : StaysSound
stays_sound normal mode actors room events legal =
    (events_keep (opening normal mode actors room) events (sound_opening normal mode actors room)
    legal).0

pub each_encloses : (machine : Machine) → IsSound machine → EachEncloses machine
each_encloses machine sound number pair has is =
    encloses machine.normal machine.mode (actor_at machine number).seen pair
    (true_part machine.normal machine.mode (actor_at machine number).seen machine.words
    (actor_is machine number sound has).part sound.true_words) is

pub always_encloses : AlwaysEncloses
always_encloses normal mode actors room events legal =
    each_encloses (after_all (opening normal mode actors room) events)
    (stays_sound normal mode actors room events legal)

pub pairs_narrow : PairsNarrow
pairs_narrow earlier later number before now is has was found =
    narrows (candidates_of earlier) (actor_at earlier number).seen (actor_at later number).seen
    before now was
    (subst (λ (n : Normal). IsPairOf (length n.names) (actor_at later number).seen now) is.normal
    found)
    (is.each number has).words

-- a mask that was reported is in the word that the actor has seen then
puts_seen : (machine : Machine) (event : Event) (number place mask bit : ℕ) → IsSound machine
    → HasActor machine number → place < length machine.words → HasBit mask bit
    → HasBit (slice_index (actor_at (puts_bits machine event number place mask) number).seen place)
    bit
puts_seen machine event number place mask bit sound has exists holds =
    let old : Actor = actor_at machine number in
    let it = actor_is machine number sound has in
    let word : ℕ = bit_or (slice_index machine.words place) mask in
    let new : Actor = meets_word old event place word in
    subst (λ (actor : Actor). HasBit (slice_index actor.seen place) bit)
    (sym (get_or-set_same machine.actors number new (newcomer 0) has))
    (subst (λ n. HasBit n bit)
    (sym (get_or-set_same old.seen place word 0
    (subst (λ n. place < n) (sound.row ∙ sym it.seen_length) exists)))
    (bit_or_right (slice_index machine.words place) mask bit holds))

-- a bit that the actor has seen is in its pair
lower_has : (candidates : ℕ) (words : List ℕ) (pair : Pair) (cand : ℕ)
    → IsPairOf candidates words pair → 1 ≤ cand → cand ≤ candidates
    → HasBit (slice_index words (in_place cand)) (bit_of cand) → HasCandidate pair.lower cand
lower_has candidates words pair cand is first last has =
    is.lower cand first last ∙ set_is words (in_place cand) (bit_of cand) has

upper_lacks : (candidates : ℕ) (words : List ℕ) (pair : Pair) (cand : ℕ)
    → IsPairOf candidates words pair → 1 ≤ cand → cand ≤ candidates
    → HasBit (slice_index words (out_place candidates cand)) (bit_of cand)
    → ¬ HasCandidate pair.upper cand
upper_lacks candidates words pair cand is first last has upper =
    true≢false (sym upper ∙ is.upper cand first last
    ∙ ap not (set_is words (out_place candidates cand) (bit_of cand) has))

-- what was seen right after an event is seen at the end
module _ (machine : Machine) (event : Event) (later : List Event) (pair : Pair)
    (sound : IsSound machine) (legal : AreLegal machine (event ∷ later)) where
  abbrev pub end : Machine
  end = after_all (after machine event) later

  next : IsLater (after machine event) end
  next = (events_keep (after machine event) later (sound_after machine event sound legal.0)
      legal.1).1

  about : end.normal ≡ machine.normal
  about = next.normal ∙ (later_after machine event sound legal.0).normal

  pub seen_at_end : (number place bit : ℕ) → HasActor machine number
      → HasBit (slice_index (actor_at (after machine event) number).seen place) bit
      → HasBit (slice_index (actor_at end number).seen place) bit
  seen_at_end number place bit has holds =
      (next.each number (subst (λ n. number < n)
      (sym (later_after machine event sound legal.0).count) has)).words place bit holds

  pub pair_at_end : (number : ℕ) → IsPairAt end number pair
      → IsPairOf (candidates_of machine) (actor_at end number).seen pair
  pair_at_end number is =
      subst (λ (n : Normal). IsPairOf (length n.names) (actor_at end number).seen pair) about is

pub reports_are_held : ReportsAreHeld
reports_are_held machine (ReportIn actor word mask) later pair sound legal is =
    λ cand candidate place bit.
    let event : Event = ReportIn actor word mask in
    let one = legal.0 in
    let exists : 1 + word < length machine.words =
    subst (λ n. 1 + word < n) (sym sound.row)
    (let less : word < words_for (candidates_of machine) = one.exists in omega arith) in
    lower_has (candidates_of machine) (actor_at (after_all (after machine event) later) actor).seen
    pair cand
    (pair_at_end machine event later pair sound legal actor is) candidate.first candidate.last
    (subst (λ p. HasBit
    (slice_index (actor_at (after_all (after machine event) later) actor).seen p) (bit_of cand))
    (sym place)
    (seen_at_end machine event later pair sound legal actor (1 + word) (bit_of cand) one.actor
    (puts_seen machine event actor (1 + word) mask (bit_of cand) sound one.actor exists bit)))
reports_are_held machine (ReportOut actor word mask) later pair sound legal is =
    λ cand candidate place bit.
    let event : Event = ReportOut actor word mask in
    let side : ℕ = words_for (candidates_of machine) in
    let one = legal.0 in
    let exists : 1 + side + word < length machine.words =
    subst (λ n. 1 + side + word < n) (sym sound.row)
    (let less : word < side = one.exists in omega arith) in
    upper_lacks (candidates_of machine)
    (actor_at (after_all (after machine event) later) actor).seen pair cand
    (pair_at_end machine event later pair sound legal actor is) candidate.first candidate.last
    (subst (λ p. HasBit
    (slice_index (actor_at (after_all (after machine event) later) actor).seen p) (bit_of cand))
    (sym place)
    (seen_at_end machine event later pair sound legal actor (1 + side + word) (bit_of cand)
    one.actor
    (puts_seen machine event actor (1 + side + word) mask (bit_of cand) sound one.actor exists
    bit)))
reports_are_held machine (ReportState actor coherent) later pair sound legal is = search rules
reports_are_held machine (ReadWord actor word) later pair sound legal is = search rules
reports_are_held machine (Append actor clause) later pair sound legal is = search rules
reports_are_held machine (ReadPlace actor place) later pair sound legal is = search rules
reports_are_held machine (Copy from to) later pair sound legal is = search rules
reports_are_held machine (Meet into from) later pair sound legal is = search rules

-- the pair of what both have seen lies within the pairs of both
told_pairs : (candidates : ℕ) (one other : Actor) (pair first second : Pair)
    → IsPairOf candidates (told_by one other).seen pair → IsPairOf candidates one.seen first
    → IsPairOf candidates other.seen second
    → IsWithin pair first × IsWithin pair second
told_pairs candidates one other pair first second is a b = (
  narrows candidates one.seen (told_by one other).seen first pair a is
      (part_of_both_left one.seen other.seen),
  narrows candidates other.seen (told_by one other).seen second pair b is
      (part_of_both_right one.seen other.seen),
)

pub told_have_both : ToldHaveBoth
told_have_both machine one other sound = (
  λ legal pair first second is a b.
      let told : Actor = told_by (actor_at machine other) (actor_at machine one) in
      let step : Actor = steps_once (actor_at machine one) (Copy one other) in
      told_pairs (candidates_of machine) (actor_at machine other) (actor_at machine one) pair first
      second
      (subst (λ (actor : Actor). IsPairOf (candidates_of machine) actor.seen pair)
      (get_or-set_other (set machine.actors other told) one other step (newcomer 0)
      (λ same. legal.differ (sym same))
      ∙ get_or-set_same machine.actors other told (newcomer 0) legal.second) is) a b,
  λ legal pair first second is a b.
      let told : Actor = told_by (actor_at machine one) (actor_at machine other) in
      told_pairs (candidates_of machine) (actor_at machine one) (actor_at machine other) pair first
      second
      (subst (λ (actor : Actor). IsPairOf (candidates_of machine) actor.seen pair)
      (get_or-set_same machine.actors one (steps_once told (Meet one other)) (newcomer 0)
      legal.first) is) a b,
)

-- the consequences of a normal form are those of its program
module _ (normal : Normal) (program : Program) (form : IsNormalFormOf normal program) where
  same : SameAnswerSets normal program
  same = SameAnswerSets-normal_form normal program form

  atom_is : (cand : ℕ) → atom_of normal.names cand ≡ atom_of program.names cand
  atom_is cand = ap (λ (names : List Named). atom_of names cand) form.names

  pub consequence_is : (mode : Mode) (cand : ℕ) → IsConsequenceN normal mode cand
      → IsConsequence program mode cand
  consequence_is Cautious cand holds = λ members answer.
      subst (λ n. IsIn members n) (atom_is cand) (holds members ((same members).1 answer))
  consequence_is Brave cand holds =
      (holds.0, (same holds.0).0 holds.1, subst (λ n. IsIn holds.0 n) (atom_is cand) holds.2)

  pub consequence_was : (mode : Mode) (cand : ℕ) → IsConsequence program mode cand
      → IsConsequenceN normal mode cand
  consequence_was Cautious cand holds = λ members answer.
      subst (λ n. IsIn members n) (sym (atom_is cand)) (holds members ((same members).0 answer))
  consequence_was Brave cand holds =
      (holds.0, (same holds.0).1 holds.1, subst (λ n. IsIn holds.0 n) (sym (atom_is cand)) holds.2)

  pub candidate_is : (cand : ℕ) → IsCandidate program.names cand → IsCandidate normal.names cand
  candidate_is cand is =
      subst (λ (names : List Named). IsCandidate names cand) (sym form.names) is

pub encloses_the_program : EnclosesTheProgram
encloses_the_program normal program mode pair form within =
    record {
      over = record {
        lower = within.over.lower ∙ ap (λ (names : List Named). length names) form.names;
        upper = within.over.upper ∙ ap (λ (names : List Named). length names) form.names;
      };
      lower = λ cand candidate has. consequence_is normal program form mode cand
          (within.lower cand (candidate_is normal program form cand candidate) has);
      upper = λ cand candidate holds.
          within.upper cand (candidate_is normal program form cand candidate)
          (consequence_was normal program form mode cand holds);
    }
