-- What each kind of step does to the view of its seat. Each is one event of the machine, in which
-- the seat is actor 0.
use Rattle.std.specs.Prelude.{◌≡◌, ◌+◌, ◌-◌, ℕ, false, nat_eq, [], length, slice_index}
use Rattle.std.specs.Prelude.{bit_or}
use Rattle.atomic_table.specs.Table.{Step, Me}
use Rattle.ground_program.specs.declared.program.Mode.TheVariants.{Cautious}
use Rattle.anytime_core.specs.declared.event.Event.{Event}
use Rattle.anytime_core.specs.declared.event.Event.TheVariants.{ReportIn, ReportOut, ReportState}
use Rattle.anytime_core.specs.declared.event.Event.TheVariants.{ReadWord, Copy, Meet}
use Rattle.anytime_core.specs.Bits.{HasBit, words_for}
use Rattle.anytime_core.specs.Truth.{IsTrueWord}
use Rattle.anytime_core.specs.Knowing.{newcomer, steps_once, meets_word, told_by}
use Rattle.bounds_board.specs.declared.view.View.{View}

-- the view after the seat met a word
abbrev pub met_view : View → Event → ℕ → ℕ → View
met_view view event place word =
    record view { actor = meets_word view.actor event place word }

-- the seat met a word: all its bits are true, and it has all that the seat had seen of it
pub record Met (old new : View) (event : Event) (place word : ℕ) : Type 0 where
  pub view : new ≡ met_view old event place word
  pub trues : IsTrueWord old.normal old.mode place word
  pub more : (bit : ℕ) → HasBit (slice_index old.actor.seen place) bit → HasBit word bit

-- a step teaches its seat a word
abbrev pub Teaches : {S : Type 0} → Event → ℕ → ℕ → Me S View → Me S View → Type 0
Teaches event place word me after = (after.1 ≡ me.1) × Met me.0 after.0 event place word

-- a load
abbrev pub Loads : {S : Type 0} → Step S → Me S View → ℕ → Me S View → Type 0
Loads step me found after = Teaches (ReadWord 0 step.word) step.word found me after

-- a fetch_or on an in-word
abbrev pub ReportsIn : {S : Type 0} → Step S → Me S View → ℕ → Me S View → Type 0
ReportsIn step me found after =
    Teaches (ReportIn 0 (step.word - 1) step.first) step.word (bit_or found step.first) me after

-- a fetch_or on an out-word
abbrev pub ReportsOut : {S : Type 0} → Step S → Me S View → ℕ → Me S View → Type 0
ReportsOut step me found after =
    Teaches
    (ReportOut 0 (step.word - (1 + words_for (length me.0.normal.names))) step.first)
    step.word (bit_or found step.first) me after

-- a fetch_or on the flags
abbrev pub ReportsState : {S : Type 0} → Step S → Me S View → ℕ → Me S View → Type 0
ReportsState step me found after =
    Teaches (ReportState 0 (nat_eq step.first 1)) step.word (bit_or found step.first) me after

-- a seat after it made a second one
abbrev pub teller : View → View
teller view = record view { actor = steps_once view.actor (Copy 0 1) }

-- the second seat: a newcomer that was told
abbrev pub note_of : View → View
note_of view =
    record view { actor = told_by (newcomer (length view.actor.seen)) view.actor }

-- a seat after it took in what another has seen
abbrev pub learner : View → View → View
learner view other =
    record view { actor = steps_once (told_by view.actor other.actor) (Meet 0 1) }

-- what is left of the other one
abbrev pub spent_view : View
spent_view =
    record {
      live = false;
      normal = record {
        atoms = 0;
        bodies = [];
        rules = [];
        names = [];
        must = [];
        must_not = [];
      };
      mode = Cautious;
      actor = newcomer 0;
    }
