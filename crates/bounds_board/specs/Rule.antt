-- The rule of the board: what holds of its words and of what the seats know between any two steps.
use Rattle.std.specs.Prelude.{◌≡◌, ◌≤◌, ℕ, true, List, length, slice_index}
use mathlib.Core.Option.{some}
use lib.ListN.{get_elem?}
use Rattle.atomic_table.specs.Table.{State}
use Rattle.atomic_table.specs.Seated.{TableId}
use Rattle.anytime_core.specs.Bits.{all_words, IsPartOf}
use Rattle.anytime_core.specs.Truth.{AreTrue}
use Rattle.anytime_core.specs.Knowing.{newcomer}
use Rattle.bounds_board.specs.declared.view.About.{About}
use Rattle.bounds_board.specs.declared.view.View.{View}

-- a seat: its table, and what it knows
pub record Place : Type 0 where
  pub table : TableId
  pub view : View

-- a view of a live seat: the words that it has seen are true, and no word was met after its last
-- step
pub record IsView (view : View) : Type 0 where
  pub is_live : view.live ≡ true
  pub seen_length : length view.actor.seen ≡ all_words (length view.normal.names)
  pub met_length : length view.actor.met ≡ all_words (length view.normal.names)
  pub trues : AreTrue view.normal view.mode view.actor.seen
  pub before : (place : ℕ) → slice_index view.actor.met place ≤ view.actor.steps

-- a live view fits the table: it is of the same run, the words are true, and it has seen as many
-- words, with no bit that they lack
pub record FitsTable (about : About) (words : List ℕ) (view : View) : Type 0 where
  pub same_normal : view.normal ≡ about.normal.value
  pub same_mode : view.mode ≡ about.mode
  pub row : length words ≡ all_words (length view.normal.names)
  pub as_many : length view.actor.seen ≡ length words
  pub trues : AreTrue view.normal view.mode words
  pub part : IsPartOf view.actor.seen words

-- the rule: each live view fits the table
abbrev pub KeepsBoard : {S : Type 0} → About → State S View → Type 0
KeepsBoard about state =
    (seat : ℕ) (view : View) → get_elem? state.views seat ≡ some view → view.live ≡ true
    → FitsTable about state.words view

-- the view of the first seat
abbrev pub first_view : About → View
first_view about =
    record {
      live = true;
      normal = about.normal.value;
      mode = about.mode;
      actor = newcomer (all_words (length about.normal.value.names));
    }
