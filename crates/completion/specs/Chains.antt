-- The chains in which the bodies of rules are gathered, one for each atom. No public clause cites
-- this module.
use Rattle.std.specs.Prelude.{◌≡◌, ◌≤◌, ◌<◌, ◌+◌, ◌-◌, ℕ, nat_eq, List, [], ◌∷◌, ◌++◌, length, map}
use Rattle.std.specs.Prelude.{filter, reverse, slice_index_or, slice_set}
use Rattle.clause_store.specs.declared.literal.Lit.{Lit}
use Rattle.normal_program.specs.declared.normal.NormalRule.{NormalRule}
use Rattle.normal_program.specs.declared.normal.Normal.{Normal}
use Rattle.completion.specs.declared.support_clauses.Note.{Note}
use Rattle.completion.specs.declared.support_clauses.Supports.{Supports}
use Rattle.completion.specs.Filling.{supports_of}

-- the note of a number; they are numbered from 1 on
abbrev pub note_of : List Note → ℕ → Note
note_of notes number =
    slice_index_or notes (number - 1) (record { body = record { 0 = 0 }; before = 0 })

-- the note of a number has this literal, and the note before it an earlier number
pub record IsLink (notes : List Note) (number : ℕ) (lit : Lit) : Type 0 where
  pub first : 1 ≤ number
  pub last : number ≤ length notes
  pub noted : (note_of notes number).body ≡ lit
  pub back : (note_of notes number).before < number

-- from the note of a number back to the first one these literals stand; 0 is before the first
abbrev pub IsChain : List Note → ℕ → List Lit → Type 0
IsChain notes number [] = number ≡ 0
IsChain notes number (lit ∷ lits) =
    IsLink notes number lit × IsChain notes (note_of notes number).before lits

-- a chain ends at the note of a number
abbrev pub HasChain : List Note → ℕ → Type 0
HasChain notes number = (lits : List Lit) × IsChain notes number lits

-- a chain for each atom, with the bodies of the rules for the atom
pub record AreSupports (normal : Normal) (rules : List NormalRule) (supports : Supports) :
    Type 0 where
  pub count : length supports.lasts.items ≡ normal.atoms + 1
  pub each : (atom : ℕ) → atom ≤ normal.atoms
      → IsChain supports.notes.items (slice_index_or supports.lasts.items atom 0)
      (reverse (supports_of normal rules atom))

-- the literal was put last into the chain of one atom
pub record Puts (atom : ℕ) (lit : Lit) (old new : Supports) : Type 0 where
  pub noted :
      new.notes.items
      ≡ old.notes.items
      ++ record { body = lit; before = slice_index_or old.lasts.items atom 0 } ∷ []
  pub last : new.lasts.items ≡ slice_set old.lasts.items atom (length old.notes.items + 1)

-- each chain gained the literal, as often as its atom is a head
pub record NotesAll (heads : List ℕ) (lit : Lit) (old new : Supports) : Type 0 where
  pub count : length new.lasts.items ≡ length old.lasts.items
  pub each : (atom : ℕ) (lits : List Lit)
      → IsChain old.notes.items (slice_index_or old.lasts.items atom 0) (reverse lits)
      → IsChain new.notes.items (slice_index_or new.lasts.items atom 0)
      (reverse (lits ++ map (λ head. lit) (filter (λ head. nat_eq head atom) heads)))
