-- The tables of the attached clauses when a clause is put last. No public clause cites this module.
use Rattle.std.specs.Prelude.{◌≡◌, ◌≢◌, ◌≤◌, ◌<◌, ◌+◌, ◌++◌, ◌∷◌, [], ℕ, Bool, true, false, List}
use Rattle.std.specs.Prelude.{length}
use Rattle.std.specs.Prelude.{get_or, vec_len, vec_capacity}
use Rattle.clause_store.specs.declared.literal.Lit.{Lit}
use Rattle.watched_literals.specs.declared.chains.Chains.{Chains}
use Rattle.watched_literals.specs.declared.tables.Tables.{Tables}
use Rattle.watched_literals.specs.declared.choosing.Choice.{Choice}
use Rattle.watched_literals.specs.Chains.{none, lit_of, AreLinked}

-- there is room for a clause more
pub record HasRoom (it : Tables) : Type 0 where
  pub nodes : vec_len it.chains.nodes + 2 ≤ vec_capacity it.chains.nodes
  pub saved : vec_len it.saved < vec_capacity it.saved

-- nothing changed but the room
pub record IsSame (old new : Tables) : Type 0 where
  pub nodes : new.chains.nodes.items ≡ old.chains.nodes.items
  pub heads : new.chains.heads.items ≡ old.chains.heads.items
  pub saved : new.saved.items ≡ old.saved.items
  pub waits : new.pending.waits ≡ old.pending.waits

-- and that there is one clause more, which isn't pending
pub record IsRoomier (old new : Tables) : Type 0 where
  pub nodes : new.chains.nodes.items ≡ old.chains.nodes.items
  pub heads : new.chains.heads.items ≡ old.chains.heads.items
  pub saved : new.saved.items ≡ old.saved.items
  pub waits : new.pending.waits ≡ old.pending.waits ++ false ∷ []

-- the nodes of a clause came last
pub record AreNodesPut (one two : Lit) (old new : Chains) : Type 0 where
  pub linked :
      AreLinked old.nodes.items old.heads.items → AreLinked new.nodes.items new.heads.items
  pub heads : length new.heads.items ≡ length old.heads.items
  pub nodes : length new.nodes.items ≡ length old.nodes.items + 2
  pub before :
      (n : ℕ) → n < length old.nodes.items → lit_of new.nodes.items n ≡ lit_of old.nodes.items n
  pub one_is : lit_of new.nodes.items (length old.nodes.items) ≡ one
  pub two_is : lit_of new.nodes.items (length old.nodes.items + 1) ≡ two

-- a clause is pending, if it is short or chains were walked
pub record IsWaitPut (clause : List Lit) (next row : ℕ) (old new : List Bool) : Type 0 where
  pub count : length new ≡ length old
  pub others : (other : ℕ) → other ≢ row → get_or new other false ≡ get_or old other false
  pub short : length clause < 2 → get_or new row false ≡ true
  pub later : get_or new row false ≡ false → next ≡ 0

-- a clause was put last
pub record IsPut (clause : List Lit) (choice : Choice) (next : ℕ) (old new : Tables) :
    Type 0 where
  pub nodes : AreNodesPut choice.one choice.two old.chains new.chains
  pub place : ℕ
  pub saved : new.saved.items ≡ old.saved.items ++ place ∷ []
  pub binary : place ≡ none → length clause ≡ 2
  pub wait :
      IsWaitPut clause next (length old.saved.items) old.pending.waits new.pending.waits
