-- What level 0 leaves of clauses, and how they are watched by that. No public clause cites this
-- module.
use Rattle.std.specs.Prelude.{◌≡◌, ◌≢◌, ◌≤◌, ◌<◌, ◌+◌, ◌*◌, ◌⊎◌, ⊤, ℕ, Bool, true, false, List}
use Rattle.std.specs.Prelude.{length, get_or, set, map, All}
use Rattle.clause_store.specs.declared.literal.Lit.{Lit}
use Rattle.clause_store.specs.declared.step.Step.{Step}
use Rattle.clause_store.specs.Trail.{Assigned}
use Rattle.clause_store.specs.Standing.{IsFalse, as_followed}
use Rattle.propagator.specs.Watched.{Attached}
use Rattle.watched_literals.specs.declared.chains.Chains.{Chains}
use Rattle.watched_literals.specs.declared.chains.Node.{Node}
use Rattle.watched_literals.specs.declared.tables.Tables.{Tables}
use Rattle.watched_literals.specs.declared.left.Left.{Left}
use Rattle.watched_literals.specs.declared.left.Left.TheVariants.{True, Open, Pair, Few}
use Rattle.watched_literals.specs.Chains.{none, code_of, lit_of, AreEach, AreLinked, IsAmong}
use Rattle.watched_literals.specs.Chains.{IsChain}
use Rattle.watched_literals.specs.Watching.{AreNone, HoldsForGood, IsPair, IsSeated}

-- ---- one clause

-- two literals of a clause aren't false
pub record AreOpen (steps : List Step) (clause : List Lit) (one two : Lit) : Type 0 where
  pub pair : IsPair clause one two
  pub one_open : ¬ IsFalse steps one
  pub two_open : ¬ IsFalse steps two

-- all literals but two are false
abbrev pub AreFalseButTwo : List Step → List Lit → Lit → Lit → Type 0
AreFalseButTwo steps clause one two =
    All (λ lit. lit ≢ one → lit ≢ two → IsFalse steps lit) clause

-- what each case says of the clause
abbrev pub IsLeft : List Step → List Lit → Left → Type 0
IsLeft steps clause True = HoldsForGood (map as_followed steps) clause
IsLeft steps clause (Open one two) = AreOpen steps clause one two
IsLeft steps clause (Pair one two) =
    AreOpen steps clause one two × AreFalseButTwo steps clause one two
IsLeft steps clause Few = ⊤

-- a clause is watched at two of its literals that aren't false
pub record IsAtOpen (steps : List Step) (lits : List Lit) (saved : ℕ) (one two : Lit) :
    Type 0 where
  pub seated : IsSeated (map as_followed steps) lits saved one two
  pub one_open : ¬ IsFalse steps one
  pub two_open : ¬ IsFalse steps two

-- or at none, and then it is pending or true for good
pub record IsAtNone (steps : List Step) (lits : List Lit) (one two : Lit) (waits : Bool) :
    Type 0 where
  pub none_is : AreNone one two
  pub good : waits ≡ false → HoldsForGood (map as_followed steps) lits

-- how a clause is watched once it is laid out
abbrev pub IsLaid : List Step → List Lit → ℕ → Lit → Lit → Bool → Type 0
IsLaid steps lits saved one two waits =
    IsAtOpen steps lits saved one two ⊎ IsAtNone steps lits one two waits

-- ---- the tables

-- a clause got two literals at which it is watched, and the place where the next look begins
pub record IsWritten (row : ℕ) (one two : Lit) (place : ℕ) (old new : Tables) : Type 0 where
  pub nodes :
      new.chains.nodes.items
      ≡ set (set old.chains.nodes.items (2 * row) (record { lit = one; next = none }))
      (2 * row + 1) (record { lit = two; next = none })
  pub heads : new.chains.heads.items ≡ old.chains.heads.items
  pub saved : new.saved.items ≡ set old.saved.items row place

-- the code that no literal of a clause has
abbrev pub no_lit : Lit
no_lit = record { 0 = 0 }

-- so it is by what is left of the clause
abbrev pub IsWrittenBy : ℕ → Left → Tables → Tables → Type 0
IsWrittenBy row True old new =
    IsWritten row no_lit no_lit 0 old new × (new.pending ≡ old.pending)
IsWrittenBy row (Open one two) old new =
    IsWritten row one two 0 old new × (new.pending ≡ old.pending)
IsWrittenBy row (Pair one two) old new =
    IsWritten row one two none old new × (new.pending ≡ old.pending)
IsWrittenBy row Few old new =
    IsWritten row no_lit no_lit 0 old new
    × (new.pending.waits ≡ set old.pending.waits row true)

-- the literals of so many clauses are chosen anew; no chain is known to be linked
pub record AreLaid (entries : List Attached) (trail : Assigned) (tables : Tables) (count : ℕ) :
    Type 0 where
  pub heads : length tables.chains.heads.items ≡ 2 * trail.vars + 2
  pub nodes : length tables.chains.nodes.items ≡ 2 * length entries
  pub saved : length tables.saved.items ≡ length entries
  pub waits : length tables.pending.waits ≡ length entries
  pub few : length entries ≤ 2147483647
  pub coded :
      (node : ℕ) → node < length tables.chains.nodes.items
      → code_of tables.chains.nodes.items node < 2 * trail.vars + 2
  pub rows :
      (number : ℕ) (d : Attached) → number < count
      → IsLaid trail.steps (get_or entries number d).lits (get_or tables.saved.items number 0)
      (lit_of tables.chains.nodes.items (2 * number))
      (lit_of tables.chains.nodes.items (2 * number + 1))
      (get_or tables.pending.waits number false)

-- ---- the chains

-- each node is for a literal that has a chain
abbrev pub AreCoded : List Node → List ℕ → Type 0
AreCoded nodes heads = (node : ℕ) → node < length nodes → code_of nodes node < length heads

-- no chain has a node
abbrev pub AreEmpty : List ℕ → Type 0
AreEmpty heads = (code : ℕ) → code < length heads → get_or heads code none ≡ none

-- a chain from a number on has all nodes for the literal among the first ones, and no other
pub record HasAllFirst (nodes : List Node) (code at count : ℕ) (list : List ℕ) : Type 0 where
  pub chain : IsChain nodes code at list
  pub all : (node : ℕ) → node < count → code_of nodes node ≡ code → IsAmong node list
  pub first : AreEach (λ node. node < count) list

-- each literal has a chain of the first nodes
pub record AreFirstLinked (nodes : List Node) (heads : List ℕ) (count : ℕ) : Type 0 where
  pub coded : AreCoded nodes heads
  pub chains :
      (code : ℕ) → code < length heads
      → (list : List ℕ) × HasAllFirst nodes code (get_or heads code none) count list

-- the nodes are for the literals for which they were, and there are as many chains
pub record AreOfSameLits (old new : Chains) : Type 0 where
  pub nodes : length new.nodes.items ≡ length old.nodes.items
  pub heads : length new.heads.items ≡ length old.heads.items
  pub lits : (node : ℕ) → lit_of new.nodes.items node ≡ lit_of old.nodes.items node

-- and all are linked
pub record AreLinkedAnew (old new : Chains) : Type 0 where
  pub linked : AreLinked new.nodes.items new.heads.items
  pub same : AreOfSameLits old new
