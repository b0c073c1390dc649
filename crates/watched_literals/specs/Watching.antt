-- How the attached clauses are watched. Each clause by itself is pending, or is watched at no literal
-- and true at level 0, or each of its watched literals isn't false by the assignments whose chains
-- were walked, or the other one is true at a level that isn't higher. No public clause cites this
-- module.
use Rattle.std.specs.Prelude.{◌≡◌, ◌≢◌, ◌≤◌, ◌<◌, ◌+◌, ◌*◌, ◌⊎◌, ℕ, false, List, length}
use Rattle.std.specs.Prelude.{◌-◌, ◌/◌, ◌%◌, ◌==◌, if◌then◌else◌, get_or, set, All, Any, Contains}
use Rattle.clause_store.specs.declared.literal.Lit.{Lit}
use Rattle.clause_store.specs.Clause.{negation}
use Rattle.clause_store.specs.Standing.{Followed}
use Rattle.propagator.specs.Watched.{Attached}
use Rattle.watched_literals.specs.declared.tables.Tables.{Tables}
use Rattle.watched_literals.specs.declared.choosing.Choice.{Choice}
use Rattle.watched_literals.specs.declared.chains.Node.{Node}
use Rattle.watched_literals.specs.Chains.{none, lit_of, AreLinked, IsUnlinked}

-- two literals of a clause
pub record IsPair (lits : List Lit) (one two : Lit) : Type 0 where
  pub one_here : Contains lits one
  pub two_here : Contains lits two
  pub differ : one ≢ two

-- the code that no literal of a clause has
pub record AreNone (one two : Lit) : Type 0 where
  pub one_none : one.0 ≡ 0
  pub two_none : two.0 ≡ 0

-- two literals at which a clause is watched over the variables 1 to `vars`, if it has two
pub record IsChoice (vars : ℕ) (lits : List Lit) (choice : Choice) : Type 0 where
  pub pair : 2 ≤ length lits → IsPair lits choice.one choice.two
  pub short : length lits < 2 → AreNone choice.one choice.two
  pub one_within : choice.one.0 < 2 * vars + 2
  pub two_within : choice.two.0 < 2 * vars + 2

-- an assignment of that level or a lower one makes the literal true
abbrev pub IsTrueBy : ℕ → List Followed → Lit → Type 0
IsTrueBy level known lit = Any (λ it. (it.lit ≡ lit) × (it.level ≤ level)) known

-- where one of the first assignments makes a literal false, the other is true at a level that isn't
-- higher
abbrev pub IsSettled : List Followed → ℕ → Lit → Lit → Type 0
IsSettled known next lit other =
    (at : ℕ) (d : Followed) → at < next → at < length known
    → (get_or known at d).lit ≡ negation lit → IsTrueBy (get_or known at d).level known other

-- so for both
pub record AreSettled (known : List Followed) (next : ℕ) (one two : Lit) : Type 0 where
  pub first : IsSettled known next one two
  pub second : IsSettled known next two one

-- an assignment of level 0 makes a literal false
abbrev pub IsFalseForGood : List Followed → Lit → Type 0
IsFalseForGood known lit = IsTrueBy 0 known (negation lit)

-- so for all literals of a clause but two
abbrev pub AreOthersFalse : List Followed → List Lit → Lit → Lit → Type 0
AreOthersFalse known lits one two =
    All (λ lit. lit ≢ one → lit ≢ two → IsFalseForGood known lit) lits

-- a clause is watched at two of its literals; the mark says that all others are false for good
pub record IsSeated (known : List Followed) (lits : List Lit) (saved : ℕ) (one two : Lit) :
    Type 0 where
  pub pair : IsPair lits one two
  pub binary : saved ≡ none → AreOthersFalse known lits one two

-- a clause is watched at two of its literals or at none
abbrev pub IsRow : List Followed → List Lit → ℕ → Lit → Lit → Type 0
IsRow known lits saved one two = IsSeated known lits saved one two ⊎ AreNone one two

-- an assignment of level 0 makes a literal of a clause true
abbrev pub HoldsForGood : List Followed → List Lit → Type 0
HoldsForGood known lits = Any (IsTrueBy 0 known) lits

-- the attached clauses are watched; the chains of the first `next` known assignments were walked
pub record AreWatching (vars : ℕ) (entries : List Attached) (tables : Tables)
    (known : List Followed) (next : ℕ) : Type 0 where
  pub linked : AreLinked tables.chains.nodes.items tables.chains.heads.items
  pub heads : length tables.chains.heads.items ≡ 2 * vars + 2
  pub nodes : length tables.chains.nodes.items ≡ 2 * length entries
  pub saved : length tables.saved.items ≡ length entries
  pub waits : length tables.pending.waits ≡ length entries
  pub few : length entries ≤ 2147483647
  pub rows :
      (number : ℕ) (d : Attached) → number < length entries
      → IsRow known (get_or entries number d).lits (get_or tables.saved.items number 0)
      (lit_of tables.chains.nodes.items (2 * number))
      (lit_of tables.chains.nodes.items (2 * number + 1))
  pub settled :
      (number : ℕ) → number < length entries → get_or tables.pending.waits number false ≡ false
      → AreSettled known next (lit_of tables.chains.nodes.items (2 * number))
      (lit_of tables.chains.nodes.items (2 * number + 1))
  pub detached :
      (number : ℕ) (d : Attached) → number < length entries
      → AreNone (lit_of tables.chains.nodes.items (2 * number))
      (lit_of tables.chains.nodes.items (2 * number + 1))
      → get_or tables.pending.waits number false ≡ false
      → HoldsForGood known (get_or entries number d).lits
  pub reached : next ≤ length known

-- the other node of the clause
abbrev pub partner_of : ℕ → ℕ
partner_of node = if node % 2 == 1 then node - 1 else node + 1

-- the clause of a node is pending, or the literal of its other node is true at a level that isn't
-- higher
abbrev pub IsDone : Tables → List Followed → ℕ → ℕ → Type 0
IsDone tables known level node =
    get_or tables.pending.waits (node / 2) false ≡ false
    → IsTrueBy level known (lit_of tables.chains.nodes.items (partner_of node))

-- a node went from the chain of one literal to that of another, and the look at its clause ended at
-- a place
pub record IsMoved (lit to : Lit) (last at next : ℕ) (old new : Tables) : Type 0 where
  pub half_nodes : List Node
  pub half_heads : List ℕ
  pub unlinked :
      IsUnlinked old.chains.nodes.items old.chains.heads.items lit.0 last next half_nodes half_heads
  pub nodes :
      new.chains.nodes.items
      ≡ set half_nodes at (record { lit = to; next = get_or half_heads to.0 none })
  pub heads : new.chains.heads.items ≡ set half_heads to.0 at
  pub place : ℕ
  pub saved : new.saved.items ≡ set old.saved.items (at / 2) place
  pub short : place ≢ none
  pub pending : new.pending ≡ old.pending
