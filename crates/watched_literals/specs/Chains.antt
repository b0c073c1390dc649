-- The chains of nodes, one for each literal. No public clause cites this module.
use Rattle.std.specs.Prelude.{◌≡◌, ◌≢◌, ◌<◌, ◌≤◌, ◌⊎◌, ◌+◌, ◌==◌, ℕ, zero, suc, if◌then◌else◌, List}
use Rattle.std.specs.Prelude.{[], ◌∷◌, ◌++◌, length, get_or, set, ⊤}
use Rattle.clause_store.specs.declared.literal.Lit.{Lit}
use Rattle.watched_literals.specs.declared.chains.Node.{Node}

-- the number that no node has
abbrev pub none : ℕ
none = 4294967295

-- the node of a number
abbrev pub node_of : List Node → ℕ → Node
node_of nodes at = get_or nodes at (record { lit = record { 0 = 0 }; next = 4294967295 })

-- the code of the literal at which the clause of a node is watched
abbrev pub code_of : List Node → ℕ → ℕ
code_of nodes at = (node_of nodes at).lit.0

-- the literal of a node
abbrev pub lit_of : List Node → ℕ → Lit
lit_of nodes at = (node_of nodes at).lit

-- the node after one
abbrev pub next_of : List Node → ℕ → ℕ
next_of nodes at = (node_of nodes at).next

-- a number isn't among others
abbrev pub Avoids : ℕ → List ℕ → Type 0
Avoids one [] = ⊤
Avoids one (other ∷ rest) = (other ≢ one) × Avoids one rest

-- a number is among others
abbrev pub IsAmong : ℕ → List ℕ → Type 0
IsAmong one [] = ⊥
IsAmong one (other ∷ rest) = (other ≡ one) ⊎ IsAmong one rest

-- a number is that of a node for a literal, which comes before these
pub record IsLink (nodes : List Node) (code at node : ℕ) (rest : List ℕ) : Type 0 where
  pub here : at ≡ node
  pub within : node < length nodes
  pub own : code_of nodes node ≡ code
  pub once : Avoids node rest

-- from a number on, nodes for one literal follow each other, and the last of them ends the chain
abbrev pub IsChain : List Node → ℕ → ℕ → List ℕ → Type 0
IsChain nodes code at [] = at ≡ none
IsChain nodes code at (node ∷ rest) =
    IsLink nodes code at node rest × IsChain nodes code (next_of nodes node) rest

-- a chain from a number on has all nodes for the literal
pub record HasAllOf (nodes : List Node) (code at : ℕ) (list : List ℕ) : Type 0 where
  pub chain : IsChain nodes code at list
  pub all : (node : ℕ) → node < length nodes → code_of nodes node ≡ code → IsAmong node list

-- the first node of a list
abbrev pub first_of_list : List ℕ → ℕ
first_of_list [] = none
first_of_list (node ∷ rest) = node

-- the last node of a list
abbrev pub last_of_list : List ℕ → ℕ
last_of_list [] = none
last_of_list (node ∷ []) = node
last_of_list (node ∷ next ∷ rest) = last_of_list (next ∷ rest)

-- each literal has a chain, and each node is for a literal
pub record AreLinked (nodes : List Node) (heads : List ℕ) : Type 0 where
  pub few : length nodes ≤ none
  pub coded : (node : ℕ) → node < length nodes → code_of nodes node < length heads
  pub chains :
      (code : ℕ) → code < length heads
      → (list : List ℕ) × HasAllOf nodes code (get_or heads code none) list

-- each of these has a property
abbrev pub AreEach : (ℕ → Type 0) → List ℕ → Type 0
AreEach Has [] = ⊤
AreEach Has (node ∷ rest) = Has node × AreEach Has rest

-- a walk along the chain of a literal has come to a node; the nodes before it, of which one was the
-- last, have a property
pub record IsWalk (Has : ℕ → Type 0) (nodes : List Node) (heads : List ℕ) (code last at : ℕ) :
    Type 0 where
  pub linked : AreLinked nodes heads
  pub kept : List ℕ
  pub rest : List ℕ
  pub list : HasAllOf nodes code (get_or heads code none) (kept ++ rest)
  pub last_is : last ≡ last_of_list kept
  pub at_is : at ≡ first_of_list rest
  pub done : AreEach Has kept

-- the node after `last` was taken out of the chain of a literal, or the first one where that is
-- none; another one follows it
pub record IsUnlinked (nodes : List Node) (heads : List ℕ) (code last next : ℕ)
    (nodes1 : List Node) (heads1 : List ℕ) : Type 0 where
  pub first_nodes : last ≡ none → nodes1 ≡ nodes
  pub first_heads : last ≡ none → heads1 ≡ set heads code next
  pub later_nodes :
      last ≢ none
      → nodes1 ≡ set nodes last (record { lit = (node_of nodes last).lit; next = next })
  pub later_heads : last ≢ none → heads1 ≡ heads

-- how many nodes a walk has before it, of so many at most
unfoldable pub nodes_left : ℕ → List Node → ℕ → ℕ
nodes_left zero nodes at = 0
nodes_left (suc most) nodes at =
    if at == none then 0 else nodes_left most nodes (next_of nodes at) + 1
