-- Walks along the chain of a literal: their steps and their end.
use Rattle.std.proofs.Common.{◌≡◌, ◌≢◌, ◌<◌, ◌+◌, ℕ, List, [], ◌∷◌, ◌++◌}
use Rattle.std.proofs.Common.{length, get_or}
use Rattle.std.proofs.Common.{refl, sym, ap, subst, ◌∙◌, arith}
use Rattle.std.proofs.lemmas.List.{append-nil}
use Rattle.watched_literals.specs.declared.chains.Node.{Node}
use Rattle.watched_literals.specs.Chains.{none, code_of, next_of, IsAmong}
use Rattle.watched_literals.specs.Chains.{IsChain, HasAllOf, AreLinked, AreEach, IsWalk}
use Rattle.watched_literals.specs.Chains.{first_of_list, last_of_list}
use Rattle.watched_literals.proofs.ChainLemmas.{each_among, each_push, last_push}
use Rattle.watched_literals.proofs.ChainLemmas.{append_one}
use Rattle.watched_literals.proofs.ChainLemmas.{chain_first, chain_rest}

-- a walk begins at the head
pub walk_begins : (Has : ℕ → Type 0) (nodes : List Node) (heads : List ℕ) (code : ℕ)
    → AreLinked nodes heads → code < length heads
    → IsWalk Has nodes heads code none (get_or heads code none)
walk_begins Has nodes heads code linked within =
    let list = linked.chains code within in
    record {
      linked = linked;
      kept = [];
      rest = list.0;
      list = list.1;
      last_is = refl;
      at_is = chain_first nodes code (get_or heads code none) list.0 list.1.chain;
      done = tt;
    }

pub rest_of : (at : ℕ) (rest : List ℕ) → at ≡ first_of_list rest → at ≢ none
    → (later : List ℕ) × (rest ≡ at ∷ later)
rest_of at [] is some = absurd (some is)
rest_of at (x ∷ later) is some = (later, ap (λ first. first ∷ later) (sym is))

each_maps : (Has Gets : ℕ → Type 0) (xs : List ℕ) → ((one : ℕ) → Has one → Gets one)
    → AreEach Has xs → AreEach Gets xs
each_maps Has Gets [] maps each = tt
each_maps Has Gets (x ∷ xs) maps each = (maps x each.0, each_maps Has Gets xs maps each.1)

-- the nodes of a walk may get another property
pub walk_maps : (Has Gets : ℕ → Type 0) (nodes : List Node) (heads : List ℕ) (code last at : ℕ)
    → ((one : ℕ) → Has one → Gets one) → IsWalk Has nodes heads code last at
    → IsWalk Gets nodes heads code last at
walk_maps Has Gets nodes heads code last at maps walk = record {
  linked = walk.linked;
  kept = walk.kept;
  rest = walk.rest;
  list = walk.list;
  last_is = walk.last_is;
  at_is = walk.at_is;
  done = each_maps Has Gets walk.kept maps walk.done;
}

-- at the end each node for the literal was passed
pub walk_ends : (Has : ℕ → Type 0) (nodes : List Node) (heads : List ℕ) (code last at node : ℕ)
    → IsWalk Has nodes heads code last at → at ≡ none → node < length nodes
    → code_of nodes node ≡ code → Has node
walk_ends Has nodes heads code last at node walk end within own =
    go walk.rest walk.list (sym end ∙ walk.at_is)
  where
    go : (rest : List ℕ) → HasAllOf nodes code (get_or heads code none) (walk.kept ++ rest)
        → none ≡ first_of_list rest → Has node
    go [] list is =
        each_among Has node walk.kept walk.done
        (subst (IsAmong node) (append-nil walk.kept) (list.all node within own))
    go (x ∷ xs) list is =
        let link =
        (chain_rest nodes code (get_or heads code none) walk.kept (x ∷ xs) list.chain).0 in
        absurd (omega (arith, link.within, is, walk.linked.few))

-- a list without its end is short or its last node is a node for the literal
pub last_own : (nodes : List Node) (code at x : ℕ) (xs ys : List ℕ)
    → IsChain nodes code at ((x ∷ xs) ++ ys)
    → (last_of_list (x ∷ xs) < length nodes) × (code_of nodes (last_of_list (x ∷ xs)) ≡ code)
last_own nodes code at x [] ys chain = (chain.0.within, chain.0.own)
last_own nodes code at x (next ∷ xs) ys chain =
    last_own nodes code (next_of nodes x) next xs ys chain.1

-- the last node of a walk, if there is one, is a node
pub walk_last : (Has : ℕ → Type 0) (nodes : List Node) (heads : List ℕ) (code last at : ℕ)
    → IsWalk Has nodes heads code last at → last ≢ none → last < length nodes
walk_last Has nodes heads code last at walk some = go walk.kept walk.list.chain walk.last_is
  where
    go : (kept : List ℕ) → IsChain nodes code (get_or heads code none) (kept ++ walk.rest)
        → last ≡ last_of_list kept → last < length nodes
    go [] chain is = absurd (some is)
    go (x ∷ xs) chain is =
        subst (λ one. one < length nodes) (sym is)
        (last_own nodes code (get_or heads code none) x xs walk.rest chain).0

-- ---- at a node

module _ (Has : ℕ → Type 0) (nodes : List Node) (heads : List ℕ) (code last at : ℕ)
    (walk : IsWalk Has nodes heads code last at) (some : at ≢ none) where
  abbrev pub later : List ℕ
  later = (rest_of at walk.rest walk.at_is some).0

  pub rest_is : walk.rest ≡ at ∷ later
  rest_is = (rest_of at walk.rest walk.at_is some).1

  pub list : HasAllOf nodes code (get_or heads code none) (walk.kept ++ at ∷ later)
  list =
      subst (λ rest. HasAllOf nodes code (get_or heads code none) (walk.kept ++ rest)) rest_is
      walk.list

  pub chain_here : IsChain nodes code at (at ∷ later)
  chain_here = chain_rest nodes code (get_or heads code none) walk.kept (at ∷ later) list.chain

  -- it is a node for the literal
  pub walk_within : at < length nodes
  walk_within = chain_here.0.within

  pub walk_own : code_of nodes at ≡ code
  walk_own = chain_here.0.own

  pub next_is : next_of nodes at ≡ first_of_list later
  next_is = chain_first nodes code (next_of nodes at) later chain_here.1

  -- what is left is shorter by one
  pub rest_falls : length walk.rest ≡ length later + 1
  rest_falls = ap length rest_is ∙ omega arith

  -- a node that has the property stays in the chain
  pub walk_stays :
      Has at → (goes : IsWalk Has nodes heads code at (next_of nodes at))
      × (length goes.rest < length walk.rest)
  walk_stays is = (
    record {
      linked = walk.linked;
      kept = walk.kept ++ at ∷ [];
      rest = later;
      list =
          subst (HasAllOf nodes code (get_or heads code none)) (append_one walk.kept at later) list;
      last_is = sym (last_push walk.kept at);
      at_is = next_is;
      done = each_push Has walk.kept at walk.done is;
    },
    omega (arith, rest_falls),
  )
