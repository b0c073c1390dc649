-- The chains of nodes: what stays of them when a node is written, and walks along them.
use Rattle.std.proofs.Common.{◌≡◌, ◌≢◌, ◌≤◌, ◌<◌, ℕ, List, [], ◌∷◌, ◌++◌}
use Rattle.std.proofs.Common.{length, length-append, length-set, get_or-set_same}
use Rattle.std.proofs.Common.{get_or-set_other, refl, sym, ap, subst, ◌∙◌, arith, inl, inr, set}
use Rattle.std.proofs.lemmas.List.{get_or_append_left}
use Rattle.watched_literals.specs.declared.chains.Node.{Node}
use Rattle.watched_literals.specs.Chains.{node_of, code_of, next_of, Avoids, IsAmong}
use Rattle.watched_literals.specs.Chains.{IsChain, AreEach}
use Rattle.watched_literals.specs.Chains.{first_of_list, last_of_list}

abbrev pub blank : Node
blank = record { lit = record { 0 = 0 }; next = 4294967295 }

-- ---- lists of numbers

-- what is avoided by a list is avoided by its parts
pub avoids_left : (one : ℕ) (xs ys : List ℕ) → Avoids one (xs ++ ys) → Avoids one xs
avoids_left one [] ys is = tt
avoids_left one (x ∷ xs) ys is = (is.0, avoids_left one xs ys is.1)

pub avoids_right : (one : ℕ) (xs ys : List ℕ) → Avoids one (xs ++ ys) → Avoids one ys
avoids_right one [] ys is = is
avoids_right one (x ∷ xs) ys is = avoids_right one xs ys is.1

pub avoids_both : (one : ℕ) (xs ys : List ℕ) → Avoids one xs → Avoids one ys → Avoids one (xs ++ ys)
avoids_both one [] ys first second = second
avoids_both one (x ∷ xs) ys first second = (first.0, avoids_both one xs ys first.1 second)

-- and so is a list without one of its numbers
pub avoids_without : (one : ℕ) (xs : List ℕ) (y : ℕ) (ys : List ℕ) → Avoids one (xs ++ y ∷ ys)
    → Avoids one (xs ++ ys)
avoids_without one [] y ys is = is.1
avoids_without one (x ∷ xs) y ys is = (is.0, avoids_without one xs y ys is.1)

-- a number that is avoided isn't the last one of a list that goes on
pub avoids_last : (one x : ℕ) (xs ys : List ℕ) → Avoids one ((x ∷ xs) ++ ys)
    → last_of_list (x ∷ xs) ≢ one
avoids_last one x [] ys is = is.0
avoids_last one x (next ∷ xs) ys is = avoids_last one next xs ys is.1

-- a number that is among others, but not one of them, is among the rest
pub among_without : (one : ℕ) (xs : List ℕ) (y : ℕ) (ys : List ℕ) → y ≢ one
    → IsAmong one (xs ++ y ∷ ys) → IsAmong one (xs ++ ys)
among_without one [] y ys other (inl is) = absurd (other is)
among_without one [] y ys other (inr is) = is
among_without one (x ∷ xs) y ys other (inl is) = inl is
among_without one (x ∷ xs) y ys other (inr is) = inr (among_without one xs y ys other is)

-- what is of each of a list is of one among them
pub each_among : (Has : ℕ → Type 0) (one : ℕ) (xs : List ℕ) → AreEach Has xs → IsAmong one xs
    → Has one
each_among Has one [] each is = elim is [ ]
each_among Has one (x ∷ xs) each (inl is) = subst Has is each.0
each_among Has one (x ∷ xs) each (inr is) = each_among Has one xs each.1 is

pub each_push : (Has : ℕ → Type 0) (xs : List ℕ) (x : ℕ) → AreEach Has xs → Has x
    → AreEach Has (xs ++ x ∷ [])
each_push Has [] y each is = (is, tt)
each_push Has (x ∷ xs) y each is = (each.0, each_push Has xs y each.1 is)

pub last_push : (xs : List ℕ) (x : ℕ) → last_of_list (xs ++ x ∷ []) ≡ x
last_push [] y = refl
last_push (x ∷ []) y = refl
last_push (x ∷ next ∷ xs) y = last_push (next ∷ xs) y

pub append_one : (xs : List ℕ) (x : ℕ) (ys : List ℕ) → xs ++ x ∷ ys ≡ (xs ++ x ∷ []) ++ ys
append_one [] y ys = refl
append_one (x ∷ xs) y ys = ap (λ list. x ∷ list) (append_one xs y ys)

-- ---- a node is written

module _ (nodes : List Node) (k : ℕ) (node : Node) where
  pub node_other : (at : ℕ) → at ≢ k → node_of (set nodes k node) at ≡ node_of nodes at
  node_other at other = get_or-set_other nodes k at node blank other

  pub node_same : k < length nodes → node_of (set nodes k node) k ≡ node
  node_same within = get_or-set_same nodes k node blank within

  -- a chain that avoids it stays
  pub chain_frame : (code at : ℕ) (xs : List ℕ) → Avoids k xs → IsChain nodes code at xs
      → IsChain (set nodes k node) code at xs
  chain_frame code at [] avoids chain = chain
  chain_frame code at (x ∷ xs) avoids chain =
      let link = chain.0 in
      let same = node_other x avoids.0 in (
        record {
          here = link.here;
          within = omega (arith, link.within, length-set nodes k node);
          own = ap (λ (it : Node). it.lit.0) same ∙ link.own;
          once = link.once;
        },
        subst (λ (it : Node). IsChain (set nodes k node) code it.next xs) (sym same)
            (chain_frame code (next_of nodes x) xs avoids.1 chain.1),
      )

-- a chain stays when a node is put last
pub chain_more : (nodes : List Node) (node : Node) (code at : ℕ) (xs : List ℕ)
    → IsChain nodes code at xs → IsChain (nodes ++ node ∷ []) code at xs
chain_more nodes node code at [] chain = chain
chain_more nodes node code at (x ∷ xs) chain =
    let link = chain.0 in
    let same : node_of (nodes ++ node ∷ []) x ≡ node_of nodes x =
    get_or_append_left nodes (node ∷ []) blank x link.within in (
      record {
        here = link.here;
        within = omega (arith, link.within, length-append nodes (node ∷ []));
        own = ap (λ (it : Node). it.lit.0) same ∙ link.own;
        once = link.once;
      },
      subst (λ (it : Node). IsChain (nodes ++ node ∷ []) code it.next xs) (sym same)
          (chain_more nodes node code (next_of nodes x) xs chain.1),
    )

-- a chain for one literal avoids a node for another, and a number that no node has
pub chain_avoids : (nodes : List Node) (code at : ℕ) (xs : List ℕ) (k : ℕ)
    → IsChain nodes code at xs
    → code_of nodes k ≢ code → Avoids k xs
chain_avoids nodes code at [] k chain other = tt
chain_avoids nodes code at (x ∷ xs) k chain other = (
  λ same. other (ap (code_of nodes) (sym same) ∙ chain.0.own),
  chain_avoids nodes code (next_of nodes x) xs k chain.1 other,
)

pub chain_avoids_new : (nodes : List Node) (code at : ℕ) (xs : List ℕ) (k : ℕ)
    → IsChain nodes code at xs → length nodes ≤ k → Avoids k xs
chain_avoids_new nodes code at [] k chain new = tt
chain_avoids_new nodes code at (x ∷ xs) k chain new = (
  λ same. omega (arith, same, chain.0.within, new),
  chain_avoids_new nodes code (next_of nodes x) xs k chain.1 new,
)

-- a chain begins at its first number
pub chain_first : (nodes : List Node) (code at : ℕ) (xs : List ℕ) → IsChain nodes code at xs
    → at ≡ first_of_list xs
chain_first nodes code at [] chain = chain
chain_first nodes code at (x ∷ xs) chain = chain.0.here

-- a part of it is a chain
pub chain_rest : (nodes : List Node) (code at : ℕ) (xs ys : List ℕ)
    → IsChain nodes code at (xs ++ ys)
    → IsChain nodes code (first_of_list ys) ys
chain_rest nodes code at [] ys chain =
    subst (λ first. IsChain nodes code first ys) (chain_first nodes code at ys chain) chain
chain_rest nodes code at (x ∷ xs) ys chain =
    chain_rest nodes code (next_of nodes x) xs ys chain.1

-- a number stands but once in a chain
pub chain_apart : (nodes : List Node) (code at : ℕ) (xs : List ℕ) (k : ℕ) (ys : List ℕ)
    → IsChain nodes code at (xs ++ k ∷ ys) → Avoids k xs
chain_apart nodes code at [] k ys chain = tt
chain_apart nodes code at (x ∷ xs) k ys chain = (
  λ same. (avoids_right x xs (k ∷ ys) chain.0.once).0 (sym same),
  chain_apart nodes code (next_of nodes x) xs k ys chain.1,
)

-- ---- a node goes out of a chain

-- the node before it goes on where it went on
pub chain_cut : (nodes : List Node) (code at x : ℕ) (xs : List ℕ) (k : ℕ) (ys : List ℕ)
    → IsChain nodes code at ((x ∷ xs) ++ k ∷ ys)
    → IsChain
    (set nodes (last_of_list (x ∷ xs))
    (record { lit = (node_of nodes (last_of_list (x ∷ xs))).lit; next = first_of_list ys }))
    code at ((x ∷ xs) ++ ys)
chain_cut nodes code at x [] k ys chain =
    let link = chain.0 in
    let node : Node = record { lit = (node_of nodes x).lit; next = first_of_list ys } in
    let same : node_of (set nodes x node) x ≡ node = node_same nodes x node link.within in
    let rest : IsChain nodes code (first_of_list ys) ys =
    chain_rest nodes code at (x ∷ k ∷ []) ys chain in (
      record {
        here = link.here;
        within = omega (arith, link.within, length-set nodes x node);
        own = ap (λ (it : Node). it.lit.0) same ∙ link.own;
        once = link.once.1;
      },
      subst (λ (it : Node). IsChain (set nodes x node) code it.next ys) (sym same)
          (chain_frame nodes x node code (first_of_list ys) ys link.once.1 rest),
    )
chain_cut nodes code at x (next ∷ xs) k ys chain =
    let link = chain.0 in
    let last : ℕ = last_of_list (next ∷ xs) in
    let node : Node = record { lit = (node_of nodes last).lit; next = first_of_list ys } in
    let same : node_of (set nodes last node) x ≡ node_of nodes x =
    node_other nodes last node x
    (λ is. avoids_last x next xs (k ∷ ys) link.once (sym is)) in (
      record {
        here = link.here;
        within = omega (arith, link.within, length-set nodes last node);
        own = ap (λ (it : Node). it.lit.0) same ∙ link.own;
        once = avoids_without x (next ∷ xs) k ys link.once;
      },
      subst (λ (it : Node). IsChain (set nodes last node) code it.next ((next ∷ xs) ++ ys))
          (sym same)
          (chain_cut nodes code (next_of nodes x) next xs k ys chain.1),
    )

-- ---- a node comes first into a chain

-- a node that is in no chain, written with its literal and the head
pub chain_put : (nodes : List Node) (code at k : ℕ) (node : Node) (xs : List ℕ) → k < length nodes
    → node.lit.0 ≡ code → node.next ≡ at → Avoids k xs → IsChain nodes code at xs
    → IsChain (set nodes k node) code k (k ∷ xs)
chain_put nodes code at k node xs within own next avoids chain =
    let same = node_same nodes k node within in (
      record {
        here = refl;
        within = omega (arith, within, length-set nodes k node);
        own = ap (λ (it : Node). it.lit.0) same ∙ own;
        once = avoids;
      },
      subst (λ (it : Node). IsChain (set nodes k node) code it.next xs) (sym same)
          (subst (λ first. IsChain (set nodes k node) code first xs) (sym next)
          (chain_frame nodes k node code at xs avoids chain)),
    )
