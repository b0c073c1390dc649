-- A node is put last and into the chain of its literal; and how long a walk can be.
use Rattle.std.proofs.Common.{◌≡◌, ◌≢◌, ◌≤◌, ◌<◌, ◌+◌, ℕ, zero, suc, eqb, Bool, true, false}
use Rattle.std.proofs.Common.{List, [], ◌∷◌, ◌++◌, length, length-append, length-set, get_or}
use Rattle.std.proofs.Common.{get_or-set_same, get_or-set_other, refl, sym, ap, subst, ◌∙◌, arith}
use Rattle.std.proofs.Common.{inl, inr, set}
use Rattle.std.specs.Prelude.{◌||◌}
use Rattle.std.specs.List.{list_any, IsDistinct, AllByRecursion}
use Rattle.std.proofs.lemmas.Bool.{cases_eq, cases_lt, eqb-true, eq-eqb, ne_eqb, cases_Bool}
use Rattle.std.proofs.lemmas.List.{get_or_append_left, get_or_push}
use Rattle.std.proofs.lemmas.Map.Steps.{length-le_from_distinct_below}
use Rattle.clause_store.specs.declared.literal.Lit.{Lit}
use Rattle.watched_literals.specs.declared.chains.Node.{Node}
use Rattle.watched_literals.specs.Chains.{none, node_of, code_of, next_of, Avoids}
use Rattle.watched_literals.specs.Chains.{IsChain, HasAllOf, AreLinked, IsWalk}
use Rattle.watched_literals.specs.Chains.{nodes_left, lit_of}
use Rattle.watched_literals.specs.declared.chains.Chains.{Chains}
use Rattle.watched_literals.specs.Rooms.{AreNodesPut}
use Rattle.watched_literals.proofs.ChainLemmas.{chain_more, chain_avoids_new}
use Rattle.watched_literals.proofs.ChainLemmas.{chain_rest, blank}

-- ---- one node more

module _ (nodes : List Node) (heads : List ℕ) (lit : Lit) (linked : AreLinked nodes heads)
    (room : length nodes < none) (to_within : lit.0 < length heads) where
  abbrev node : Node
  node = record { lit = lit; next = get_or heads lit.0 none }

  abbrev nodes1 : List Node
  nodes1 = nodes ++ node ∷ []

  abbrev heads1 : List ℕ
  heads1 = set heads lit.0 (length nodes)

  count : length nodes1 ≡ length nodes + 1
  count = omega (arith, length-append nodes (node ∷ []))

  node_here : node_of nodes1 (length nodes) ≡ node
  node_here = get_or_push nodes node blank (length nodes) refl

  code_here : code_of nodes1 (length nodes) ≡ lit.0
  code_here = ap (λ (it : Node). it.lit.0) node_here

  code_else : (n : ℕ) → n < length nodes → code_of nodes1 n ≡ code_of nodes n
  code_else n within =
      ap (λ (it : Node). it.lit.0) (get_or_append_left nodes (node ∷ []) blank n within)

  new_chain : (old : List ℕ) → HasAllOf nodes lit.0 (get_or heads lit.0 none) old
      → HasAllOf nodes1 lit.0 (get_or heads1 lit.0 none) (length nodes ∷ old)
  new_chain old was = record {
    chain =
        subst (λ first. IsChain nodes1 lit.0 first (length nodes ∷ old))
        (sym (get_or-set_same heads lit.0 (length nodes) none to_within)) (
          record {
            here = refl;
            within = omega (arith, count);
            own = code_here;
            once =
                chain_avoids_new nodes lit.0 (get_or heads lit.0 none) old (length nodes) was.chain
                (omega arith);
          },
          subst (λ (it : Node). IsChain nodes1 lit.0 it.next old) (sym node_here)
              (chain_more nodes node lit.0 (get_or heads lit.0 none) old was.chain),
        );
    all =
        λ n inside coded. elim (cases_lt n (length nodes)) [
          | inl before ↦ inr (was.all n before (sym (code_else n before) ∙ coded))
          | inr after ↦ inl (omega (arith, after, inside, count))
        ];
  }

  other_chain : (c : ℕ) (old : List ℕ) → c ≢ lit.0
      → HasAllOf nodes c (get_or heads c none) old
      → HasAllOf nodes1 c (get_or heads1 c none) old
  other_chain c old other was = record {
    chain =
        subst (λ first. IsChain nodes1 c first old)
        (sym (get_or-set_other heads lit.0 c (length nodes) none other))
        (chain_more nodes node c (get_or heads c none) old was.chain);
    all =
        λ n inside coded. elim (cases_lt n (length nodes)) [
          | inl before ↦ was.all n before (sym (code_else n before) ∙ coded)
          | inr after ↦
              let same : n ≡ length nodes = omega (arith, after, inside, count) in
              absurd (other (sym coded ∙ ap (code_of nodes1) same ∙ code_here))
        ];
  }

  -- where each node stands in the chain of its literal, the new one does too
  pub linked_with :
      AreLinked (nodes ++ record { lit = lit; next = get_or heads lit.0 none } ∷ [])
      (set heads lit.0 (length nodes))
  linked_with = record {
    few = omega (arith, count, room);
    coded =
        λ n inside. elim (cases_lt n (length nodes)) [
          | inl before ↦
              omega (
                arith,
                code_else n before,
                linked.coded n before,
                length-set heads lit.0 (length nodes),
              )
          | inr after ↦
              let same : n ≡ length nodes = omega (arith, after, inside, count) in
              omega (
                arith,
                ap (code_of nodes1) same ∙ code_here,
                to_within,
                length-set heads lit.0 (length nodes),
              )
        ];
    chains =
        λ c inside. elim (cases_eq c lit.0) [
          | inl same ↦
              subst (λ one. (xs : List ℕ) × HasAllOf nodes1 one (get_or heads1 one none) xs)
              (sym same)
              (let old = linked.chains lit.0 to_within in
              (length nodes ∷ old.0, new_chain old.0 old.1))
          | inr other ↦
              let old =
              linked.chains c (omega (arith, inside, length-set heads lit.0 (length nodes))) in
              (old.0, other_chain c old.0 other old.1)
        ];
  }

-- ---- how long a chain can be

avoids_distinct : (one : ℕ) (xs : List ℕ) → Avoids one xs
    → AllByRecursion (λ y. eqb one y ≡ false) xs
avoids_distinct one [] avoids = tt
avoids_distinct one (x ∷ xs) avoids = (
  ne_eqb one x (λ same. avoids.0 (sym same)),
  avoids_distinct one xs avoids.1,
)

chain_distinct : (nodes : List Node) (code at : ℕ) (xs : List ℕ) → IsChain nodes code at xs
    → IsDistinct eqb xs
unfolding IsDistinct
chain_distinct nodes code at [] chain = tt
chain_distinct nodes code at (x ∷ xs) chain = (
  avoids_distinct x xs chain.0.once,
  chain_distinct nodes code (next_of nodes x) xs chain.1,
)

or_false : (one two : Bool) → one ≡ false → one || two ≡ true → two ≡ true
or_false true two is either = absurd (cc)
or_false false two is either = either

chain_below : (nodes : List Node) (code at : ℕ) (xs : List ℕ) → IsChain nodes code at xs
    → (q : ℕ) → list_any (eqb q) xs ≡ true → q < length nodes
chain_below nodes code at [] chain q is = absurd (cc)
chain_below nodes code at (x ∷ xs) chain q is =
    elim (cases_Bool (eqb q x)) [
      | inl same ↦ omega (arith, eqb-true q x same, chain.0.within)
      | inr other ↦
          chain_below nodes code (next_of nodes x) xs chain.1 q
          (or_false (eqb q x) (list_any (eqb q) xs) other is)
    ]

chain_short : (nodes : List Node) (code at : ℕ) (xs : List ℕ) → IsChain nodes code at xs
    → length xs ≤ length nodes
chain_short nodes code at xs chain =
    length-le_from_distinct_below xs (length nodes) (chain_distinct nodes code at xs chain)
    (chain_below nodes code at xs chain)

left_of_chain : (most : ℕ) (nodes : List Node) (code at : ℕ) (xs : List ℕ)
    → IsChain nodes code at xs → length xs ≤ most → length nodes ≤ none
    → nodes_left most nodes at ≡ length xs
unfolding nodes_left
left_of_chain zero nodes code at [] chain short few = refl
left_of_chain zero nodes code at (x ∷ xs) chain short few = absurd (omega (arith, short))
left_of_chain (suc most) nodes code at [] chain short few = rw (eq-eqb at none chain) refl
left_of_chain (suc most) nodes code at (x ∷ xs) chain short few =
    let rest : nodes_left most nodes (next_of nodes x) ≡ length xs =
    left_of_chain most nodes code (next_of nodes x) xs chain.1 (omega (arith, short)) few in
    rw (ne_eqb at none (λ end. omega (arith, end, chain.0.here, chain.0.within, few)))
    (omega (arith, ap (λ one. nodes_left most nodes (next_of nodes one)) chain.0.here, rest))

-- a walk comes to its end: it has fewer nodes before it after each step
pub left_falls : (Has Gets : ℕ → Type 0) (nodes nodes1 : List Node) (heads heads1 : List ℕ)
    (code last last1 at : ℕ)
    → (walk : IsWalk Has nodes heads code last at) → (some : at ≢ none)
    → (goes : IsWalk Gets nodes1 heads1 code last1 (next_of nodes at))
    → length goes.rest < length walk.rest
    → nodes_left (length nodes1) nodes1 (next_of nodes at) < nodes_left (length nodes) nodes at
left_falls Has Gets nodes nodes1 heads heads1 code last last1 at walk some goes fewer =
    omega (
      arith,
      fewer,
      left_of_walk Gets nodes1 heads1 code last1 (next_of nodes at) goes,
      left_of_walk Has nodes heads code last at walk,
    )
  where
    left_of_walk : (Has : ℕ → Type 0) (nodes : List Node) (heads : List ℕ) (code last at : ℕ)
        → (walk : IsWalk Has nodes heads code last at)
        → nodes_left (length nodes) nodes at ≡ length walk.rest
    left_of_walk Has nodes heads code last at walk =
        let chain : IsChain nodes code at walk.rest =
        subst (λ first. IsChain nodes code first walk.rest) (sym walk.at_is)
        (chain_rest nodes code (get_or heads code none) walk.kept walk.rest walk.list.chain) in
        left_of_chain (length nodes) nodes code at walk.rest chain
        (chain_short nodes code at walk.rest chain) walk.linked.few

-- ---- two nodes more

-- the nodes and the heads with one node more
pub record IsOneMore (lit : Lit) (old new : Chains) : Type 0 where
  pub nodes :
      new.nodes.items
      ≡ old.nodes.items ++ record { lit = lit; next = get_or old.heads.items lit.0 none } ∷ []
  pub heads : new.heads.items ≡ set old.heads.items lit.0 (length old.nodes.items)

one_more_linked : (lit : Lit) (old new : Chains) → IsOneMore lit old new
    → length old.nodes.items < none → lit.0 < length old.heads.items
    → AreLinked old.nodes.items old.heads.items → AreLinked new.nodes.items new.heads.items
one_more_linked lit old new is room within linked =
    subst (λ nodes. AreLinked nodes new.heads.items) (sym is.nodes)
    (subst (AreLinked
    (old.nodes.items ++ record { lit = lit; next = get_or old.heads.items lit.0 none } ∷ []))
    (sym is.heads) (linked_with old.nodes.items old.heads.items lit linked room within))

one_more_before : (lit : Lit) (old new : Chains) → IsOneMore lit old new → (n : ℕ)
    → n < length old.nodes.items → lit_of new.nodes.items n ≡ lit_of old.nodes.items n
one_more_before lit old new is n within =
    ap (λ nodes. lit_of nodes n) is.nodes
    ∙ ap (λ (it : Node). it.lit)
    (get_or_append_left old.nodes.items
    (record { lit = lit; next = get_or old.heads.items lit.0 none } ∷ []) blank n within)

one_more_here : (lit : Lit) (old new : Chains) → IsOneMore lit old new
    → lit_of new.nodes.items (length old.nodes.items) ≡ lit
one_more_here lit old new is =
    ap (λ nodes. lit_of nodes (length old.nodes.items)) is.nodes
    ∙ ap (λ (it : Node). it.lit)
    (get_or_push old.nodes.items
    (record { lit = lit; next = get_or old.heads.items lit.0 none }) blank
    (length old.nodes.items) refl)

one_more_count : (lit : Lit) (old new : Chains) → IsOneMore lit old new
    → length new.nodes.items ≡ length old.nodes.items + 1
one_more_count lit old new is =
    ap length is.nodes
    ∙ length-append old.nodes.items
    (record { lit = lit; next = get_or old.heads.items lit.0 none } ∷ [])

pub two_more : (one two : Lit) (old half new : Chains) → IsOneMore one old half
    → IsOneMore two half new → length old.nodes.items + 2 ≤ none
    → one.0 < length old.heads.items → two.0 < length old.heads.items
    → AreNodesPut one two old new
two_more one two old half new first second room one_within two_within =
    let one_count = one_more_count one old half first in
    let heads_half : length half.heads.items ≡ length old.heads.items =
    ap length first.heads ∙ length-set old.heads.items one.0 (length old.nodes.items) in
    record {
      linked =
          λ linked. one_more_linked two half new second (omega (arith, one_count, room))
          (omega (arith, two_within, heads_half))
          (one_more_linked one old half first (omega (arith, room)) one_within linked);
      heads =
          ap length second.heads
          ∙ length-set half.heads.items two.0 (length half.nodes.items) ∙ heads_half;
      nodes = omega (arith, one_count, one_more_count two half new second);
      before =
          λ n within. one_more_before two half new second n (omega (arith, within, one_count))
          ∙ one_more_before one old half first n within;
      one_is =
          one_more_before two half new second (length old.nodes.items) (omega (arith, one_count))
          ∙ one_more_here one old half first;
      two_is =
          ap (lit_of new.nodes.items) (sym one_count) ∙ one_more_here two half new second;
    }
