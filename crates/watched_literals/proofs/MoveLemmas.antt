-- A node moves from the chain of one literal into that of another.
use Rattle.std.proofs.Common.{◌≡◌, ◌≢◌, ◌≤◌, ◌<◌, ℕ, List, [], ◌∷◌, ◌++◌, length}
use Rattle.std.proofs.Common.{length-set, get_or, get_or-set_same, get_or-set_other, refl, sym, ap}
use Rattle.std.proofs.Common.{subst, ◌∙◌, arith, inl, inr, set}
use Rattle.std.proofs.lemmas.Bool.{cases_eq}
use Rattle.clause_store.specs.declared.literal.Lit.{Lit}
use Rattle.watched_literals.specs.declared.chains.Node.{Node}
use Rattle.watched_literals.specs.Chains.{none, node_of, code_of, next_of}
use Rattle.watched_literals.specs.Chains.{IsChain, HasAllOf, AreLinked, IsWalk, IsUnlinked}
use Rattle.watched_literals.specs.Chains.{first_of_list, last_of_list}
use Rattle.watched_literals.proofs.ChainLemmas.{avoids_both, among_without}
use Rattle.watched_literals.proofs.ChainLemmas.{node_other, node_same, chain_frame, chain_avoids}
use Rattle.watched_literals.proofs.ChainLemmas.{chain_apart, chain_rest, chain_cut, chain_put}
use Rattle.watched_literals.proofs.WalkLemmas.{last_own, later, list, next_is}
use Rattle.watched_literals.proofs.WalkLemmas.{walk_within, walk_own, rest_falls}

-- one chain lost a node; the others stayed
record IsCut (nodes : List Node) (heads : List ℕ) (code : ℕ) (left : List ℕ)
    (nodes1 : List Node) (heads1 : List ℕ) : Type 0 where
  count : length nodes1 ≡ length nodes
  heads_count : length heads1 ≡ length heads
  codes : (n : ℕ) → code_of nodes1 n ≡ code_of nodes n
  chain : IsChain nodes1 code (get_or heads1 code none) left
  heads_stay : (c : ℕ) → c ≢ code → get_or heads1 c none ≡ get_or heads c none
  stay : (c at : ℕ) (xs : List ℕ) → c ≢ code → IsChain nodes c at xs → IsChain nodes1 c at xs

cut_first : (nodes : List Node) (heads : List ℕ) (code at : ℕ) (rest : List ℕ)
    → code < length heads → IsChain nodes code (get_or heads code none) (at ∷ rest)
    → IsCut nodes heads code rest nodes (set heads code (first_of_list rest))
cut_first nodes heads code at rest within chain = record {
  count = refl;
  heads_count = length-set heads code (first_of_list rest);
  codes = λ n. refl;
  chain =
      subst (λ first. IsChain nodes code first rest)
      (sym (get_or-set_same heads code (first_of_list rest) none within))
      (chain_rest nodes code (get_or heads code none) (at ∷ []) rest chain);
  heads_stay = λ c other. get_or-set_other heads code c (first_of_list rest) none other;
  stay = λ c first xs other is. is;
}

cut_later : (nodes : List Node) (heads : List ℕ) (code at x : ℕ) (xs rest : List ℕ)
    → IsChain nodes code (get_or heads code none) ((x ∷ xs) ++ at ∷ rest)
    → IsCut nodes heads code ((x ∷ xs) ++ rest)
    (set nodes (last_of_list (x ∷ xs))
    (record { lit = (node_of nodes (last_of_list (x ∷ xs))).lit; next = first_of_list rest }))
    heads
cut_later nodes heads code at x xs rest chain =
    record {
      count = length-set nodes last node;
      heads_count = refl;
      codes = codes;
      chain = chain_cut nodes code (get_or heads code none) x xs at rest chain;
      heads_stay = λ c other. refl;
      stay =
          λ c first ys other is. chain_frame nodes last node c first ys
          (chain_avoids nodes c first ys last is (λ same. other (sym same ∙ own.1))) is;
    }
  where
    last : ℕ
    last = last_of_list (x ∷ xs)

    node : Node
    node = record { lit = (node_of nodes last).lit; next = first_of_list rest }

    own : (last < length nodes) × (code_of nodes last ≡ code)
    own = last_own nodes code (get_or heads code none) x xs (at ∷ rest) chain

    codes : (n : ℕ) → code_of (set nodes last node) n ≡ code_of nodes n
    codes n =
        elim (cases_eq n last) [
          | inl same ↦
              ap (code_of (set nodes last node)) same
              ∙ ap (λ (it : Node). it.lit.0) (node_same nodes last node own.0)
              ∙ ap (code_of nodes) (sym same)
          | inr other ↦ ap (λ (it : Node). it.lit.0) (node_other nodes last node n other)
        ]

cut : (nodes : List Node) (heads : List ℕ) (code last at : ℕ) (kept rest : List ℕ)
    (nodes1 : List Node) (heads1 : List ℕ) → code < length heads → length nodes ≤ none
    → last ≡ last_of_list kept
    → IsChain nodes code (get_or heads code none) (kept ++ at ∷ rest)
    → IsUnlinked nodes heads code last (first_of_list rest) nodes1 heads1
    → IsCut nodes heads code (kept ++ rest) nodes1 heads1
cut nodes heads code last at [] rest nodes1 heads1 within few last_is chain is =
    subst (λ ns. IsCut nodes heads code rest ns heads1) (sym (is.first_nodes last_is))
    (subst (λ hs. IsCut nodes heads code rest nodes hs) (sym (is.first_heads last_is))
    (cut_first nodes heads code at rest within chain))
cut nodes heads code last at (x ∷ xs) rest nodes1 heads1 within few last_is chain is =
    let own = last_own nodes code (get_or heads code none) x xs (at ∷ rest) chain in
    let some : last ≢ none = λ e. omega (arith, own.0, few, e, last_is) in
    subst (λ ns. IsCut nodes heads code ((x ∷ xs) ++ rest) ns heads1)
    (sym (is.later_nodes some
    ∙ ap (λ (l : ℕ). set nodes l
    (record { lit = (node_of nodes l).lit; next = first_of_list rest })) last_is))
    (subst (λ hs. IsCut nodes heads code ((x ∷ xs) ++ rest)
    (set nodes (last_of_list (x ∷ xs))
    (record { lit = (node_of nodes (last_of_list (x ∷ xs))).lit; next = first_of_list rest })) hs)
    (sym (is.later_heads some))
    (cut_later nodes heads code at x xs rest chain))

module _ (nodes : List Node) (heads : List ℕ) (code at : ℕ) (kept rest : List ℕ)
    (nodes1 : List Node) (heads1 : List ℕ) (to : Lit) (linked : AreLinked nodes heads)
    (list_is : HasAllOf nodes code (get_or heads code none) (kept ++ at ∷ rest))
    (is : IsCut nodes heads code (kept ++ rest) nodes1 heads1) (within : at < length nodes)
    (own : code_of nodes at ≡ code) (other_to : to.0 ≢ code) (to_within : to.0 < length heads)
  where
    abbrev node : Node
    node = record { lit = to; next = get_or heads1 to.0 none }

    abbrev nodes2 : List Node
    nodes2 = set nodes1 at node

    abbrev heads2 : List ℕ
    heads2 = set heads1 to.0 at

    within1 : at < length nodes1
    within1 = omega (arith, within, is.count)

    code_here : code_of nodes2 at ≡ to.0
    code_here = ap (λ (it : Node). it.lit.0) (node_same nodes1 at node within1)

    code_else : (n : ℕ) → n ≢ at → code_of nodes2 n ≡ code_of nodes n
    code_else n other =
        ap (λ (it : Node). it.lit.0) (node_other nodes1 at node n other) ∙ is.codes n

    count2 : length nodes2 ≡ length nodes
    count2 = length-set nodes1 at node ∙ is.count

    heads_count2 : length heads2 ≡ length heads
    heads_count2 = length-set heads1 to.0 at ∙ is.heads_count

    head_else : (c : ℕ) → c ≢ to.0 → get_or heads2 c none ≡ get_or heads1 c none
    head_else c other = get_or-set_other heads1 to.0 c at none other

    -- the chain that it left
    left_chain : HasAllOf nodes2 code (get_or heads2 code none) (kept ++ rest)
    left_chain = record {
      chain =
          subst (λ first. IsChain nodes2 code first (kept ++ rest))
          (sym (head_else code (λ same. other_to (sym same))))
          (chain_frame nodes1 at node code (get_or heads1 code none) (kept ++ rest)
          (avoids_both at kept rest
          (chain_apart nodes code (get_or heads code none) kept at rest list_is.chain)
          (chain_rest nodes code (get_or heads code none) kept (at ∷ rest) list_is.chain).0.once)
          is.chain);
      all =
          λ n inside coded. let other : n ≢ at =
          λ same. other_to (sym code_here ∙ ap (code_of nodes2) (sym same) ∙ coded) in
          among_without n kept at rest (λ same. other (sym same))
          (list_is.all n (omega (arith, inside, count2)) (sym (code_else n other) ∙ coded));
    }

    -- the chain that it came into
    new_chain : (old : List ℕ) → HasAllOf nodes to.0 (get_or heads to.0 none) old
        → HasAllOf nodes2 to.0 (get_or heads2 to.0 none) (at ∷ old)
    new_chain old was = record {
      chain =
          subst (λ first. IsChain nodes2 to.0 first (at ∷ old))
          (sym (get_or-set_same heads1 to.0 at none (omega (arith, to_within, is.heads_count))))
          (chain_put nodes1 to.0 (get_or heads1 to.0 none) at node old within1 refl refl
          (chain_avoids nodes to.0 (get_or heads to.0 none) old at was.chain
          (λ same. other_to (sym same ∙ own)))
          (subst (λ first. IsChain nodes1 to.0 first old) (sym (is.heads_stay to.0 other_to))
          (is.stay to.0 (get_or heads to.0 none) old other_to was.chain)));
      all =
          λ n inside coded. elim (cases_eq n at) [
            | inl same ↦ inl (sym same)
            | inr other ↦
                inr
                (was.all n (omega (arith, inside, count2)) (sym (code_else n other) ∙ coded))
          ];
    }

    -- any other chain
    other_chain : (c : ℕ) (old : List ℕ) → c ≢ to.0 → c ≢ code
        → HasAllOf nodes c (get_or heads c none) old
        → HasAllOf nodes2 c (get_or heads2 c none) old
    other_chain c old not_to not_code was = record {
      chain =
          subst (λ first. IsChain nodes2 c first old)
          (sym (head_else c not_to ∙ is.heads_stay c not_code))
          (chain_frame nodes1 at node c (get_or heads c none) old
          (chain_avoids nodes c (get_or heads c none) old at was.chain
          (λ same. not_code (sym same ∙ own)))
          (is.stay c (get_or heads c none) old not_code was.chain));
      all =
          λ n inside coded. let other : n ≢ at =
          λ same. not_to (sym coded ∙ ap (code_of nodes2) same ∙ code_here) in
          was.all n (omega (arith, inside, count2)) (sym (code_else n other) ∙ coded);
    }

    linked2 : AreLinked nodes2 heads2
    linked2 = record {
      few = omega (arith, linked.few, count2);
      coded =
          λ n inside. elim (cases_eq n at) [
            | inl same ↦
                omega (arith, ap (code_of nodes2) same ∙ code_here, to_within, heads_count2)
            | inr other ↦
                omega (
                  arith,
                  code_else n other,
                  linked.coded n (omega (arith, inside, count2)),
                  heads_count2,
                )
          ];
      chains =
          λ c inside. elim (cases_eq c to.0) [
            | inl same ↦
                subst (λ one. (xs : List ℕ) × HasAllOf nodes2 one (get_or heads2 one none) xs)
                (sym same)
                (let old = linked.chains to.0 to_within in (at ∷ old.0, new_chain old.0 old.1))
            | inr not_to ↦
                elim (cases_eq c code) [
                  | inl same ↦
                      subst (λ one. (xs : List ℕ) × HasAllOf nodes2 one (get_or heads2 one none) xs)
                      (sym same)
                      (kept ++ rest, left_chain)
                  | inr not_code ↦
                      let old = linked.chains c (omega (arith, inside, heads_count2)) in
                      (old.0, other_chain c old.0 not_to not_code old.1)
                ]
          ];
    }

    moved :
        HasAllOf (set nodes1 at (record { lit = to; next = get_or heads1 to.0 none })) code
        (get_or (set heads1 to.0 at) code none) (kept ++ rest)
        × AreLinked (set nodes1 at (record { lit = to; next = get_or heads1 to.0 none }))
        (set heads1 to.0 at)
    moved = (left_chain, linked2)

-- a walk goes on when the node moved to the chain of another literal
pub walk_moves : (Has : ℕ → Type 0) (nodes : List Node) (heads : List ℕ) (code last at : ℕ)
    (to : Lit) (nodes1 : List Node) (heads1 : List ℕ)
    → (walk : IsWalk Has nodes heads code last at)
    → at ≢ none → code < length heads → to.0 ≢ code → to.0 < length heads
    → IsUnlinked nodes heads code last (next_of nodes at) nodes1 heads1
    → (goes : IsWalk Has (set nodes1 at (record { lit = to; next = get_or heads1 to.0 none }))
    (set heads1 to.0 at) code last (next_of nodes at)) × (length goes.rest < length walk.rest)
walk_moves Has nodes heads code last at to nodes1 heads1 walk some within other to_within is =
    let all = list Has nodes heads code last at walk some in
    let rest : List ℕ = later Has nodes heads code last at walk some in
    let next = next_is Has nodes heads code last at walk some in
    let is_cut : IsCut nodes heads code (walk.kept ++ rest) nodes1 heads1 =
    cut nodes heads code last at walk.kept rest nodes1 heads1 within walk.linked.few walk.last_is
    all.chain
    (subst (λ one. IsUnlinked nodes heads code last one nodes1 heads1) next is) in
    let both =
    moved nodes heads code at walk.kept rest nodes1 heads1 to walk.linked all is_cut
    (walk_within Has nodes heads code last at walk some)
    (walk_own Has nodes heads code last at walk some) other to_within in (
      record {
        linked = both.1;
        kept = walk.kept;
        rest = rest;
        list = both.0;
        last_is = walk.last_is;
        at_is = next;
        done = walk.done;
      },
      omega (arith, rest_falls Has nodes heads code last at walk some),
    )
