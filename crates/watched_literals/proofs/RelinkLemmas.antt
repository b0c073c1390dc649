-- Chains that are built anew from the literals of the nodes, one node after another.
use Rattle.std.proofs.Common.{◌≡◌, ◌≢◌, ◌≤◌, ◌<◌, ◌+◌, ℕ, List, [], ◌∷◌, length, length-set, set}
use Rattle.std.proofs.Common.{get_or, get_or-set_same, get_or-set_other, refl, sym, ap, subst}
use Rattle.std.proofs.Common.{◌∙◌, arith, inl, inr}
use Rattle.std.proofs.lemmas.Bool.{cases_eq}
use Rattle.clause_store.specs.declared.literal.Lit.{Lit}
use Rattle.watched_literals.specs.declared.chains.Chains.{Chains}
use Rattle.watched_literals.specs.declared.chains.Node.{Node}
use Rattle.watched_literals.specs.Chains.{none, code_of, lit_of, AreEach, AreLinked, Avoids}
use Rattle.watched_literals.specs.Chains.{IsChain}
use Rattle.watched_literals.specs.Laying.{AreCoded, AreEmpty, AreFirstLinked, AreOfSameLits}
use Rattle.watched_literals.specs.Laying.{HasAllFirst}
use Rattle.watched_literals.proofs.ChainLemmas.{chain_frame, chain_put, node_other, node_same}

-- empty chains have no node
pub first_none : (nodes : List Node) (heads : List ℕ) → AreCoded nodes heads → AreEmpty heads
    → AreFirstLinked nodes heads 0
first_none nodes heads coded empty = record {
  coded = coded;
  chains =
      λ code within. (
        [],
        record {
          chain = empty code within;
          all = λ node before. absurd (omega (arith, before));
          first = tt;
        },
      );
}

each_avoids : (count : ℕ) (xs : List ℕ) → AreEach (λ node. node < count) xs → Avoids count xs
each_avoids count [] each = tt
each_avoids count (x ∷ xs) each =
    (λ same. omega (arith, same, each.0), each_avoids count xs each.1)

each_more : (count : ℕ) (xs : List ℕ) → AreEach (λ node. node < count) xs
    → AreEach (λ node. node < count + 1) xs
each_more count [] each = tt
each_more count (x ∷ xs) each = (omega (arith, each.0), each_more count xs each.1)

module _ (nodes : List Node) (heads : List ℕ) (at : ℕ) (lit : Lit)
    (was : AreFirstLinked nodes heads at) (within : at < length nodes)
    (own : lit_of nodes at ≡ lit) where
  abbrev node : Node
  node = record { lit = lit; next = get_or heads lit.0 none }

  abbrev nodes1 : List Node
  nodes1 = set nodes at node

  abbrev heads1 : List ℕ
  heads1 = set heads lit.0 at

  -- the literals of the nodes stay
  pub lits_still : (n : ℕ)
      → lit_of (set nodes at (record { lit = lit; next = get_or heads lit.0 none })) n
      ≡ lit_of nodes n
  lits_still n =
      elim (cases_eq n at) [
        | inl same ↦
            ap (lit_of nodes1) same
            ∙ ap (λ (it : Node). it.lit) (node_same nodes at node within)
            ∙ sym own
            ∙ ap (lit_of nodes) (sym same)
        | inr other ↦ ap (λ (it : Node). it.lit) (node_other nodes at node n other)
      ]

  code_still : (n : ℕ) → code_of nodes1 n ≡ code_of nodes n
  code_still n = ap (λ (it : Lit). it.0) (lits_still n)

  head : lit.0 < length heads
  head = omega (arith, was.coded at within, ap (λ (it : Lit). it.0) own)

  new_first : (old : List ℕ) → HasAllFirst nodes lit.0 (get_or heads lit.0 none) at old
      → HasAllFirst nodes1 lit.0 (get_or heads1 lit.0 none) (at + 1) (at ∷ old)
  new_first old has = record {
    chain =
        subst (λ first. IsChain nodes1 lit.0 first (at ∷ old))
        (sym (get_or-set_same heads lit.0 at none head))
        (chain_put nodes lit.0 (get_or heads lit.0 none) at node old within refl refl
        (each_avoids at old has.first) has.chain);
    all =
        λ n before coded. elim (cases_eq n at) [
          | inl same ↦ inl (sym same)
          | inr other ↦
              inr (has.all n (omega (arith, before, other)) (sym (code_still n) ∙ coded))
        ];
    first = (omega arith, each_more at old has.first);
  }

  other_first : (code : ℕ) (old : List ℕ) → code ≢ lit.0
      → HasAllFirst nodes code (get_or heads code none) at old
      → HasAllFirst nodes1 code (get_or heads1 code none) (at + 1) old
  other_first code old other has = record {
    chain =
        subst (λ first. IsChain nodes1 code first old)
        (sym (get_or-set_other heads lit.0 code at none other))
        (chain_frame nodes at node code (get_or heads code none) old
        (each_avoids at old has.first) has.chain);
    all =
        λ n before coded. elim (cases_eq n at) [
          | inl same ↦
              absurd
              (other
              (sym coded ∙ code_still n ∙ ap (code_of nodes) same
              ∙ ap (λ (it : Lit). it.0) own))
          | inr differs ↦
              has.all n (omega (arith, before, differs)) (sym (code_still n) ∙ coded)
        ];
    first = each_more at old has.first;
  }

  -- one node more is linked
  pub first_next :
      AreFirstLinked (set nodes at (record { lit = lit; next = get_or heads lit.0 none }))
      (set heads lit.0 at) (at + 1)
  first_next = record {
    coded =
        λ n inside. omega (
          arith,
          code_still n,
          was.coded n (omega (arith, inside, length-set nodes at node)),
          length-set heads lit.0 at,
        );
    chains =
        λ code inside. let old = was.chains code (omega (
          arith,
          inside,
          length-set heads lit.0 at,
        )) in
        elim (cases_eq code lit.0) [
          | inl same ↦ (
            at ∷ old.0,
            subst (λ c. HasAllFirst nodes1 c (get_or heads1 c none) (at + 1) (at ∷ old.0))
                (sym same)
                (new_first old.0
                (subst (λ c. HasAllFirst nodes c (get_or heads c none) at old.0) same old.1)),
          )
          | inr other ↦ (old.0, other_first code old.0 other old.1)
        ];
  }

-- once all nodes are linked, each is in the chain of its literal
pub all_linked : (nodes : List Node) (heads : List ℕ) (count : ℕ) → length nodes ≤ none
    → length nodes ≤ count → AreFirstLinked nodes heads count → AreLinked nodes heads
all_linked nodes heads count few reached is = record {
  few = few;
  coded = is.coded;
  chains =
      λ code within. let list = is.chains code within in (
        list.0,
        record {
          chain = list.1.chain;
          all = λ n inside coded. list.1.all n (omega (arith, inside, reached)) coded;
        },
      );
}

-- a step of the loop: one node is put first into the chain of its literal
pub relinked : (first old new : Chains) (at : ℕ) (lit : Lit)
    → AreFirstLinked old.nodes.items old.heads.items at → at < length old.nodes.items
    → lit_of old.nodes.items at ≡ lit → AreOfSameLits first old
    → new.nodes.items
    ≡ set old.nodes.items at (record { lit = lit; next = get_or old.heads.items lit.0 none })
    → new.heads.items ≡ set old.heads.items lit.0 at
    → AreFirstLinked new.nodes.items new.heads.items (at + 1) × AreOfSameLits first new
relinked first old new at lit was within own same nodes heads = (
  rw (nodes, heads) (first_next old.nodes.items old.heads.items at lit was within own),
  record {
    nodes =
        ap length nodes
        ∙ length-set old.nodes.items at
        (record { lit = lit; next = get_or old.heads.items lit.0 none })
        ∙ same.nodes;
    heads = ap length heads ∙ length-set old.heads.items lit.0 at ∙ same.heads;
    lits =
        λ n. ap (λ ns. lit_of ns n) nodes
        ∙ lits_still old.nodes.items old.heads.items at lit was within own n
        ∙ same.lits n;
  },
)
