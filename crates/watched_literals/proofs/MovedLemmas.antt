-- Watches when one node went into the chain of another literal.
use Rattle.std.proofs.Common.{◌≡◌, ◌≢◌, ◌<◌, ◌+◌, ◌*◌, ◌/◌, ℕ, false}
use Rattle.std.proofs.Common.{List}
use Rattle.std.proofs.Common.{length, length-set, get_or, set, get_or-set_same, get_or-set_other}
use Rattle.std.proofs.Common.{sym, ap, subst, ◌∙◌, arith, inl, inr, ◌⊎◌}
use Rattle.std.specs.Prelude.{Contains}
use Rattle.std.proofs.lemmas.Bool.{cases_eq}
use Rattle.clause_store.specs.declared.literal.Lit.{Lit}
use Rattle.clause_store.specs.Clause.{negation}
use Rattle.clause_store.specs.Standing.{Followed}
use Rattle.propagator.specs.Watched.{Attached}
use Rattle.watched_literals.specs.declared.chains.Node.{Node}
use Rattle.watched_literals.specs.declared.tables.Tables.{Tables}
use Rattle.watched_literals.specs.Chains.{none, node_of, lit_of, AreLinked, IsUnlinked}
use Rattle.watched_literals.specs.Watching.{IsTrueBy, IsSettled, AreSettled}
use Rattle.watched_literals.specs.Watching.{AreNone, AreWatching, HoldsForGood, IsDone, IsMoved}
use Rattle.watched_literals.specs.Watching.{IsPair, IsRow, partner_of}
use Rattle.watched_literals.proofs.ChainLemmas.{node_other, node_same}
use Rattle.watched_literals.proofs.KnownLemmas.{none_apart}

-- where a node was unlinked, the nodes have the literals that they had
module _ (nodes : List Node) (heads : List ℕ) (code last next : ℕ) (half : List Node)
    (half_heads : List ℕ) (is : IsUnlinked nodes heads code last next half half_heads)
    (last_within : last ≢ none → last < length nodes) where
  half_lits : (n : ℕ) → lit_of half n ≡ lit_of nodes n
  half_lits n =
      elim (cases_eq last none) [
        | inl first ↦ ap (λ ns. lit_of ns n) (is.first_nodes first)
        | inr later ↦
            ap (λ ns. lit_of ns n) (is.later_nodes later)
            ∙ elim (cases_eq n last) [
              | inl same ↦
                  ap
                  (lit_of
                  (set nodes last (record { lit = (node_of nodes last).lit; next = next }))) same
                  ∙ ap (λ (it : Node). it.lit)
                  (node_same nodes last
                  (record { lit = (node_of nodes last).lit; next = next }) (last_within later))
                  ∙ ap (lit_of nodes) (sym same)
              | inr other ↦
                  ap (λ (it : Node). it.lit)
                  (node_other nodes last
                  (record { lit = (node_of nodes last).lit; next = next }) n other)
            ]
      ]

  half_count : length half ≡ length nodes
  half_count =
      elim (cases_eq last none) [
        | inl first ↦ ap length (is.first_nodes first)
        | inr later ↦
            ap length (is.later_nodes later)
            ∙ length-set nodes last (record { lit = (node_of nodes last).lit; next = next })
      ]

  half_heads_count : length half_heads ≡ length heads
  half_heads_count =
      elim (cases_eq last none) [
        | inl first ↦ ap length (is.first_heads first) ∙ length-set heads code next
        | inr later ↦ ap length (is.later_heads later)
      ]

pub side : (at : ℕ) → (at ≡ 2 * (at / 2)) ⊎ (at ≡ 2 * (at / 2) + 1)
side at =
    elim (cases_eq at (2 * (at / 2))) [
      | inl even ↦ inl even
      | inr odd ↦ inr (grind (arith, odd))
    ]

module _ (vars : ℕ) (entries : List Attached) (old new : Tables) (known : List Followed)
    (next : ℕ) (lit to : Lit) (last at after : ℕ)
    (was : AreWatching vars entries old known next)
    (is : IsMoved lit to last at after old new)
    (last_within : last ≢ none → last < length old.chains.nodes.items)
    (within : at < length old.chains.nodes.items)
    (own : lit_of old.chains.nodes.items at ≡ lit)
    (linked : AreLinked new.chains.nodes.items new.chains.heads.items)
    (untrue : (level : ℕ) → ¬ IsTrueBy level known lit) where
  moved_node : Node
  moved_node = record { lit = to; next = get_or is.half_heads to.0 none }

  lit_here : lit_of new.chains.nodes.items at ≡ to
  lit_here =
      ap (λ ns. lit_of ns at) is.nodes
      ∙ ap (λ (it : Node). it.lit)
      (node_same is.half_nodes at (record { lit = to; next = get_or is.half_heads to.0 none })
      (omega (
        arith,
        within,
        half_count old.chains.nodes.items old.chains.heads.items lit.0 last after is.half_nodes
            is.half_heads is.unlinked last_within,
      )))

  lit_else : (n : ℕ) → n ≢ at
      → lit_of new.chains.nodes.items n ≡ lit_of old.chains.nodes.items n
  lit_else n other =
      ap (λ ns. lit_of ns n) is.nodes
      ∙ ap (λ (it : Node). it.lit)
      (node_other is.half_nodes at (record { lit = to; next = get_or is.half_heads to.0 none }) n
      other)
      ∙ half_lits old.chains.nodes.items old.chains.heads.items lit.0 last after is.half_nodes
      is.half_heads is.unlinked last_within n

  -- what was done stays so
  pub done_moved : (level node : ℕ) → IsDone old known level node → IsDone new known level node
  done_moved level node done off =
      let before : get_or old.pending.waits (node / 2) false ≡ false =
      ap (λ pending. get_or pending.waits (node / 2) false) (sym is.pending) ∙ off in
      elim (cases_eq (partner_of node) at) [
        | inl same ↦
            absurd
            (untrue level
            (subst (IsTrueBy level known) (ap (lit_of old.chains.nodes.items) same ∙ own)
            (done before)))
        | inr other ↦
            subst (IsTrueBy level known) (sym (lit_else (partner_of node) other)) (done before)
      ]

  module _ (fresh : (k : ℕ) (d : Followed) → k < next → k < length known
      → (get_or known k d).lit ≢ negation to)
      (here : (d : Attached) → Contains (get_or entries (at / 2) d).lits to)
      (differs : to ≢ lit_of old.chains.nodes.items (partner_of at))
      (seated : (d : Attached)
      → IsPair (get_or entries (at / 2) d).lits
      (lit_of old.chains.nodes.items (2 * (at / 2)))
      (lit_of old.chains.nodes.items (2 * (at / 2) + 1))) where
    row_within : at / 2 < length entries
    row_within =
        let n : at < 2 * length entries = omega (arith, within, was.nodes) in grind (arith, n)

    -- what is known of the other literal of the clause
    pub record IsOther (other : Lit) : Type 0 where
      pub other_here : (d : Attached) → Contains (get_or entries (at / 2) d).lits other
      pub other_settled :
          get_or old.pending.waits (at / 2) false ≡ false → IsSettled known next other lit

    other_is : IsOther (lit_of old.chains.nodes.items (partner_of at))
    other_is =
        elim (side at) [
          | inl even ↦
              let p : partner_of at ≡ 2 * (at / 2) + 1 = grind (arith, even) in
              record {
                other_here =
                    λ d. subst (Contains (get_or entries (at / 2) d).lits)
                    (ap (lit_of old.chains.nodes.items) (sym p))
                    (seated d).two_here;
                other_settled =
                    λ off. subst
                    (λ one. IsSettled known next one lit)
                    (ap (lit_of old.chains.nodes.items) (sym p))
                    (subst
                    (IsSettled known next (lit_of old.chains.nodes.items (2 * (at / 2) + 1)))
                    (ap (lit_of old.chains.nodes.items) (sym even) ∙ own)
                    (was.settled (at / 2) row_within off).second);
              }
          | inr odd ↦
              let p : partner_of at ≡ 2 * (at / 2) = grind (arith, odd) in
              record {
                other_here =
                    λ d. subst (Contains (get_or entries (at / 2) d).lits)
                    (ap (lit_of old.chains.nodes.items) (sym p))
                    (seated d).one_here;
                other_settled =
                    λ off. subst
                    (λ one. IsSettled known next one lit)
                    (ap (lit_of old.chains.nodes.items) (sym p))
                    (subst
                    (IsSettled known next (lit_of old.chains.nodes.items (2 * (at / 2))))
                    (ap (lit_of old.chains.nodes.items) (sym odd) ∙ own)
                    (was.settled (at / 2) row_within off).first);
              }
        ]

    to_settled : (other : Lit) → IsSettled known next to other
    to_settled other k d before inside makes = absurd (fresh k d before inside makes)

    other_settles : get_or old.pending.waits (at / 2) false ≡ false
        → IsSettled known next (lit_of old.chains.nodes.items (partner_of at)) to
    other_settles off k d before inside makes =
        absurd
        (untrue (get_or known k d).level (other_is.other_settled off k d before inside makes))

    off_before : (number : ℕ) → get_or new.pending.waits number false ≡ false
        → get_or old.pending.waits number false ≡ false
    off_before number off = ap (λ pending. get_or pending.waits number false) (sym is.pending) ∙ off

    saved_else : (number : ℕ) → number ≢ at / 2
        → get_or new.saved.items number 0 ≡ get_or old.saved.items number 0
    saved_else number other =
        ap (λ saved. get_or saved number 0) is.saved
        ∙ get_or-set_other old.saved.items (at / 2) number is.place 0 other

    saved_here : get_or new.saved.items (at / 2) 0 ≡ is.place
    saved_here =
        ap (λ saved. get_or saved (at / 2) 0) is.saved
        ∙ get_or-set_same old.saved.items (at / 2) is.place 0
        (omega (arith, row_within, was.saved))

    row_else : (number : ℕ) (d : Attached) → number < length entries → number ≢ at / 2
        → IsRow known (get_or entries number d).lits (get_or new.saved.items number 0)
        (lit_of new.chains.nodes.items (2 * number))
        (lit_of new.chains.nodes.items (2 * number + 1))
    row_else number d inside other =
        rw (
          saved_else number other,
          lit_else (2 * number) (λ same. other (grind (arith, same))),
          lit_else (2 * number + 1) (λ same. other (grind (arith, same))),
        )
        (was.rows number d inside)

    settled_else : (number : ℕ) → number < length entries → number ≢ at / 2
        → get_or new.pending.waits number false ≡ false
        → AreSettled known next (lit_of new.chains.nodes.items (2 * number))
        (lit_of new.chains.nodes.items (2 * number + 1))
    settled_else number inside other off =
        rw (
          lit_else (2 * number) (λ same. other (grind (arith, same))),
          lit_else (2 * number + 1) (λ same. other (grind (arith, same))),
        )
        (was.settled number inside (off_before number off))

    pair_here : (d : Attached)
        → IsPair (get_or entries (at / 2) d).lits
        (lit_of new.chains.nodes.items (2 * (at / 2)))
        (lit_of new.chains.nodes.items (2 * (at / 2) + 1))
    pair_here d =
        elim (side at) [
          | inl even ↦
              let p : partner_of at ≡ 2 * (at / 2) + 1 = grind (arith, even) in
              rw (
                ap (lit_of new.chains.nodes.items) (sym even) ∙ lit_here,
                lit_else (2 * (at / 2) + 1) (λ same. omega (arith, same, even))
                    ∙ ap (lit_of old.chains.nodes.items) (sym p),
              )
              (record {
                one_here = here d;
                two_here = other_is.other_here d;
                differ = differs;
              })
          | inr odd ↦
              let p : partner_of at ≡ 2 * (at / 2) = grind (arith, odd) in
              rw (
                ap (lit_of new.chains.nodes.items) (sym odd) ∙ lit_here,
                lit_else (2 * (at / 2)) (λ same. omega (arith, same, odd))
                    ∙ ap (lit_of old.chains.nodes.items) (sym p),
              )
              (record {
                one_here = other_is.other_here d;
                two_here = here d;
                differ = λ same. differs (sym same);
              })
        ]

    row_here : (d : Attached)
        → IsRow known (get_or entries (at / 2) d).lits (get_or new.saved.items (at / 2) 0)
        (lit_of new.chains.nodes.items (2 * (at / 2)))
        (lit_of new.chains.nodes.items (2 * (at / 2) + 1))
    row_here d =
        inl (record {
          pair = pair_here d;
          binary = λ none_is. absurd (is.short (sym saved_here ∙ none_is));
        })

    good_else : (number : ℕ) (d : Attached) → number < length entries
        → AreNone (lit_of new.chains.nodes.items (2 * number))
        (lit_of new.chains.nodes.items (2 * number + 1))
        → get_or new.pending.waits number false ≡ false
        → HoldsForGood known (get_or entries number d).lits
    good_else number d inside none_is off =
        elim (cases_eq number (at / 2)) [
          | inl same ↦
              absurd
              (none_apart (get_or entries (at / 2) d).lits
              (lit_of new.chains.nodes.items (2 * (at / 2)))
              (lit_of new.chains.nodes.items (2 * (at / 2) + 1)) (pair_here d)
              (subst
              (λ r. AreNone (lit_of new.chains.nodes.items (2 * r))
              (lit_of new.chains.nodes.items (2 * r + 1))) same none_is))
          | inr other ↦
              was.detached number d inside
              (subst
              (λ lit. AreNone lit (lit_of old.chains.nodes.items (2 * number + 1)))
              (lit_else (2 * number) (λ same. other (grind (arith, same))))
              (subst (AreNone (lit_of new.chains.nodes.items (2 * number)))
              (lit_else (2 * number + 1) (λ same. other (grind (arith, same)))) none_is))
              (off_before number off)
        ]

    settled_here : get_or new.pending.waits (at / 2) false ≡ false
        → AreSettled known next (lit_of new.chains.nodes.items (2 * (at / 2)))
        (lit_of new.chains.nodes.items (2 * (at / 2) + 1))
    settled_here off =
        elim (side at) [
          | inl even ↦
              let p : partner_of at ≡ 2 * (at / 2) + 1 = grind (arith, even) in
              rw (
                ap (lit_of new.chains.nodes.items) (sym even) ∙ lit_here,
                lit_else (2 * (at / 2) + 1) (λ same. omega (arith, same, even))
                    ∙ ap (lit_of old.chains.nodes.items) (sym p),
              )
              (record {
                first = to_settled (lit_of old.chains.nodes.items (partner_of at));
                second = other_settles (off_before (at / 2) off);
              })
          | inr odd ↦
              let p : partner_of at ≡ 2 * (at / 2) = grind (arith, odd) in
              rw (
                ap (lit_of new.chains.nodes.items) (sym odd) ∙ lit_here,
                lit_else (2 * (at / 2)) (λ same. omega (arith, same, odd))
                    ∙ ap (lit_of old.chains.nodes.items) (sym p),
              )
              (record {
                first = other_settles (off_before (at / 2) off);
                second = to_settled (lit_of old.chains.nodes.items (partner_of at));
              })
        ]

    pub watching_moved : AreWatching vars entries new known next
    watching_moved = record {
      linked = linked;
      heads =
          ap length is.heads ∙ length-set is.half_heads to.0 at
          ∙ half_heads_count old.chains.nodes.items old.chains.heads.items lit.0 last after
          is.half_nodes is.half_heads is.unlinked last_within
          ∙ was.heads;
      nodes =
          ap length is.nodes
          ∙ length-set is.half_nodes at
          (record { lit = to; next = get_or is.half_heads to.0 none })
          ∙ half_count old.chains.nodes.items old.chains.heads.items lit.0 last after is.half_nodes
          is.half_heads is.unlinked last_within
          ∙ was.nodes;
      saved = ap length is.saved ∙ length-set old.saved.items (at / 2) is.place ∙ was.saved;
      waits = ap (λ pending. length pending.waits) is.pending ∙ was.waits;
      few = was.few;
      rows =
          λ number d inside. elim (cases_eq number (at / 2)) [
            | inl same ↦
                subst
                (λ r. IsRow known (get_or entries r d).lits (get_or new.saved.items r 0)
                (lit_of new.chains.nodes.items (2 * r))
                (lit_of new.chains.nodes.items (2 * r + 1))) (sym same) (row_here d)
            | inr other ↦ row_else number d inside other
          ];
      settled =
          λ number inside off. elim (cases_eq number (at / 2)) [
            | inl same ↦
                subst
                (λ r. AreSettled known next (lit_of new.chains.nodes.items (2 * r))
                (lit_of new.chains.nodes.items (2 * r + 1))) (sym same)
                (settled_here (ap (λ r. get_or new.pending.waits r false) (sym same) ∙ off))
            | inr other ↦ settled_else number inside other off
          ];
      detached = good_else;
      reached = was.reached;
    }
