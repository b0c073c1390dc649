-- Watches while assignments are followed: more assignments, one more pending clause, one node
-- in another chain, and one chain that was walked to its end.
use Rattle.std.proofs.Common.{◌≡◌, ◌≢◌, ◌≤◌, ◌<◌, ◌+◌, ◌*◌, ◌/◌, ℕ, Bool, true, false}
use Rattle.std.proofs.Common.{List, ◌++◌, length, length-append, length-set, get_or, map}
use Rattle.std.proofs.Common.{set}
use Rattle.std.proofs.Common.{get_or-set_same, get_or-set_other, refl, sym, ap, subst, ◌∙◌, arith}
use Rattle.std.proofs.Common.{inl, inr}
use Rattle.std.proofs.lemmas.Bool.{cases_eq, false≢true}
use Rattle.std.proofs.lemmas.List.{get_or_append_left, length-map, map-append}
use Rattle.clause_store.specs.declared.literal.Lit.{Lit}
use Rattle.clause_store.specs.declared.step.Step.{Step}
use Rattle.clause_store.specs.Clause.{negation}
use Rattle.clause_store.specs.Standing.{Followed, as_followed}
use Rattle.clause_store.proofs.LiteralLemmas.{negation-negation}
use Rattle.propagator.specs.Watched.{Attached}
use Rattle.watched_literals.specs.declared.chains.Node.{Node}
use Rattle.watched_literals.specs.declared.tables.Tables.{Tables}
use Rattle.watched_literals.specs.Chains.{lit_of, code_of, AreLinked}
use Rattle.watched_literals.specs.Watching.{IsTrueBy, IsSettled, AreSettled}
use Rattle.watched_literals.specs.Watching.{AreNone, AreWatching, HoldsForGood, IsDone, partner_of}
use Rattle.watched_literals.proofs.KnownLemmas.{row_maps, true_more}

-- ---- more assignments

settled_more : (steps added : List Step) (next : ℕ) (lit other : Lit) → next ≤ length steps
    → IsSettled (map as_followed steps) next lit other
    → IsSettled (map as_followed (steps ++ added)) next lit other
settled_more steps added next lit other reached is at d before inside makes =
    let within : at < length (map as_followed steps) =
    omega (arith, before, reached, length-map steps as_followed) in
    let same : get_or (map as_followed (steps ++ added)) at d
    ≡ get_or (map as_followed steps) at d =
    ap (λ all. get_or all at d) (map-append as_followed steps added)
    ∙ get_or_append_left (map as_followed steps) (map as_followed added) d at within in
    subst (λ (f : Followed). IsTrueBy f.level (map as_followed (steps ++ added)) other) (sym same)
    (true_more steps added (get_or (map as_followed steps) at d).level other
    (is at d before within (sym (ap (λ (f : Followed). f.lit) same) ∙ makes)))

good_more : (steps added : List Step) (lits : List Lit) → HoldsForGood (map as_followed steps) lits
    → HoldsForGood (map as_followed (steps ++ added)) lits
good_more steps added lits (k, lit, within, is, p) =
    (k, lit, within, is, true_more steps added 0 lit p)

-- what is watched stays so
pub watching_more : (vars : ℕ) (entries : List Attached) (tables : Tables)
    (steps added : List Step) (next : ℕ)
    → AreWatching vars entries tables (map as_followed steps) next
    → AreWatching vars entries tables (map as_followed (steps ++ added)) next
watching_more vars entries tables steps added next was =
    let reached : next ≤ length steps = omega (arith, was.reached, length-map steps as_followed) in
    record {
      linked = was.linked;
      heads = was.heads;
      nodes = was.nodes;
      saved = was.saved;
      waits = was.waits;
      few = was.few;
      rows =
          λ row d within. row_maps (map as_followed steps) (map as_followed (steps ++ added)) _ _ _
          _ (λ lit is. true_more steps added 0 lit is) (was.rows row d within);
      settled =
          λ row within off. let both = was.settled row within off in
          record {
            first = settled_more steps added next _ _ reached both.first;
            second = settled_more steps added next _ _ reached both.second;
          };
      detached =
          λ row d within none_is off. good_more steps added _
          (was.detached row d within none_is off);
      reached =
          omega (
            arith,
            reached,
            length-map (steps ++ added) as_followed,
            length-append steps added,
          );
    }

-- and what was done stays so
pub done_more : (tables : Tables) (steps added : List Step) (level node : ℕ)
    → IsDone tables (map as_followed steps) level node
    → IsDone tables (map as_followed (steps ++ added)) level node
done_more tables steps added level node is off =
    true_more steps added level (lit_of tables.chains.nodes.items (partner_of node)) (is off)

-- ---- one clause more is pending

-- a clause that is watched at no literal was so before
none_before : (old new : Tables) → new.chains ≡ old.chains → (row : ℕ)
    → AreNone (lit_of new.chains.nodes.items (2 * row))
    (lit_of new.chains.nodes.items (2 * row + 1))
    → AreNone (lit_of old.chains.nodes.items (2 * row))
    (lit_of old.chains.nodes.items (2 * row + 1))
none_before old new same row none_is =
    subst
    (λ chains. AreNone (lit_of chains.nodes.items (2 * row))
    (lit_of chains.nodes.items (2 * row + 1))) same none_is

waits_off : (waits : List Bool) (row other : ℕ) → row < length waits
    → get_or (set waits row true) other false ≡ false
    → (other ≢ row) × (get_or waits other false ≡ false)
waits_off waits row other within off =
    elim (cases_eq other row) [
      | inl same ↦
          absurd
          (false≢true
          (sym off ∙ ap (λ k. get_or (set waits row true) k false) same
          ∙ get_or-set_same waits row true false within))
      | inr differs ↦
          (differs, sym (get_or-set_other waits row other true false differs) ∙ off)
    ]

-- tables with nothing changed but that a clause is pending
pub record IsMarked (row : ℕ) (old new : Tables) : Type 0 where
  pub chains : new.chains ≡ old.chains
  pub saved : new.saved ≡ old.saved
  pub waits : new.pending.waits ≡ set old.pending.waits row true

module _ (vars : ℕ) (entries : List Attached) (old new : Tables) (known : List Followed)
    (next row : ℕ) (was : AreWatching vars entries old known next) (is : IsMarked row old new)
    (within : row < length entries) where
  off_before : (other : ℕ) → get_or new.pending.waits other false ≡ false
      → (other ≢ row) × (get_or old.pending.waits other false ≡ false)
  off_before other off =
      waits_off old.pending.waits row other (omega (arith, within, was.waits))
      (sym (ap (λ waits. get_or waits other false) is.waits) ∙ off)

  pub watching_marked : AreWatching vars entries new known next
  watching_marked = record {
    linked =
        subst (λ chains. AreLinked chains.nodes.items chains.heads.items) (sym is.chains)
        was.linked;
    heads = ap (λ chains. length chains.heads.items) is.chains ∙ was.heads;
    nodes = ap (λ chains. length chains.nodes.items) is.chains ∙ was.nodes;
    saved = ap (λ saved. length saved.items) is.saved ∙ was.saved;
    waits = ap length is.waits ∙ length-set old.pending.waits row true ∙ was.waits;
    few = was.few;
    rows = λ other d inside. rw (is.chains, is.saved) (was.rows other d inside);
    settled =
        λ other inside off. rw is.chains (was.settled other inside (off_before other off).1);
    detached =
        λ other d inside none_is off. was.detached other d inside
        (none_before old new is.chains other none_is) (off_before other off).1;
    reached = was.reached;
  }

  -- what was done stays so
  pub done_marked : (level node : ℕ) → IsDone old known level node → IsDone new known level node
  done_marked level node done off =
      rw is.chains (done (off_before (node / 2) off).1)

  -- and the nodes of that clause are done
  pub done_here : (level node : ℕ) → node / 2 ≡ row → IsDone new known level node
  done_here level node same off = absurd ((off_before (node / 2) off).0 same)

-- ---- nothing changed but the stack

-- tables that are the same but for the order of the stack
pub record AreAlike (old new : Tables) : Type 0 where
  pub chains : new.chains ≡ old.chains
  pub saved : new.saved ≡ old.saved
  pub waits : new.pending.waits ≡ old.pending.waits

module _ (old new : Tables) (known : List Followed) (is : AreAlike old new) where
  waits_alike : (row : ℕ) → get_or new.pending.waits row false ≡ false
      → get_or old.pending.waits row false ≡ false
  waits_alike row off = ap (λ waits. get_or waits row false) (sym is.waits) ∙ off

  pub done_alike : (level node : ℕ) → IsDone old known level node → IsDone new known level node
  done_alike level node done off = rw is.chains (done (waits_alike (node / 2) off))

  pub watching_alike : (vars : ℕ) (entries : List Attached) (next : ℕ)
      → AreWatching vars entries old known next → AreWatching vars entries new known next
  watching_alike vars entries next was = record {
    linked =
        subst (λ chains. AreLinked chains.nodes.items chains.heads.items) (sym is.chains)
        was.linked;
    heads = ap (λ chains. length chains.heads.items) is.chains ∙ was.heads;
    nodes = ap (λ chains. length chains.nodes.items) is.chains ∙ was.nodes;
    saved = ap (λ saved. length saved.items) is.saved ∙ was.saved;
    waits = ap length is.waits ∙ was.waits;
    few = was.few;
    rows = λ row d inside. rw (is.chains, is.saved) (was.rows row d inside);
    settled = λ row inside off. rw is.chains (was.settled row inside (waits_alike row off));
    detached =
        λ row d inside none_is off. was.detached row d inside
        (none_before old new is.chains row none_is) (waits_alike row off);
    reached = was.reached;
  }

-- ---- one clause less is pending

-- the clause of a row has a literal that is true for good, if it is watched at none
abbrev pub AreGood : List Followed → List Attached → Tables → ℕ → Type 0
AreGood known entries tables row =
    (d : Attached)
    → AreNone (lit_of tables.chains.nodes.items (2 * row))
    (lit_of tables.chains.nodes.items (2 * row + 1))
    → HoldsForGood known (get_or entries row d).lits

-- tables with nothing changed but that a clause isn't pending
pub record IsUnmarked (row : ℕ) (old new : Tables) : Type 0 where
  pub chains : new.chains ≡ old.chains
  pub saved : new.saved ≡ old.saved
  pub waits : new.pending.waits ≡ set old.pending.waits row false

pub watching_unmarked : (vars : ℕ) (entries : List Attached) (old new : Tables)
    (known : List Followed) (next row : ℕ) → AreWatching vars entries old known next
    → IsUnmarked row old new
    → AreSettled known next (lit_of old.chains.nodes.items (2 * row))
    (lit_of old.chains.nodes.items (2 * row + 1))
    → AreGood known entries old row
    → AreWatching vars entries new known next
watching_unmarked vars entries old new known next row was is settled good =
    record {
      linked =
          subst (λ chains. AreLinked chains.nodes.items chains.heads.items) (sym is.chains)
          was.linked;
      heads = ap (λ chains. length chains.heads.items) is.chains ∙ was.heads;
      nodes = ap (λ chains. length chains.nodes.items) is.chains ∙ was.nodes;
      saved = ap (λ saved. length saved.items) is.saved ∙ was.saved;
      waits = ap length is.waits ∙ length-set old.pending.waits row false ∙ was.waits;
      few = was.few;
      rows = λ number d inside. rw (is.chains, is.saved) (was.rows number d inside);
      settled =
          λ number inside off. rw is.chains
          (elim (cases_eq number row) [
            | inl same ↦
                subst
                (λ r. AreSettled known next (lit_of old.chains.nodes.items (2 * r))
                (lit_of old.chains.nodes.items (2 * r + 1))) (sym same) settled
            | inr other ↦ was.settled number inside (off_else number other off)
          ]);
      detached =
          λ number d inside none_is off. elim (cases_eq number row) [
            | inl same ↦
                subst (λ r. HoldsForGood known (get_or entries r d).lits) (sym same)
                (good d
                (subst
                (λ r. AreNone (lit_of old.chains.nodes.items (2 * r))
                (lit_of old.chains.nodes.items (2 * r + 1))) same
                (none_before old new is.chains number none_is)))
            | inr other ↦
                was.detached number d inside (none_before old new is.chains number none_is)
                (off_else number other off)
          ];
      reached = was.reached;
    }
  where
    off_else : (number : ℕ) → number ≢ row → get_or new.pending.waits number false ≡ false
        → get_or old.pending.waits number false ≡ false
    off_else number other off =
        sym (get_or-set_other old.pending.waits row number false false other)
        ∙ ap (λ waits. get_or waits number false) (sym is.waits)
        ∙ off

-- ---- a chain was walked to its end

half_even : (row : ℕ) → (2 * row) / 2 ≡ row
half_even row = grind arith

half_odd : (row : ℕ) → (2 * row + 1) / 2 ≡ row
half_odd row = grind arith

partner_even : (row : ℕ) → partner_of (2 * row) ≡ 2 * row + 1
partner_even row = grind arith

partner_odd : (row : ℕ) → partner_of (2 * row + 1) ≡ 2 * row
partner_odd row = grind arith

pub watching_next : (vars : ℕ) (entries : List Attached) (tables : Tables)
    (known : List Followed) (next : ℕ) (fell : Followed)
    → AreWatching vars entries tables known next → next < length known
    → ((d : Followed) → get_or known next d ≡ fell)
    → ((node : ℕ) → node < length tables.chains.nodes.items
    → code_of tables.chains.nodes.items node ≡ (negation fell.lit).0
    → IsDone tables known fell.level node)
    → AreWatching vars entries tables known (next + 1)
watching_next vars entries tables known next fell was inside fell_is done =
    record {
      linked = was.linked;
      heads = was.heads;
      nodes = was.nodes;
      saved = was.saved;
      waits = was.waits;
      few = was.few;
      rows = was.rows;
      settled =
          λ row within off. let both = was.settled row within off in
          record {
            first =
                settled (2 * row) row (lit_of nodes (2 * row)) (lit_of nodes (2 * row + 1)) refl
                (ap (lit_of nodes) (partner_even row))
                (omega (arith, within, was.nodes)) (half_even row) off both.first;
            second =
                settled (2 * row + 1) row (lit_of nodes (2 * row + 1)) (lit_of nodes (2 * row)) refl
                (ap (lit_of nodes) (partner_odd row))
                (omega (arith, within, was.nodes)) (half_odd row) off both.second;
          };
      detached = was.detached;
      reached = omega (arith, inside);
    }
  where
    nodes : List Node
    nodes = tables.chains.nodes.items

    settled : (node row : ℕ) (lit other : Lit) → lit_of tables.chains.nodes.items node ≡ lit
        → lit_of tables.chains.nodes.items (partner_of node) ≡ other
        → node < length tables.chains.nodes.items → node / 2 ≡ row
        → get_or tables.pending.waits row false ≡ false → IsSettled known next lit other
        → IsSettled known (next + 1) lit other
    settled node row lit other lit_is other_is within half off is at d before there makes =
        elim (cases_eq at next) [
          | inr earlier ↦ is at d (omega (arith, before, earlier)) there makes
          | inl same ↦
              let here : get_or known at d ≡ fell =
              ap (λ k. get_or known k d) same ∙ fell_is d in
              let coded : code_of tables.chains.nodes.items node ≡ (negation fell.lit).0 =
              ap (λ (l : Lit). l.0) lit_is
              ∙ ap (λ (l : Lit). l.0) (sym (negation-negation lit))
              ∙ ap (λ (l : Lit). (negation l).0)
              (sym makes ∙ ap (λ (f : Followed). f.lit) here) in
              subst (λ (f : Followed). IsTrueBy f.level known other) (sym here)
              (subst (IsTrueBy fell.level known) other_is
              (done node within coded
              (ap (λ k. get_or tables.pending.waits k false) half ∙ off)))
        ]
