-- Watches that are laid out anew at level 0: the clauses get their literals one after another, and
-- then the chains are linked.
use Rattle.std.proofs.Common.{◌≡◌, ◌≢◌, ◌≤◌, ◌<◌, ◌+◌, ◌*◌, ℕ, Bool, true, false, List, length}
use Rattle.std.proofs.Common.{length-set, set, get_or, get_or-set_same, get_or-set_other, map}
use Rattle.std.proofs.Common.{refl, sym, ap, subst, ◌∙◌, arith, inl, inr, None}
use Rattle.std.specs.Prelude.{All, Contains}
use Rattle.std.proofs.lemmas.Bool.{cases_eq, false≢true}
use Rattle.std.proofs.lemmas.List.{get_or-map, length-map}
use Rattle.std.proofs.lemmas.List.Elements.{All-contains}
use Rattle.clause_store.specs.declared.literal.Lit.{Lit}
use Rattle.clause_store.specs.declared.step.Step.{Step}
use Rattle.clause_store.specs.Clause.{IsOver}
use Rattle.clause_store.specs.Trail.{Assigned, IsTrail, present_level}
use Rattle.clause_store.specs.Standing.{IsFalse, as_followed}
use Rattle.clause_store.proofs.LiteralLemmas.{lit_of_code}
use Rattle.propagator.specs.Watched.{Attached}
use Rattle.watched_literals.specs.declared.chains.Node.{Node}
use Rattle.watched_literals.specs.declared.left.Left.{Left}
use Rattle.watched_literals.specs.declared.left.Left.TheVariants.{True, Open, Pair, Few}
use Rattle.watched_literals.specs.declared.tables.Tables.{Tables}
use Rattle.watched_literals.specs.Chains.{none, code_of, lit_of}
use Rattle.watched_literals.specs.Laying.{AreFalseButTwo, AreLaid, AreLinkedAnew, IsLaid, IsLeft}
use Rattle.watched_literals.specs.Laying.{IsWritten, IsWrittenBy, no_lit}
use Rattle.watched_literals.specs.Walking.{IsRunning}
use Rattle.watched_literals.specs.Watching.{AreNone, AreOthersFalse, AreSettled, AreWatching}
use Rattle.watched_literals.specs.Watching.{HoldsForGood, IsFalseForGood, IsRow}
use Rattle.watched_literals.proofs.ChainLemmas.{node_other, node_same}
use Rattle.watched_literals.proofs.KnownLemmas.{level_below}
use Rattle.watched_literals.proofs.QuietLemmas.{false_made, settled_open, short_settled}
use Rattle.watched_literals.proofs.RunLemmas.{blank}

abbrev no_step : Step
no_step = record { lit = record { 0 = 0 }; reason = None; level = 0 }

-- ---- a clause is written

module _ (entries : List Attached) (trail : Assigned) (old new : Tables) (spot : ℕ)
    (one two : Lit) (place : ℕ) (was : AreLaid entries trail old spot)
    (within : spot < length entries) (is : IsWritten spot one two place old new)
    (count : length new.pending.waits ≡ length old.pending.waits)
    (others : (other : ℕ) → other ≢ spot
    → get_or new.pending.waits other false ≡ get_or old.pending.waits other false)
    (one_in : one.0 < 2 * trail.vars + 2) (two_in : two.0 < 2 * trail.vars + 2)
    (laid : (d : Attached)
    → IsLaid trail.steps (get_or entries spot d).lits place one two
    (get_or new.pending.waits spot false)) where
  abbrev first : Node
  first = record { lit = one; next = none }

  abbrev second : Node
  second = record { lit = two; next = none }

  abbrev half : List Node
  half = set old.chains.nodes.items (2 * spot) (record { lit = one; next = none })

  half_count : length half ≡ 2 * length entries
  half_count = length-set old.chains.nodes.items (2 * spot) first ∙ was.nodes

  count_is : length new.chains.nodes.items ≡ 2 * length entries
  count_is = ap length is.nodes ∙ length-set half (2 * spot + 1) second ∙ half_count

  lit_else : (n : ℕ) → n ≢ 2 * spot → n ≢ 2 * spot + 1
      → lit_of new.chains.nodes.items n ≡ lit_of old.chains.nodes.items n
  lit_else n not_one not_two =
      ap (λ ns. lit_of ns n) is.nodes
      ∙ ap (λ (it : Node). it.lit) (node_other half (2 * spot + 1) second n not_two)
      ∙ ap (λ (it : Node). it.lit)
      (node_other old.chains.nodes.items (2 * spot) first n not_one)

  lit_one : lit_of new.chains.nodes.items (2 * spot) ≡ one
  lit_one =
      ap (λ ns. lit_of ns (2 * spot)) is.nodes
      ∙ ap (λ (it : Node). it.lit)
      (node_other half (2 * spot + 1) second (2 * spot) (λ same. omega (arith, same)))
      ∙ ap (λ (it : Node). it.lit)
      (node_same old.chains.nodes.items (2 * spot) first (omega (arith, within, was.nodes)))

  lit_two : lit_of new.chains.nodes.items (2 * spot + 1) ≡ two
  lit_two =
      ap (λ ns. lit_of ns (2 * spot + 1)) is.nodes
      ∙ ap (λ (it : Node). it.lit)
      (node_same half (2 * spot + 1) second (omega (arith, within, half_count)))

  saved_here : get_or new.saved.items spot 0 ≡ place
  saved_here =
      ap (λ saved. get_or saved spot 0) is.saved
      ∙ get_or-set_same old.saved.items spot place 0 (omega (arith, within, was.saved))

  saved_else : (other : ℕ) → other ≢ spot
      → get_or new.saved.items other 0 ≡ get_or old.saved.items other 0
  saved_else other differs =
      ap (λ saved. get_or saved other 0) is.saved
      ∙ get_or-set_other old.saved.items spot other place 0 differs

  code_in : (n : ℕ) → n < length new.chains.nodes.items
      → code_of new.chains.nodes.items n < 2 * trail.vars + 2
  code_in n inside =
      elim (cases_eq n (2 * spot)) [
        | inl same ↦
            omega (
              arith,
              ap (code_of new.chains.nodes.items) same,
              ap (λ (it : Lit). it.0) lit_one,
              one_in,
            )
        | inr not_one ↦
            elim (cases_eq n (2 * spot + 1)) [
              | inl same ↦
                  omega (
                    arith,
                    ap (code_of new.chains.nodes.items) same,
                    ap (λ (it : Lit). it.0) lit_two,
                    two_in,
                  )
              | inr not_two ↦
                  omega (
                    arith,
                    ap (λ (it : Lit). it.0) (lit_else n not_one not_two),
                    was.coded n (omega (arith, inside, count_is, was.nodes)),
                  )
            ]
      ]

  laid_here : (d : Attached)
      → IsLaid trail.steps (get_or entries spot d).lits (get_or new.saved.items spot 0)
      (lit_of new.chains.nodes.items (2 * spot)) (lit_of new.chains.nodes.items (2 * spot + 1))
      (get_or new.pending.waits spot false)
  laid_here d = rw (saved_here, lit_one, lit_two) (laid d)

  laid_else : (number : ℕ) (d : Attached) → number < spot
      → IsLaid trail.steps (get_or entries number d).lits (get_or new.saved.items number 0)
      (lit_of new.chains.nodes.items (2 * number))
      (lit_of new.chains.nodes.items (2 * number + 1))
      (get_or new.pending.waits number false)
  laid_else number d before =
      rw (
        saved_else number (λ same. omega (arith, same, before)),
        lit_else (2 * number) (λ same. omega (arith, same, before))
            (λ same. omega (arith, same, before)),
        lit_else (2 * number + 1) (λ same. omega (arith, same, before))
            (λ same. omega (arith, same, before)),
        others number (λ same. omega (arith, same, before)),
      )
      (was.rows number d before)

  laid_next : AreLaid entries trail new (spot + 1)
  laid_next = record {
    heads = ap length is.heads ∙ was.heads;
    nodes = count_is;
    saved = ap length is.saved ∙ length-set old.saved.items spot place ∙ was.saved;
    waits = count ∙ was.waits;
    few = was.few;
    coded = code_in;
    rows =
        λ number d inside. elim (cases_eq number spot) [
          | inl same ↦
              subst
              (λ r. IsLaid trail.steps (get_or entries r d).lits (get_or new.saved.items r 0)
              (lit_of new.chains.nodes.items (2 * r))
              (lit_of new.chains.nodes.items (2 * r + 1))
              (get_or new.pending.waits r false)) (sym same) (laid_here d)
          | inr other ↦ laid_else number d (omega (arith, inside, other))
        ];
  }

-- ---- what is left of it

-- what is false at level 0 is so for good
false_for_good : (steps : List Step) (lit : Lit) → present_level steps ≡ 0 → IsFalse steps lit
    → IsFalseForGood (map as_followed steps) lit
false_for_good steps lit low is_false =
    let made = false_made steps lit is_false in (
      made.0,
      as_followed (get_or steps made.0 no_step),
      omega (arith, made.1, length-map steps as_followed),
      get_or-map as_followed steps made.0 no_step
          (as_followed (get_or steps made.0 no_step)) made.1,
      (made.2, omega (arith, low, level_below steps made.0 no_step made.1)),
    )

others_for_good : (steps : List Step) (lits : List Lit) (one two : Lit)
    → present_level steps ≡ 0 → AreFalseButTwo steps lits one two
    → AreOthersFalse (map as_followed steps) lits one two
others_for_good steps lits one two low falses k d within not_one not_two =
    false_for_good steps (get_or lits k d) low (falses k d within not_one not_two)

lit_in : (vars : ℕ) (lits : List Lit) (lit : Lit) → All (IsOver vars) lits → Contains lits lit
    → lit.0 < 2 * vars + 2
lit_in vars lits lit over here =
    let is : IsOver vars lit = All-contains (IsOver vars) lits lit over here in
    omega (arith, is.last)

-- one clause more gets its literals
pub laid_by : (entries : List Attached) (trail : Assigned) (old new : Tables) (spot : ℕ)
    (lits : List Lit) (left : Left) → AreLaid entries trail old spot → spot < length entries
    → present_level trail.steps ≡ 0 → All (IsOver trail.vars) lits
    → ((d : Attached) → (get_or entries spot d).lits ≡ lits)
    → IsLeft trail.steps lits left → IsWrittenBy spot left old new
    → AreLaid entries trail new (spot + 1)
laid_by entries trail old new spot lits left was within low over lits_are =
    go left
  where
    laid_lits : (place : ℕ) (one two : Lit) (waits : Bool)
        → IsLaid trail.steps lits place one two waits
        → (d : Attached) → IsLaid trail.steps (get_or entries spot d).lits place one two waits
    laid_lits place one two waits is d =
        subst (λ clause. IsLaid trail.steps clause place one two waits) (sym (lits_are d)) is

    same_count : new.pending ≡ old.pending
        → length new.pending.waits ≡ length old.pending.waits
    same_count same = ap (λ pending. length pending.waits) same

    same_else : new.pending ≡ old.pending → (other : ℕ) → other ≢ spot
        → get_or new.pending.waits other false ≡ get_or old.pending.waits other false
    same_else same other differs = ap (λ pending. get_or pending.waits other false) same

    go : (it : Left) → IsLeft trail.steps lits it → IsWrittenBy spot it old new
        → AreLaid entries trail new (spot + 1)
    go True holds (is, same) =
        laid_next entries trail old new spot no_lit no_lit 0 was within is (same_count same)
        (same_else same) (omega arith) (omega arith)
        (laid_lits 0 no_lit no_lit (get_or new.pending.waits spot false)
        (inr (record {
          none_is = record { one_none = refl; two_none = refl };
          good = λ off. holds;
        })))
    go (Open one two) open_is (is, same) =
        laid_next entries trail old new spot one two 0 was within is (same_count same)
        (same_else same) (lit_in trail.vars lits one over open_is.pair.one_here)
        (lit_in trail.vars lits two over open_is.pair.two_here)
        (laid_lits 0 one two (get_or new.pending.waits spot false)
        (inl (record {
          seated = record { pair = open_is.pair; binary = λ none_is. absurd (cc) };
          one_open = open_is.one_open;
          two_open = open_is.two_open;
        })))
    go (Pair one two) (open_is, falses) (is, same) =
        laid_next entries trail old new spot one two none was within is (same_count same)
        (same_else same) (lit_in trail.vars lits one over open_is.pair.one_here)
        (lit_in trail.vars lits two over open_is.pair.two_here)
        (laid_lits none one two (get_or new.pending.waits spot false)
        (inl (record {
          seated = record {
            pair = open_is.pair;
            binary = λ none_is. others_for_good trail.steps lits one two low falses;
          };
          one_open = open_is.one_open;
          two_open = open_is.two_open;
        })))
    go Few nothing (is, marked) =
        laid_next entries trail old new spot no_lit no_lit 0 was within is
        (ap length marked ∙ length-set old.pending.waits spot true)
        (λ other differs. ap (λ waits. get_or waits other false) marked
        ∙ get_or-set_other old.pending.waits spot other true false differs)
        (omega arith) (omega arith)
        (laid_lits 0 no_lit no_lit (get_or new.pending.waits spot false)
        (inr (record {
          none_is = record { one_none = refl; two_none = refl };
          good =
              λ off. absurd
              (false≢true
              (sym off ∙ ap (λ waits. get_or waits spot false) marked
              ∙ get_or-set_same old.pending.waits spot true false
              (omega (arith, within, was.waits))));
        })))

-- ---- the whole

-- before the first clause
pub laid_none : (clauses : List (List Lit)) (entries : List Attached) (trail : Assigned)
    (tables : Tables) (next : ℕ) → IsRunning clauses entries trail tables next
    → AreLaid entries trail tables 0
laid_none clauses entries trail tables next running = record {
  heads = running.watching.heads;
  nodes = running.watching.nodes;
  saved = running.watching.saved;
  waits = running.watching.waits;
  few = running.watching.few;
  coded =
      λ n inside. omega (
        arith,
        running.watching.linked.coded n inside,
        running.watching.heads,
      );
  rows = λ number d before. absurd (omega (arith, before));
}

module _ (entries : List Attached) (trail : Assigned) (mid new : Tables) (next : ℕ)
    (laid : AreLaid entries trail mid (length entries)) (is_trail : IsTrail trail)
    (anew : AreLinkedAnew mid.chains new.chains) (saved : new.saved ≡ mid.saved)
    (pending : new.pending ≡ mid.pending) (reached : next ≤ length trail.steps) where
  laid_row : (number : ℕ) (d : Attached) → number < length entries
      → IsLaid trail.steps (get_or entries number d).lits (get_or new.saved.items number 0)
      (lit_of new.chains.nodes.items (2 * number))
      (lit_of new.chains.nodes.items (2 * number + 1))
      (get_or new.pending.waits number false)
  laid_row number d within =
      rw (saved, pending, anew.same.lits (2 * number), anew.same.lits (2 * number + 1))
      (laid.rows number d within)

  row_of : (lits : List Lit) (place : ℕ) (one two : Lit) (waits : Bool)
      → IsLaid trail.steps lits place one two waits
      → IsRow (map as_followed trail.steps) lits place one two
  row_of lits place one two waits (inl at_open) = inl at_open.seated
  row_of lits place one two waits (inr at_none) = inr at_none.none_is

  settled_of : (lits : List Lit) (place : ℕ) (one two : Lit) (waits : Bool)
      → IsLaid trail.steps lits place one two waits
      → AreSettled (map as_followed trail.steps) next one two
  settled_of lits place one two waits (inl at_open) = record {
    first = settled_open trail one two is_trail at_open.one_open next;
    second = settled_open trail two one is_trail at_open.two_open next;
  }
  settled_of lits place one two waits (inr at_none) =
      short_settled trail one two is_trail at_none.none_is next

  good_of : (lits : List Lit) (place : ℕ) (one two : Lit) (waits : Bool) → AreNone one two
      → waits ≡ false → IsLaid trail.steps lits place one two waits
      → HoldsForGood (map as_followed trail.steps) lits
  good_of lits place one two waits none_is off (inl at_open) =
      absurd
      (at_open.seated.pair.differ
      (lit_of_code one two (none_is.one_none ∙ sym none_is.two_none)))
  good_of lits place one two waits none_is off (inr at_none) = at_none.good off

  -- what is laid out and linked is watched
  pub laid_watching : AreWatching trail.vars entries new (map as_followed trail.steps) next
  laid_watching = record {
    linked = anew.linked;
    heads = anew.same.heads ∙ laid.heads;
    nodes = anew.same.nodes ∙ laid.nodes;
    saved = ap (λ it. length it.items) saved ∙ laid.saved;
    waits = ap (λ it. length it.waits) pending ∙ laid.waits;
    few = laid.few;
    rows =
        λ number d within. row_of (get_or entries number d).lits
        (get_or new.saved.items number 0) (lit_of new.chains.nodes.items (2 * number))
        (lit_of new.chains.nodes.items (2 * number + 1))
        (get_or new.pending.waits number false) (laid_row number d within);
    settled =
        λ number within off. settled_of (get_or entries number blank).lits
        (get_or new.saved.items number 0) (lit_of new.chains.nodes.items (2 * number))
        (lit_of new.chains.nodes.items (2 * number + 1))
        (get_or new.pending.waits number false) (laid_row number blank within);
    detached =
        λ number d within none_is off. good_of (get_or entries number d).lits
        (get_or new.saved.items number 0) (lit_of new.chains.nodes.items (2 * number))
        (lit_of new.chains.nodes.items (2 * number + 1))
        (get_or new.pending.waits number false) none_is off (laid_row number d within);
    reached = omega (arith, reached, length-map trail.steps as_followed);
  }
