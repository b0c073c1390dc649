-- What keeps a run of propagation and a walk in it: assignments that come last, a clause that
-- becomes pending, and each step of a walk.
use Rattle.std.proofs.Common.{◌≡◌, ◌≢◌, ◌≤◌, ◌<◌, ◌+◌, ◌/◌, ℕ, List, []}
use Rattle.std.proofs.Common.{◌++◌, length, length-append, get_or, set, map, refl, sym, ap, subst}
use Rattle.std.proofs.Common.{◌∙◌, arith, inl, inr, None}
use Rattle.std.specs.Prelude.{Contains}
use Rattle.std.proofs.lemmas.List.{get_or_append_left, get_or_default, length-map, map-append}
use Rattle.clause_store.specs.declared.literal.Lit.{Lit}
use Rattle.clause_store.specs.declared.literal.Value.TheVariants.{Yes, No}
use Rattle.clause_store.specs.declared.step.Step.{Step}
use Rattle.clause_store.specs.Clause.{negation, variable, IsOver}
use Rattle.clause_store.specs.Trail.{Assigned, IsTrail, IsTrailOf, value_of}
use Rattle.clause_store.specs.Standing.{Followed, as_followed, IsFalse, IsFalseOn}
use Rattle.clause_store.proofs.LiteralLemmas.{lit_of_code, variable-negation}
use Rattle.propagator.specs.Fixpoint.{Extends}
use Rattle.propagator.specs.Watched.{Attached}
use Rattle.watched_literals.specs.declared.tables.Tables.{Tables}
use Rattle.watched_literals.specs.declared.cursor.Cursor.{Cursor}
use Rattle.watched_literals.specs.Chains.{none, lit_of, next_of, nodes_left, IsWalk}
use Rattle.watched_literals.specs.declared.visit.Visit.TheVariants.{Moves}
use Rattle.watched_literals.specs.Visits.{IsOpenLit}
use Rattle.watched_literals.specs.Watching.{IsDone, IsMoved, IsTrueBy, partner_of}
use Rattle.watched_literals.specs.Walking.{IsRunning, IsWalking, IsKept, IsSeat, HasFailed}
use Rattle.watched_literals.specs.Walking.{HasPassed, IsSeen}
use Rattle.watched_literals.proofs.KnownLemmas.{made_false, known_is, true_yes, negation_twice}
use Rattle.watched_literals.proofs.WatchingLemmas.{watching_more, done_more, watching_marked}
use Rattle.watched_literals.proofs.WatchingLemmas.{done_marked, done_here, watching_next}
use Rattle.watched_literals.proofs.WatchingLemmas.{watching_alike, done_alike, AreAlike, IsMarked}
use Rattle.watched_literals.proofs.MovedLemmas.{watching_moved, done_moved}
use Rattle.watched_literals.proofs.WalkLemmas.{walk_begins, walk_maps, walk_ends, walk_last}
use Rattle.watched_literals.proofs.WalkLemmas.{walk_stays}
use Rattle.watched_literals.proofs.MoveLemmas.{walk_moves}
use Rattle.watched_literals.proofs.LinkLemmas.{left_falls}
use Rattle.watched_literals.proofs.SeatLemmas.{seat, seated}

-- for reading past the end
abbrev pub no_step : Step
no_step = record { lit = record { 0 = 0 }; reason = None; level = 0 }

-- for reading past the end
abbrev pub blank : Attached
blank = record { at = record { 0 = 0 }; lits = [] }

-- ---- assignments come last

trail_is : (trail : Assigned) (vars : ℕ) (steps : List Step) → trail.vars ≡ vars
    → trail.steps ≡ steps → trail ≡ record { vars = vars; steps = steps }
trail_is trail vars steps vars_are steps_are =
    ap (λ v. let it : Assigned = record { vars = v; steps = trail.steps } in it) vars_are
    ∙ ap (λ s. let it : Assigned = record { vars = vars; steps = s } in it) steps_are

run_added : (clauses : List (List Lit)) (entries : List Attached) (trail : Assigned)
    (added : List Step) (tables : Tables) (next : ℕ)
    → IsRunning clauses entries trail tables next
    → IsTrailOf (trail.steps ++ added) clauses
    → IsTrail (record { vars = trail.vars; steps = trail.steps ++ added })
    → IsRunning clauses entries (record { vars = trail.vars; steps = trail.steps ++ added }) tables
    next
run_added clauses entries trail added tables next was of is_trail = record {
  named = was.named;
  over = was.over;
  of_store = of;
  is_trail = is_trail;
  watching =
      watching_more trail.vars entries tables trail.steps added next was.watching;
}

-- a run goes on when assignments come last
pub run_more : (clauses : List (List Lit)) (entries : List Attached) (old new : Assigned)
    (tables : Tables) (next : ℕ) → IsRunning clauses entries old tables next → Extends old new
    → IsTrailOf new.steps clauses → IsTrail new → IsRunning clauses entries new tables next
run_more clauses entries old new tables next was is of is_trail =
    let same : new ≡ record { vars = old.vars; steps = old.steps ++ is.added } =
    trail_is new old.vars (old.steps ++ is.added) is.vars is.steps in
    subst (λ (trail : Assigned). IsRunning clauses entries trail tables next) (sym same)
    (run_added clauses entries old is.added tables next was
    (subst (λ steps. IsTrailOf steps clauses) is.steps of) (subst IsTrail same is_trail))

walk_added : (clauses : List (List Lit)) (entries : List Attached) (trail : Assigned)
    (added : List Step) (tables : Tables) (cursor : Cursor)
    → IsWalking clauses entries trail tables cursor
    → IsTrailOf (trail.steps ++ added) clauses
    → IsTrail (record { vars = trail.vars; steps = trail.steps ++ added })
    → IsWalking clauses entries (record { vars = trail.vars; steps = trail.steps ++ added }) tables
    cursor
walk_added clauses entries trail added tables cursor was of is_trail = record {
  running = run_added clauses entries trail added tables cursor.place was.running of is_trail;
  within = omega (arith, was.within, length-append trail.steps added);
  fell =
      λ d. ap (λ all. get_or all cursor.place d) (map-append as_followed trail.steps added)
      ∙ get_or_append_left (map as_followed trail.steps) (map as_followed added) d cursor.place
      (omega (arith, was.within, length-map trail.steps as_followed))
      ∙ was.fell d;
  walk =
      walk_maps (IsDone tables (map as_followed trail.steps) cursor.level)
      (IsDone tables (map as_followed (trail.steps ++ added)) cursor.level)
      tables.chains.nodes.items tables.chains.heads.items cursor.lit.0 cursor.last cursor.at
      (λ node. done_more tables trail.steps added cursor.level node) was.walk;
}

-- and so does a walk
pub walk_more : (clauses : List (List Lit)) (entries : List Attached) (old new : Assigned)
    (tables : Tables) (cursor : Cursor) → IsWalking clauses entries old tables cursor
    → Extends old new → IsTrailOf new.steps clauses → IsTrail new
    → IsWalking clauses entries new tables cursor
walk_more clauses entries old new tables cursor was is of is_trail =
    let same : new ≡ record { vars = old.vars; steps = old.steps ++ is.added } =
    trail_is new old.vars (old.steps ++ is.added) is.vars is.steps in
    subst (λ (trail : Assigned). IsWalking clauses entries trail tables cursor) (sym same)
    (walk_added clauses entries old is.added tables cursor was
    (subst (λ steps. IsTrailOf steps clauses) is.steps of) (subst IsTrail same is_trail))

-- ---- a walk begins and ends

pub begins : (clauses : List (List Lit)) (entries : List Attached) (trail : Assigned)
    (tables : Tables) (cursor : Cursor) → IsRunning clauses entries trail tables cursor.place
    → cursor.place < length trail.steps
    → (get_or trail.steps cursor.place no_step).lit ≡ negation cursor.lit
    → (get_or trail.steps cursor.place no_step).level ≡ cursor.level
    → cursor.last ≡ none → cursor.at ≡ get_or tables.chains.heads.items cursor.lit.0 cursor.at
    → IsWalking clauses entries trail tables cursor
begins clauses entries trail tables cursor running within lit_is level_is last_is at_is =
    let over : IsOver trail.vars (negation cursor.lit) =
    subst (IsOver trail.vars) lit_is (running.is_trail.over cursor.place no_step within) in
    let low : variable cursor.lit ≤ trail.vars =
    subst (λ var. var ≤ trail.vars) (variable-negation cursor.lit) over.last in
    let head : cursor.lit.0 < length tables.chains.heads.items =
    omega (arith, low, running.watching.heads) in
    record {
      running = running;
      within = within;
      fell =
          λ d. known_is trail.steps cursor.place d within
          ∙ ap (λ l. let it : Followed = record {
            lit = l;
            level = (get_or trail.steps cursor.place no_step).level;
          } in it) lit_is
          ∙ ap (λ n. let it : Followed = record { lit = negation cursor.lit; level = n } in it)
          level_is;
      walk =
          subst
          (λ last. IsWalk (IsDone tables (map as_followed trail.steps) cursor.level)
          tables.chains.nodes.items tables.chains.heads.items cursor.lit.0 last cursor.at)
          (sym last_is)
          (subst
          (λ at. IsWalk (IsDone tables (map as_followed trail.steps) cursor.level)
          tables.chains.nodes.items tables.chains.heads.items cursor.lit.0 none at)
          (sym (at_is
          ∙ get_or_default tables.chains.heads.items cursor.lit.0 cursor.at none head))
          (walk_begins (IsDone tables (map as_followed trail.steps) cursor.level)
          tables.chains.nodes.items tables.chains.heads.items cursor.lit.0
          running.watching.linked head));
    }

-- at the end of the chain one assignment more is followed
pub ends : (clauses : List (List Lit)) (entries : List Attached) (trail : Assigned)
    (tables : Tables) (cursor : Cursor) → IsWalking clauses entries trail tables cursor
    → cursor.at ≡ none → IsRunning clauses entries trail tables (cursor.place + 1)
ends clauses entries trail tables cursor was end = record {
  named = was.running.named;
  over = was.running.over;
  of_store = was.running.of_store;
  is_trail = was.running.is_trail;
  watching =
      watching_next trail.vars entries tables (map as_followed trail.steps) cursor.place
      (record { lit = negation cursor.lit; level = cursor.level }) was.running.watching
      (omega (arith, was.within, length-map trail.steps as_followed)) was.fell
      (λ node within coded.
      walk_ends (IsDone tables (map as_followed trail.steps) cursor.level)
      tables.chains.nodes.items tables.chains.heads.items cursor.lit.0 cursor.last cursor.at node
      was.walk end within
      (coded ∙ ap (λ (l : Lit). l.0) (negation_twice cursor.lit)));
}

-- ---- a node stays in the chain

-- where the clause of the node is done
pub stays : (clauses : List (List Lit)) (entries : List Attached) (trail : Assigned)
    (tables : Tables) (cursor after : Cursor) → IsWalking clauses entries trail tables cursor
    → cursor.at ≢ none → IsDone tables (map as_followed trail.steps) cursor.level cursor.at
    → after
    ≡ record cursor { last = cursor.at; at = next_of tables.chains.nodes.items cursor.at }
    → HasPassed clauses entries trail tables tables cursor after
stays clauses entries trail tables cursor after was some done is =
    subst (HasPassed clauses entries trail tables tables cursor) (sym is)
    (let goes =
    walk_stays (IsDone tables (map as_followed trail.steps) cursor.level)
    tables.chains.nodes.items tables.chains.heads.items cursor.lit.0 cursor.last cursor.at
    was.walk some done in
    record {
      walking =
          record {
            running = was.running;
            within = was.within;
            fell = was.fell;
            walk = goes.0;
          };
      same_place = refl;
      falls =
          left_falls (IsDone tables (map as_followed trail.steps) cursor.level)
          (IsDone tables (map as_followed trail.steps) cursor.level)
          tables.chains.nodes.items tables.chains.nodes.items tables.chains.heads.items
          tables.chains.heads.items cursor.lit.0 cursor.last cursor.at cursor.at was.walk some
          goes.0 goes.1;
    })

-- where its clause became pending
pub walk_kept : (clauses : List (List Lit)) (entries : List Attached) (trail : Assigned)
    (old new : Tables) (cursor : Cursor) → IsWalking clauses entries trail old cursor
    → cursor.at ≢ none → IsKept trail old new cursor.level cursor.at
    → IsWalking clauses entries trail new cursor
    × IsDone new (map as_followed trail.steps) cursor.level cursor.at
walk_kept clauses entries trail old new cursor was some is =
    elim is.waits [
      | inl alike ↦
          let same : AreAlike old new = record {
            chains = is.chains;
            saved = is.saved;
            waits = alike.0;
          } in (
            record {
              running = record {
                named = was.running.named;
                over = was.running.over;
                of_store = was.running.of_store;
                is_trail = was.running.is_trail;
                watching =
                    watching_alike old new (map as_followed trail.steps) same trail.vars entries
                    cursor.place was.running.watching;
              };
              within = was.within;
              fell = was.fell;
              walk =
                  walk_changed
                  (λ node.
                  done_alike old new (map as_followed trail.steps) same cursor.level node);
            },
            λ off. rw is.chains alike.1,
          )
      | inr marked ↦
          let same : IsMarked (cursor.at / 2) old new = record {
            chains = is.chains;
            saved = is.saved;
            waits = marked;
          } in
          let within : cursor.at / 2 < length entries =
          (seat clauses entries trail old cursor was some).row in (
            record {
              running = record {
                named = was.running.named;
                over = was.running.over;
                of_store = was.running.of_store;
                is_trail = was.running.is_trail;
                watching =
                    watching_marked trail.vars entries old new (map as_followed trail.steps)
                    cursor.place (cursor.at / 2) was.running.watching same within;
              };
              within = was.within;
              fell = was.fell;
              walk =
                  walk_changed
                  (λ node.
                  done_marked trail.vars entries old new (map as_followed trail.steps)
                  cursor.place (cursor.at / 2) was.running.watching same within cursor.level node);
            },
            done_here trail.vars entries old new (map as_followed trail.steps)
                cursor.place (cursor.at / 2) was.running.watching same within cursor.level
                cursor.at refl,
          )
    ]
  where
    walk_changed : ((node : ℕ)
        → IsDone old (map as_followed trail.steps) cursor.level node
        → IsDone new (map as_followed trail.steps) cursor.level node)
        → IsWalk (IsDone new (map as_followed trail.steps) cursor.level)
        new.chains.nodes.items new.chains.heads.items cursor.lit.0 cursor.last cursor.at
    walk_changed maps =
        subst
        (λ chains. IsWalk (IsDone new (map as_followed trail.steps) cursor.level)
        chains.nodes.items chains.heads.items cursor.lit.0 cursor.last cursor.at) (sym is.chains)
        (walk_maps (IsDone old (map as_followed trail.steps) cursor.level)
        (IsDone new (map as_followed trail.steps) cursor.level)
        old.chains.nodes.items old.chains.heads.items cursor.lit.0 cursor.last cursor.at
        maps was.walk)

-- a node whose clause was kept stays
pub stays_kept : (clauses : List (List Lit)) (entries : List Attached) (trail : Assigned)
    (old new : Tables) (cursor after : Cursor) → IsWalking clauses entries trail old cursor
    → cursor.at ≢ none → IsKept trail old new cursor.level cursor.at
    → after ≡ record cursor { last = cursor.at; at = next_of old.chains.nodes.items cursor.at }
    → HasPassed clauses entries trail old new cursor after
stays_kept clauses entries trail old new cursor after was some is after_is =
    let both = walk_kept clauses entries trail old new cursor was some is in
    let passed : HasPassed clauses entries trail new new cursor after =
    stays clauses entries trail new cursor after both.0 some both.1
    (after_is
    ∙ ap (λ chains. let it : Cursor = record cursor {
      last = cursor.at;
      at = next_of chains.nodes.items cursor.at;
    } in it) (sym is.chains)) in
    record {
      walking = passed.walking;
      same_place = passed.same_place;
      falls =
          subst
          (λ chains. nodes_left (length new.chains.nodes.items) new.chains.nodes.items after.at
          < nodes_left (length chains.nodes.items) chains.nodes.items cursor.at) is.chains
          passed.falls;
    }

-- ---- a node leaves the chain

clause_lit_in : (clauses : List (List Lit)) (entries : List Attached) (trail : Assigned)
    (tables : Tables) (cursor : Cursor) (lit : Lit)
    → IsWalking clauses entries trail tables cursor → cursor.at ≢ none
    → Contains (get_or entries (cursor.at / 2) blank).lits lit
    → lit.0 < length tables.chains.heads.items
clause_lit_in clauses entries trail tables cursor lit was some contained =
    let here : IsSeat clauses entries trail tables cursor.lit cursor.at =
    seat clauses entries trail tables cursor was some in
    let over : IsOver trail.vars lit =
    subst (IsOver trail.vars) contained.2 (here.lits_over blank contained.0 lit contained.1) in
    omega (arith, over.last, was.running.watching.heads)

-- the literal of the chain, and one of the clause of a node, have a chain
pub lit_in : (clauses : List (List Lit)) (entries : List Attached) (trail : Assigned)
    (tables : Tables) (cursor : Cursor) → IsWalking clauses entries trail tables cursor
    → cursor.at ≢ none → cursor.lit.0 < length tables.chains.heads.items
lit_in clauses entries trail tables cursor was some =
    clause_lit_in clauses entries trail tables cursor cursor.lit was some
    ((seat clauses entries trail tables cursor was some).pair blank).one_here

pub to_in : (clauses : List (List Lit)) (entries : List Attached) (trail : Assigned)
    (tables : Tables) (cursor : Cursor) (to : Lit) (place : ℕ)
    → IsWalking clauses entries trail tables cursor
    → cursor.at ≢ none
    → IsSeen entries trail tables cursor.level cursor.at (Moves to place)
    → to.0 < length tables.chains.heads.items
to_in clauses entries trail tables cursor to place was some seen =
    clause_lit_in clauses entries trail tables cursor to was some (seen blank).0.contained

-- the last node that stayed is a node
pub last_in : (clauses : List (List Lit)) (entries : List Attached) (trail : Assigned)
    (tables : Tables) (cursor : Cursor) → IsWalking clauses entries trail tables cursor
    → cursor.last ≢ none → cursor.last < length tables.chains.nodes.items
last_in clauses entries trail tables cursor was =
    walk_last (IsDone tables (map as_followed trail.steps) cursor.level)
    tables.chains.nodes.items tables.chains.heads.items cursor.lit.0 cursor.last cursor.at was.walk

module _ (clauses : List (List Lit)) (entries : List Attached) (trail : Assigned)
    (old new : Tables) (cursor : Cursor) (to : Lit)
    (was : IsWalking clauses entries trail old cursor) (some : cursor.at ≢ none)
    (is : IsMoved cursor.lit to cursor.last cursor.at (next_of old.chains.nodes.items cursor.at)
    old new)
    (open_is : (d : Attached)
    → IsOpenLit trail.steps (lit_of old.chains.nodes.items (partner_of cursor.at))
    (get_or entries (cursor.at / 2) d).lits to) where
  abbrev known : List Followed
  known = map as_followed trail.steps

  abbrev Done : ℕ → Type 0
  Done = IsDone old (map as_followed trail.steps) cursor.level

  here : IsSeat clauses entries trail old cursor.lit cursor.at
  here = seat clauses entries trail old cursor was some

  other_code : to.0 ≢ cursor.lit.0
  other_code same =
      (open_is blank).not_false
      (subst (IsFalse trail.steps) (sym (lit_of_code to cursor.lit same)) here.is_false)

  last_within : cursor.last ≢ none → cursor.last < length old.chains.nodes.items
  last_within = last_in clauses entries trail old cursor was

  untrue : (level : ℕ) → ¬ IsTrueBy level (map as_followed trail.steps) cursor.lit
  untrue level true_is =
      let yes : value_of trail.steps cursor.lit ≡ Yes =
      true_yes trail level cursor.lit was.running.is_trail true_is in
      let is_no : value_of trail.steps cursor.lit ≡ No = here.is_false in
      cc

  fresh : (k : ℕ) (d : Followed) → k < cursor.place → k < length (map as_followed trail.steps)
      → (get_or (map as_followed trail.steps) k d).lit ≢ negation to
  fresh k d before inside makes =
      (open_is blank).not_false
      (made_false trail k d to was.running.is_trail
      (omega (arith, inside, length-map trail.steps as_followed)) makes)

  goes : (walk : IsWalk Done
      (set is.half_nodes cursor.at (record { lit = to; next = get_or is.half_heads to.0 none }))
      (set is.half_heads to.0 cursor.at) cursor.lit.0 cursor.last
      (next_of old.chains.nodes.items cursor.at))
      × (length walk.rest < length was.walk.rest)
  goes =
      walk_moves Done old.chains.nodes.items old.chains.heads.items cursor.lit.0 cursor.last
      cursor.at to is.half_nodes is.half_heads was.walk some
      (lit_in clauses entries trail old cursor was some)
      other_code
      (clause_lit_in clauses entries trail old cursor to was some (open_is blank).contained)
      is.unlinked

  moved_walk : (walk : IsWalk Done new.chains.nodes.items new.chains.heads.items cursor.lit.0
      cursor.last (next_of old.chains.nodes.items cursor.at))
      × (length walk.rest < length was.walk.rest)
  moved_walk =
      subst
      (λ nodes. (walk : IsWalk Done nodes new.chains.heads.items cursor.lit.0 cursor.last
      (next_of old.chains.nodes.items cursor.at)) × (length walk.rest < length was.walk.rest))
      (sym is.nodes)
      (subst
      (λ heads. (walk : IsWalk Done
      (set is.half_nodes cursor.at (record { lit = to; next = get_or is.half_heads to.0 none }))
      heads cursor.lit.0 cursor.last (next_of old.chains.nodes.items cursor.at))
      × (length walk.rest < length was.walk.rest))
      (sym is.heads) goes)

  pub leaves : (after : Cursor)
      → after ≡ record cursor { at = next_of old.chains.nodes.items cursor.at }
      → HasPassed clauses entries trail old new cursor after
  leaves after after_is =
      subst (HasPassed clauses entries trail old new cursor) (sym after_is)
      (record {
        walking =
            record {
              running = record {
                named = was.running.named;
                over = was.running.over;
                of_store = was.running.of_store;
                is_trail = was.running.is_trail;
                watching =
                    watching_moved trail.vars entries old new (map as_followed trail.steps)
                    cursor.place cursor.lit to cursor.last cursor.at
                    (next_of old.chains.nodes.items cursor.at) was.running.watching is last_within
                    here.node here.own moved_walk.0.linked untrue fresh
                    (λ d. (open_is d).contained) (open_is blank).differs
                    (λ d. (seated clauses entries trail old cursor was some d).pair);
              };
              within = was.within;
              fell = was.fell;
              walk =
                  walk_maps Done (IsDone new (map as_followed trail.steps) cursor.level)
                  new.chains.nodes.items new.chains.heads.items cursor.lit.0 cursor.last
                  (next_of old.chains.nodes.items cursor.at)
                  (λ node.
                  done_moved trail.vars entries old new (map as_followed trail.steps)
                  cursor.place cursor.lit to cursor.last cursor.at
                  (next_of old.chains.nodes.items cursor.at) was.running.watching is last_within
                  here.node here.own moved_walk.0.linked untrue cursor.level node)
                  moved_walk.0;
            };
        same_place = refl;
        falls =
            left_falls Done Done old.chains.nodes.items new.chains.nodes.items
            old.chains.heads.items new.chains.heads.items cursor.lit.0 cursor.last cursor.last
            cursor.at was.walk some moved_walk.0 moved_walk.1;
      })

-- a clause all of whose literals are false stops a walk
pub fails : (clauses : List (List Lit)) (entries : List Attached) (trail : Assigned)
    (tables : Tables) (cursor : Cursor) → IsWalking clauses entries trail tables cursor
    → cursor.at ≢ none
    → ((d : Attached) → IsFalseOn trail.steps (get_or entries (cursor.at / 2) d).lits)
    → HasFailed clauses entries trail tables cursor
fails clauses entries trail tables cursor was some is =
    let here : IsSeat clauses entries trail tables cursor.lit cursor.at =
    seat clauses entries trail tables cursor was some in
    record {
      running = was.running;
      row = here.row;
      conflict =
          λ d. record {
            clause = (get_or entries (cursor.at / 2) d).lits;
            named = here.named d;
            is_false = is d;
          };
    }
