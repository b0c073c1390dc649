-- What the look at the clause of a node says.
use Rattle.std.proofs.Common.{◌≡◌, ◌≢◌, ◌<◌, ◌/◌, ℕ, List, length, get_or, map, Some, sym}
use Rattle.std.proofs.Common.{ap, subst, ◌∙◌, arith, inl, inr}
use Rattle.std.specs.Prelude.{All, Contains, slice_get}
use Rattle.std.proofs.lemmas.List.{get_or_default, length-map}
use Rattle.std.proofs.lemmas.Option.{same_Some, slice_get_within}
use Rattle.clause_store.specs.declared.literal.Lit.{Lit}
use Rattle.clause_store.specs.declared.literal.ClauseRef.{ClauseRef}
use Rattle.clause_store.specs.declared.step.Step.{Step}
use Rattle.clause_store.specs.Clause.{negation}
use Rattle.clause_store.specs.Trail.{Assigned, IsReasonFor, IsTrail}
use Rattle.clause_store.specs.Standing.{Followed, IsFalse, as_followed}
use Rattle.clause_store.proofs.LiteralLemmas.{cases_lit}
use Rattle.propagator.specs.Watched.{Attached}
use Rattle.watched_literals.specs.declared.tables.Tables.{Tables}
use Rattle.watched_literals.specs.declared.chains.Node.{Node}
use Rattle.watched_literals.specs.declared.visit.Visit.{Visit}
use Rattle.watched_literals.specs.declared.visit.Visit.TheVariants.{Stays, Moves, Implies}
use Rattle.watched_literals.specs.declared.visit.Visit.TheVariants.{IsFalse as IsFalseClause}
use Rattle.watched_literals.specs.Chains.{none, lit_of, next_of}
use Rattle.watched_literals.specs.Visits.{AreFalseBut, IsByOther, IsVisited}
use Rattle.watched_literals.specs.Watching.{AreOthersFalse, IsTrueBy, partner_of}
use Rattle.watched_literals.specs.Walking.{IsForced, IsSeat, IsSeen}
use Rattle.watched_literals.proofs.ChainLemmas.{blank}
use Rattle.watched_literals.proofs.KnownLemmas.{made_false}

-- the literal of a node that was read
pub read_lit : (nodes : List Node) (n m : ℕ) (node : Node) → m < length nodes → n ≡ m
    → node ≡ get_or nodes n node → node.lit ≡ lit_of nodes m
read_lit nodes n m node within same is =
    ap (λ (it : Node). it.lit)
    (is ∙ ap (λ k. get_or nodes k node) same ∙ get_or_default nodes m node blank within)

-- a literal whose negation is true is false
false_by : (trail : Assigned) (level : ℕ) (lit : Lit) → IsTrail trail
    → IsTrueBy level (map as_followed trail.steps) (negation lit) → IsFalse trail.steps lit
false_by trail level lit is (at, made, within, here, p) =
    made_false trail at made lit is (omega (arith, within, length-map trail.steps as_followed))
    (ap (λ (it : Followed). it.lit) here ∙ p.0)

-- where all literals but two are false for good and one of the two is false, all but the other are
others_false : (trail : Assigned) (clause : List Lit) (lit other : Lit) → IsTrail trail
    → AreOthersFalse (map as_followed trail.steps) clause lit other → IsFalse trail.steps lit
    → AreFalseBut trail.steps other clause
others_false trail clause lit other is falses is_false k d within differs =
    elim (cases_lit (get_or clause k d) lit) [
      | inl same ↦ subst (IsFalse trail.steps) (sym same) is_false
      | inr not_lit ↦
          false_by trail 0 (get_or clause k d) is (falses k d within not_lit differs)
    ]

all_false : (steps : List Step) (clause : List Lit) (other : Lit) → AreFalseBut steps other clause
    → IsFalse steps other → All (IsFalse steps) clause
all_false steps clause other falses is_false k d within =
    elim (cases_lit (get_or clause k d) other) [
      | inl same ↦ subst (IsFalse steps) (sym same) is_false
      | inr differs ↦ falses k d within differs
    ]

-- a clause of two literals is seen by its other literal
pub seen_binary : (clauses : List (List Lit)) (entries : List Attached) (trail : Assigned)
    (tables : Tables) (lit : Lit) (at level : ℕ) (other : Lit) (visit : Visit)
    → IsSeat clauses entries trail tables lit at
    → other ≡ lit_of tables.chains.nodes.items (partner_of at)
    → get_or tables.saved.items (at / 2) 0 ≡ none → IsByOther trail.steps other visit
    → IsSeen entries trail tables level at visit
seen_binary clauses entries trail tables lit at level other visit seat other_is saved is =
    go visit
    (subst (λ one. IsByOther trail.steps one visit) other_is is)
  where
    falses : (d : Attached)
        → AreFalseBut trail.steps (lit_of tables.chains.nodes.items (partner_of at))
        (get_or entries (at / 2) d).lits
    falses d =
        others_false trail (get_or entries (at / 2) d).lits lit
        (lit_of tables.chains.nodes.items (partner_of at)) seat.is_trail (seat.binary d saved)
        seat.is_false

    go : (v : Visit)
        → IsByOther trail.steps (lit_of tables.chains.nodes.items (partner_of at)) v
        → IsSeen entries trail tables level at v
    go Stays by = absurd by
    go (Moves to place) by = absurd by
    go Implies by = λ d. record { falses = falses d; not_false = by }
    go IsFalseClause by =
        λ d. all_false trail.steps (get_or entries (at / 2) d).lits
        (lit_of tables.chains.nodes.items (partner_of at)) (falses d) by

-- the literals of the clause of a node, as the store has them
pub row_lits : (clauses : List (List Lit)) (entries : List Attached) (trail : Assigned)
    (tables : Tables) (lit : Lit) (at : ℕ) (entry : Attached) (why : ClauseRef)
    (lits : List Lit) → IsSeat clauses entries trail tables lit at
    → entry ≡ get_or entries (at / 2) entry → why ≡ entry.at
    → slice_get clauses why.0 ≡ Some lits
    → (d : Attached) → (get_or entries (at / 2) d).lits ≡ lits
row_lits clauses entries trail tables lit at entry why lits seat entry_is why_is is d =
    same_Some (get_or entries (at / 2) d).lits lits
    (sym (seat.named d)
    ∙ ap (λ (it : Attached). slice_get clauses it.at.0)
    (get_or_default entries (at / 2) d entry seat.row ∙ sym entry_is)
    ∙ ap (λ (ref : ClauseRef). slice_get clauses ref.0) (sym why_is)
    ∙ is)

-- and that it has them
pub row_exists : (clauses : List (List Lit)) (entries : List Attached) (trail : Assigned)
    (tables : Tables) (lit : Lit) (at : ℕ) (entry : Attached) (why : ClauseRef)
    → IsSeat clauses entries trail tables lit at
    → entry ≡ get_or entries (at / 2) entry → why ≡ entry.at → why.0 < length clauses
row_exists clauses entries trail tables lit at entry why seat entry_is why_is =
    slice_get_within clauses why.0 (get_or entries (at / 2) entry).lits
    (ap (λ (ref : ClauseRef). slice_get clauses ref.0)
    (why_is ∙ ap (λ (it : Attached). it.at) entry_is)
    ∙ seat.named entry)

-- a clause is seen by all its literals
pub seen_all : (entries : List Attached) (trail : Assigned) (tables : Tables) (at level : ℕ)
    (other : Lit) (lits : List Lit) (visit : Visit)
    → other ≡ lit_of tables.chains.nodes.items (partner_of at)
    → ((d : Attached) → (get_or entries (at / 2) d).lits ≡ lits)
    → IsVisited trail.steps lits other visit
    → IsSeen entries trail tables level at visit
seen_all entries trail tables at level other lits visit other_is lits_are is =
    go visit
    (λ d. subst
    (λ clause. IsVisited trail.steps clause
    (lit_of tables.chains.nodes.items (partner_of at)) visit) (sym (lits_are d))
    (subst (λ one. IsVisited trail.steps lits one visit) other_is is))
    is
  where
    go : (v : Visit)
        → ((d : Attached) → IsVisited trail.steps (get_or entries (at / 2) d).lits
        (lit_of tables.chains.nodes.items (partner_of at)) v)
        → IsVisited trail.steps lits other v
        → IsSeen entries trail tables level at v
    go Stays each one = absurd one
    go (Moves to place) each one = each
    go Implies each one = each
    go IsFalseClause each one = each

-- a clause that forces the other literal of a node is a reason for it
pub forced_reason : (clauses : List (List Lit)) (entries : List Attached) (trail : Assigned)
    (tables : Tables) (lit : Lit) (at : ℕ) (other : Lit) (entry : Attached) (why : ClauseRef)
    → IsSeat clauses entries trail tables lit at → IsForced entries trail.steps tables at
    → other ≡ lit_of tables.chains.nodes.items (partner_of at)
    → entry ≡ get_or entries (at / 2) entry → why ≡ entry.at
    → IsReasonFor clauses trail.steps other why
forced_reason clauses entries trail tables lit at other entry why seat forced other_is entry_is
    why_is =
    record {
      clause = (get_or entries (at / 2) entry).lits;
      named =
          ap (λ (ref : ClauseRef). slice_get clauses ref.0)
          (why_is ∙ ap (λ (it : Attached). it.at) entry_is)
          ∙ seat.named entry;
      here =
          subst (Contains (get_or entries (at / 2) entry).lits) (sym other_is)
          (seat.pair entry).two_here;
      others =
          subst
          (λ one. All (λ l. l ≢ one → IsFalse trail.steps l)
          (get_or entries (at / 2) entry).lits) (sym other_is)
          (forced.forces entry).falses;
    }

-- the node after one that was read
pub read_next : (nodes : List Node) (at : ℕ) (node : Node) → at < length nodes
    → node ≡ get_or nodes at node → node.next ≡ next_of nodes at
read_next nodes at node within is =
    ap (λ (it : Node). it.next) (is ∙ get_or_default nodes at node blank within)
