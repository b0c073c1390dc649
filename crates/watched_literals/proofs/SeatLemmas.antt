-- A node to which a walk came: its clause and both watched literals.
use Rattle.std.proofs.Common.{◌≡◌, ◌≢◌, ◌≤◌, ◌<◌, ◌+◌, ◌*◌, ◌/◌, ℕ, List, length, get_or, map, []}
use Rattle.std.proofs.Common.{Some, None, sym, ap, subst, ◌∙◌, arith, inl, inr}
use Rattle.std.specs.Prelude.{All, slice_get}
use Rattle.std.proofs.lemmas.List.Elements.{All-contains}
use Rattle.std.proofs.lemmas.Option.{get_or_from_slice_get, slice_get_within}
use Rattle.clause_store.specs.declared.literal.Lit.{Lit}
use Rattle.clause_store.specs.declared.step.Step.{Step}
use Rattle.clause_store.specs.Clause.{variable, negation, IsOver}
use Rattle.clause_store.specs.Trail.{Assigned}
use Rattle.clause_store.specs.Standing.{Followed, as_followed}
use Rattle.clause_store.proofs.LiteralLemmas.{lit_of_code, variable-negation}
use Rattle.propagator.specs.Watched.{Attached}
use Rattle.watched_literals.specs.declared.tables.Tables.{Tables}
use Rattle.watched_literals.specs.declared.chains.Node.{Node}
use Rattle.watched_literals.specs.declared.cursor.Cursor.{Cursor}
use Rattle.watched_literals.specs.Chains.{none, lit_of}
use Rattle.watched_literals.specs.Watching.{IsDone, IsSeated, partner_of}
use Rattle.watched_literals.specs.Walking.{IsWalking, IsSeat}
use Rattle.watched_literals.proofs.KnownLemmas.{made_false, known_is}
use Rattle.watched_literals.proofs.MovedLemmas.{side}
use Rattle.watched_literals.proofs.WalkLemmas.{walk_within, walk_own}

abbrev no_step : Step
no_step = record { lit = record { 0 = 0 }; reason = None; level = 0 }

-- a clause of a store that is over its variables, by its place
pub named_over : (vars : ℕ) (clauses : List (List Lit)) (at : ℕ) (clause : List Lit)
    → All (All (IsOver vars)) clauses → slice_get clauses at ≡ Some clause
    → All (IsOver vars) clause
named_over vars clauses at clause over is =
    subst (All (IsOver vars)) (get_or_from_slice_get clauses at clause clause is)
    (over at clause (slice_get_within clauses at clause is))

-- the two literals of a clause the other way round
turned : (known : List Followed) (lits : List Lit) (saved : ℕ) (one two : Lit)
    → IsSeated known lits saved one two → IsSeated known lits saved two one
turned known lits saved one two is = record {
  pair = record {
    one_here = is.pair.two_here;
    two_here = is.pair.one_here;
    differ = λ same. is.pair.differ (sym same);
  };
  binary = λ none_is k d within not_two not_one. is.binary none_is k d within not_one not_two;
}

module _ (clauses : List (List Lit)) (entries : List Attached) (trail : Assigned)
    (tables : Tables) (cursor : Cursor) (walking : IsWalking clauses entries trail tables cursor)
    (some : cursor.at ≢ none) where
  abbrev nodes : List Node
  nodes = tables.chains.nodes.items

  node_within : cursor.at < length tables.chains.nodes.items
  node_within =
      walk_within (IsDone tables (map as_followed trail.steps) cursor.level)
      tables.chains.nodes.items tables.chains.heads.items cursor.lit.0 cursor.last cursor.at
      walking.walk some

  own : lit_of tables.chains.nodes.items cursor.at ≡ cursor.lit
  own =
      lit_of_code (lit_of tables.chains.nodes.items cursor.at) cursor.lit
      (walk_own (IsDone tables (map as_followed trail.steps) cursor.level)
      tables.chains.nodes.items tables.chains.heads.items cursor.lit.0 cursor.last cursor.at
      walking.walk some)

  step_is : (get_or trail.steps cursor.place no_step).lit ≡ negation cursor.lit
  step_is =
      ap (λ (it : Followed). it.lit)
      (sym (known_is trail.steps cursor.place (as_followed no_step) walking.within)
      ∙ walking.fell (as_followed no_step))

  lit_over : IsOver trail.vars cursor.lit
  lit_over =
      let there : IsOver trail.vars (negation cursor.lit) =
      subst (IsOver trail.vars) step_is
      (walking.running.is_trail.over cursor.place no_step walking.within) in
      let same : variable (negation cursor.lit) ≡ variable cursor.lit =
      variable-negation cursor.lit in
      record {
        first = subst (λ var. 1 ≤ var) same there.first;
        last = subst (λ var. var ≤ trail.vars) same there.last;
      }

  not_zero : cursor.lit.0 ≢ 0
  not_zero zero = omega (arith, lit_over.first, zero)

  row_within : cursor.at / 2 < length entries
  row_within =
      let n : cursor.at < 2 * length entries =
      omega (arith, node_within, walking.running.watching.nodes) in
      grind (arith, n)

  -- its clause is watched at two literals
  pub seated : (d : Attached)
      → IsSeated (map as_followed trail.steps) (get_or entries (cursor.at / 2) d).lits
      (get_or tables.saved.items (cursor.at / 2) 0)
      (lit_of tables.chains.nodes.items (2 * (cursor.at / 2)))
      (lit_of tables.chains.nodes.items (2 * (cursor.at / 2) + 1))
  seated d =
      elim (walking.running.watching.rows (cursor.at / 2) d row_within) [
        | inl is ↦ is
        | inr none_is ↦
            absurd
            (not_zero
            (sym (ap (λ (l : Lit). l.0) own)
            ∙ elim (side cursor.at) [
              | inl even ↦
                  ap (λ n. (lit_of tables.chains.nodes.items n).0) even ∙ none_is.one_none
              | inr odd ↦
                  ap (λ n. (lit_of tables.chains.nodes.items n).0) odd ∙ none_is.two_none
            ]))
      ]

  partner_within : partner_of cursor.at < length tables.chains.nodes.items
  partner_within =
      elim (side cursor.at) [
        | inl even ↦
            let p : partner_of cursor.at ≡ 2 * (cursor.at / 2) + 1 = grind (arith, even) in
            omega (arith, p, row_within, walking.running.watching.nodes)
        | inr odd ↦
            let p : partner_of cursor.at ≡ 2 * (cursor.at / 2) = grind (arith, odd) in
            omega (arith, p, row_within, walking.running.watching.nodes)
      ]

  -- the literals of the node and of the other one
  both : (d : Attached)
      → IsSeated (map as_followed trail.steps) (get_or entries (cursor.at / 2) d).lits
      (get_or tables.saved.items (cursor.at / 2) 0) cursor.lit
      (lit_of tables.chains.nodes.items (partner_of cursor.at))
  both d =
      elim (side cursor.at) [
        | inl even ↦
            let p : partner_of cursor.at ≡ 2 * (cursor.at / 2) + 1 = grind (arith, even) in
            let mine : lit_of tables.chains.nodes.items (2 * (cursor.at / 2)) ≡ cursor.lit =
            ap (lit_of tables.chains.nodes.items) (sym even) ∙ own in
            subst
            (λ one. IsSeated (map as_followed trail.steps)
            (get_or entries (cursor.at / 2) d).lits
            (get_or tables.saved.items (cursor.at / 2) 0) one
            (lit_of tables.chains.nodes.items (partner_of cursor.at))) mine
            (subst
            (λ n. IsSeated (map as_followed trail.steps) (get_or entries (cursor.at / 2) d).lits
            (get_or tables.saved.items (cursor.at / 2) 0)
            (lit_of tables.chains.nodes.items (2 * (cursor.at / 2)))
            (lit_of tables.chains.nodes.items n)) (sym p) (seated d))
        | inr odd ↦
            let p : partner_of cursor.at ≡ 2 * (cursor.at / 2) = grind (arith, odd) in
            let mine : lit_of tables.chains.nodes.items (2 * (cursor.at / 2) + 1) ≡ cursor.lit =
            ap (lit_of tables.chains.nodes.items) (sym odd) ∙ own in
            subst
            (λ one. IsSeated (map as_followed trail.steps)
            (get_or entries (cursor.at / 2) d).lits
            (get_or tables.saved.items (cursor.at / 2) 0) one
            (lit_of tables.chains.nodes.items (partner_of cursor.at))) mine
            (subst
            (λ n. IsSeated (map as_followed trail.steps) (get_or entries (cursor.at / 2) d).lits
            (get_or tables.saved.items (cursor.at / 2) 0)
            (lit_of tables.chains.nodes.items (2 * (cursor.at / 2) + 1))
            (lit_of tables.chains.nodes.items n)) (sym p)
            (turned (map as_followed trail.steps) (get_or entries (cursor.at / 2) d).lits
            (get_or tables.saved.items (cursor.at / 2) 0)
            (lit_of tables.chains.nodes.items (2 * (cursor.at / 2)))
            (lit_of tables.chains.nodes.items (2 * (cursor.at / 2) + 1)) (seated d)))
      ]

  named : (d : Attached)
      → slice_get clauses (get_or entries (cursor.at / 2) d).at.0
      ≡ Some (get_or entries (cursor.at / 2) d).lits
  named d = walking.running.named (cursor.at / 2) d row_within

  over : (d : Attached) → All (IsOver trail.vars) (get_or entries (cursor.at / 2) d).lits
  over d =
      named_over trail.vars clauses (get_or entries (cursor.at / 2) d).at.0
      (get_or entries (cursor.at / 2) d).lits walking.running.over (named d)

  abbrev blank : Attached
  blank = record { at = record { 0 = 0 }; lits = [] }

  -- the clause of a node to which a walk came
  pub seat : IsSeat clauses entries trail tables cursor.lit cursor.at
  seat = record {
    node = node_within;
    partner = partner_within;
    row = row_within;
    saved = omega (arith, row_within, walking.running.watching.saved);
    waits = omega (arith, row_within, walking.running.watching.waits);
    own = own;
    is_trail = walking.running.is_trail;
    is_false =
        made_false trail cursor.place (as_followed no_step) cursor.lit walking.running.is_trail
        walking.within (ap (λ (it : Followed). it.lit) (walking.fell (as_followed no_step)));
    other_over =
        All-contains (IsOver trail.vars) (get_or entries (cursor.at / 2) blank).lits
        (lit_of tables.chains.nodes.items (partner_of cursor.at)) (over blank)
        (both blank).pair.two_here;
    pair = λ d. (both d).pair;
    named = named;
    lits_over = over;
    binary = λ d is. (both d).binary is;
  }
