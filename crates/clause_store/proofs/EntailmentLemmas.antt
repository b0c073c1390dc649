-- Closure, absorption and units: the laws of specs/Laws.antt.
use Rattle.std.proofs.Common.{◌≡◌, ◌≢◌, ◌⊎◌, ℕ, zero, suc, ◌<◌, Bool, true, false, not, cond, eqb}
use Rattle.std.proofs.Common.{List, [], ◌∷◌, ◌++◌, length, get_or, refl, sym, ap₂, ◌∙◌, subst, inl}
use Rattle.std.proofs.Common.{inr, arith, append_assoc}
use Rattle.std.specs.Prelude.{All, Contains, filter, flat_map}
use Rattle.std.proofs.lemmas.Bool.{ne_eqb, not_from_false, not_from_true, false≢true}
use Rattle.std.proofs.lemmas.List.{append-nil}
use Rattle.std.proofs.lemmas.List.Elements.{All-cons, All-contains, All-nil, All-weaker}
use Rattle.std.proofs.lemmas.List.Elements.{All-contains_itself, Contains-append_left}
use Rattle.std.proofs.lemmas.List.Elements.{Contains-append_right, Contains-push}
use Rattle.clause_store.specs.declared.literal.Lit.{Lit}
use Rattle.clause_store.specs.Clause.{variable, is_negated, negation, truth, makes_true, IsTrueIn}
use Rattle.clause_store.specs.Clause.{HoldsIn, Meets, HasAll}
use Rattle.clause_store.specs.Entailment.{IsForcedBy, IsClosed, InClosure, Refutes, negations}
use Rattle.clause_store.specs.Entailment.{others, IsUnit, AreUnits}
use Rattle.clause_store.specs.Laws.{ClosureGrows, RefutingGrows, AbsorbingGrows}
use Rattle.clause_store.specs.Laws.{ContainingIsAbsorbed, UnitsDiffer, UnitsGrow, ClosureHolds}
use Rattle.clause_store.specs.Laws.{RefutedFollows}
use Rattle.clause_store.proofs.LiteralLemmas.{cases_lit, cases_has, has_kept, has_mapped}
use Rattle.clause_store.proofs.LiteralLemmas.{mapped_from, kept_passes, all_through, any_through}
use Rattle.clause_store.proofs.LiteralLemmas.{any_from, any_or_none, has_flat, variable-negation}
use Rattle.clause_store.proofs.LiteralLemmas.{is_negated-negation, lit_of_code}

pub closure_grows : ClosureGrows
closure_grows fewer more few many lit clauses literals inside known has closed =
    inside known
    (all_through (Contains known) few many literals has)
    (all_through (λ clause. (forced : Lit) → IsForcedBy known clause forced → Contains known forced)
    fewer more clauses closed)

pub refuting_grows : RefutingGrows
refuting_grows fewer more few many clauses literals =
    any_through
    (λ clause. All (λ lit. InClosure fewer few (negation lit)) clause)
    (λ clause. All (λ lit. InClosure more many (negation lit)) clause)
    fewer more clauses
    (λ clause all. All-weaker (λ lit. InClosure fewer few (negation lit))
    (λ lit. InClosure more many (negation lit))
    (λ lit. closure_grows fewer more few many (negation lit) clauses literals) clause all)

pub absorbing_grows : AbsorbingGrows
absorbing_grows fewer more clause clauses =
    All-weaker
    (λ lit. Refutes fewer (negations (others clause lit))
    ⊎ InClosure fewer (negations (others clause lit)) lit)
    (λ lit. Refutes more (negations (others clause lit))
    ⊎ InClosure more (negations (others clause lit)) lit)
    (λ lit either. let rest = negations (others clause lit) in
    let same = All-contains_itself rest in
    elim either [
      | inl refuted ↦ inl (refuting_grows fewer more rest rest clauses same refuted)
      | inr given ↦
          inr (closure_grows fewer more rest rest lit clauses same given)
    ])
    clause

-- another literal of the clause is among the others, negated
pub has_other : (clause : List Lit) (lit other : Lit) → Contains clause other → other ≢ lit
    → Contains (negations (others clause lit)) (negation other)
has_other clause lit other here differs =
    has_mapped negation (others clause lit) other
    (has_kept (λ l. not (eqb l.0 lit.0)) clause other here
    (not_from_false (eqb other.0 lit.0)
    (ne_eqb other.0 lit.0 (λ e. differs (lit_of_code other lit e)))))

pub containing_is_absorbed : ContainingIsAbsorbed
containing_is_absorbed clauses clause part here has k d within = absorbed (get_or clause k d)
  where
    -- a literal of the part is given by it, and any other is refuted by it
    absorbed : (lit : Lit) → Refutes clauses (negations (others clause lit))
        ⊎ InClosure clauses (negations (others clause lit)) lit
    absorbed lit =
        elim (cases_has part lit) [
          | inl inside ↦ inr (λ known all closed.
              All-contains (λ c. (forced : Lit) → IsForcedBy known c forced → Contains known forced)
              clauses part closed here lit
              (record {
                here = inside;
                others =
                    λ k d within differs. All-contains (Contains known)
                    (negations (others clause lit)) (negation (get_or part k d)) all
                    (has_other clause lit (get_or part k d) (has k d within) differs);
              }))
          | inr outside ↦ inl
              (any_from
              (λ c. All (λ l. InClosure clauses (negations (others clause lit)) (negation l)) c)
              clauses part here
              (λ k d within known all closed.
              All-contains (Contains known) (negations (others clause lit))
              (negation (get_or part k d)) all
              (has_other clause lit (get_or part k d) (has k d within)
              (λ same. outside
              (subst (Contains part) same (All-contains_itself part k d within))))))
        ]

-- units over clauses that have a part: none has all its literals
pub later_lack : (base units : List (List Lit)) (part : List Lit) → AreUnits base units
    → Contains base part → All (λ later. (¬ HasAll later part) × (part ≢ later)) units
later_lack base [] part are here = All-nil (λ later. (¬ HasAll later part) × (part ≢ later))
later_lack base (unit ∷ rest) part are here =
    All-cons (λ later. (¬ HasAll later part) × (part ≢ later)) unit rest (
      λ has. are.0.new (containing_is_absorbed base unit part here has),
      λ same. are.0.new
          (containing_is_absorbed base unit part here
          (subst (λ u. HasAll u part) same (All-contains_itself part))),
    )
    (later_lack (base ++ unit ∷ []) rest part are.1
    (Contains-append_left base (unit ∷ []) part here))

pub units_differ : UnitsDiffer
units_differ base [] are i j d before within = absurd (omega (arith, within))
units_differ base (unit ∷ rest) are zero zero d before within = absurd (omega (arith, before))
units_differ base (unit ∷ rest) are zero (suc j) d before within =
    later_lack (base ++ unit ∷ []) rest unit are.1 (Contains-push base unit) j d
    (omega (arith, within))
units_differ base (unit ∷ rest) are (suc i) zero d before within = absurd (omega (arith, before))
units_differ base (unit ∷ rest) are (suc i) (suc j) d before within =
    units_differ (base ++ unit ∷ []) rest are.1 i j d (omega (arith, before))
    (omega (arith, within))

pub units_grow : UnitsGrow
units_grow base [] unit are is = (subst (λ c. IsUnit c unit) (append-nil base) is, tt)
units_grow base (first ∷ rest) unit are is = (
  are.0,
  units_grow (base ++ first ∷ []) rest unit are.1
      (subst (λ c. IsUnit c unit) (sym (append_assoc base (first ∷ []) rest)) is),
)

-- ---- what propagation gives is true

flipped : (b t : Bool) → cond (not b) (not t) t ≡ not (cond b (not t) t)
flipped true true = refl
flipped true false = refl
flipped false true = refl
flipped false false = refl

pub makes_true-negation : (values : List Bool) (lit : Lit)
    → makes_true values (negation lit) ≡ not (makes_true values lit)
makes_true-negation values lit =
    ap₂ (λ b v. cond b (not (truth values v)) (truth values v)) (is_negated-negation lit)
    (variable-negation lit)
    ∙ flipped (is_negated lit) (truth values (variable lit))

-- a literal and its negation aren't both true
pub not_both : (values : List Bool) (lit : Lit) → IsTrueIn values lit
    → IsTrueIn values (negation lit) → ⊥
not_both values lit one two =
    false≢true
    (sym (not_from_true (makes_true values lit) one) ∙ sym (makes_true-negation values lit)
    ∙ two)

-- the literals that occur, and of these the true ones
abbrev pub true_ones : List Bool → List (List Lit) → List Lit → List Lit
true_ones values clauses lits =
    filter (makes_true values) (lits ++ flat_map (λ clause. clause) clauses)

true_ones_closed : (values : List Bool) (clauses : List (List Lit)) (lits : List Lit)
    → Meets values clauses → IsClosed clauses (true_ones values clauses lits)
true_ones_closed values clauses lits meets k d within lit forced =
    elim (cases_lit holds.1 lit) [
      | inl same ↦
          has_kept (makes_true values) (lits ++ flat_map (λ c. c) clauses) lit
          (Contains-append_right lits (flat_map (λ c. c) clauses) lit
          (has_flat clauses clause lit (All-contains_itself clauses k d within) forced.here))
          (subst (IsTrueIn values) same holds.4)
      | inr other ↦
          absurd (not_both values holds.1 holds.4
          (kept_passes (makes_true values) (lits ++ flat_map (λ c. c) clauses) (negation holds.1)
          (All-contains (λ l. l ≢ lit → Contains (true_ones values clauses lits) (negation l))
          clause holds.1 forced.others (holds.0, holds.2, holds.3) other)))
    ]
  where
    clause : List Lit
    clause = get_or clauses k d

    holds : HoldsIn values (get_or clauses k d)
    holds = meets k d within

pub closure_holds : ClosureHolds
closure_holds values clauses lits lit meets all inside =
    kept_passes (makes_true values) (lits ++ flat_map (λ c. c) clauses) lit
    (inside (true_ones values clauses lits)
    (λ k d within. has_kept (makes_true values) (lits ++ flat_map (λ c. c) clauses)
    (get_or lits k d)
    (Contains-append_left lits (flat_map (λ c. c) clauses) (get_or lits k d)
    (All-contains_itself lits k d within)) (all k d within))
    (true_ones_closed values clauses lits meets))

-- true literals aren't refuted
pub not_refuted : (values : List Bool) (clauses : List (List Lit)) (lits : List Lit)
    → Meets values clauses → All (IsTrueIn values) lits → Refutes clauses lits → ⊥
not_refuted values clauses lits meets all (k, clause, within, is, gives) =
    not_both values holds.1 holds.4
    (closure_holds values clauses lits (negation holds.1) meets all
    (All-contains (λ l. InClosure clauses lits (negation l)) clause holds.1 gives
    (holds.0, holds.2, holds.3)))
  where
    holds : HoldsIn values clause
    holds = subst (HoldsIn values) is (meets k clause within)

pub refuted_follows : RefutedFollows
refuted_follows clauses clause refuted values meets =
    elim (any_or_none (makes_true values) clause) [
      | inl some ↦ some
      | inr none ↦ absurd
          (not_refuted values clauses (negations clause) meets
          (λ k d within. negated_true none (negations clause) k d within
          (All-contains_itself (negations clause) k d within)) refuted)
    ]
  where
    negated_true : All (λ l. makes_true values l ≡ false) clause → (ns : List Lit) (k : ℕ) (d : Lit)
        → k < length ns → Contains (negations clause) (get_or ns k d)
        → IsTrueIn values (get_or ns k d)
    negated_true none ns k d within here =
        let m = mapped_from negation clause (get_or ns k d) here in
        subst (IsTrueIn values) m.2
        (makes_true-negation values m.0
        ∙ not_from_false (makes_true values m.0)
        (All-contains (λ l. makes_true values l ≡ false) clause m.0 none m.1))
