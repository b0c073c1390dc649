-- Cleaning clauses changes nothing of what they say.
use Rattle.std.proofs.Common.{◌≡◌, Bool, true, false, not, cond, List, [], ◌∷◌, get_or, map, filter}
use Rattle.std.proofs.Common.{flat_map, All, Contains, refl, sym, ap, subst, ◌∙◌, arith, ⊎_elim}
use Rattle.std.proofs.lemmas.Bool.{ne_eqb, eqb-true, cases_Bool}
use Rattle.std.proofs.lemmas.List.Elements.{All-contains, Contains-append_cases}
use Rattle.std.proofs.lemmas.List.Elements.{Contains-append_left, Contains-append_right}
use Rattle.std.proofs.lemmas.List.Elements.{Contains-get_or}
use Rattle.std.proofs.lemmas.List.Folds.{Any-from_list_any}
use Rattle.clause_store.specs.declared.literal.Lit.{Lit}
use Rattle.clause_store.specs.Clause.{negation, makes_true, IsTrueIn, HoldsIn, Meets}
use Rattle.clause_store.proofs.LiteralLemmas.{lit_of_code, cases_lit, has_first, has_later}
use Rattle.clause_store.proofs.LiteralLemmas.{first_or_later, has_kept, has_mapped, mapped_from}
use Rattle.clause_store.proofs.LiteralLemmas.{any_through}
use Rattle.normal_program.specs.Clauses.{is_lit, has_lit, each_once, is_tautology, cleaned}
use Rattle.normal_program.proofs.lemmas.Base.TruthLemmas.{makes_true-negation, HoldsIn-by}

module _ {X : Type 0} where
  -- what a filter keeps was there
  pub kept_from : (p : X → Bool) (xs : List X) (x : X) → Contains (filter p xs) x → Contains xs x
  kept_from p [] x here = here
  kept_from p (y ∷ xs) x here = by (p y) refl here (kept_from p xs x)
    where
      by : (b : Bool) → p y ≡ b → Contains (filter p (y ∷ xs)) x
          → (Contains (filter p xs) x → Contains xs x) → Contains (y ∷ xs) x
      by true e there later =
          let seen : Contains (y ∷ filter p xs) x =
          subst (λ b. Contains (cond b (y ∷ filter p xs) (filter p xs)) x) e there in
          ⊎_elim (λ same. subst (λ z. Contains (y ∷ xs) z) same (has_first y xs))
          (λ rest. has_later y x xs (later rest)) (first_or_later y x (filter p xs) seen)
      by false e there later =
          let seen : Contains (filter p xs) x =
          subst (λ b. Contains (cond b (y ∷ filter p xs) (filter p xs)) x) e there in
          has_later y x xs (later seen)

  -- an item of many lists is of one of them
  pub flat_from : {Y : Type 0} (f : Y → List X) (ys : List Y) (x : X) → Contains (flat_map f ys) x
      → (y : Y) × Contains ys y × Contains (f y) x
  flat_from f [] x here = absurd (omega (arith, here.1))
  flat_from f (y ∷ ys) x here =
      ⊎_elim (λ first. (y, has_first y ys, first))
      (λ rest. let found = flat_from f ys x rest in
      (found.0, has_later y found.0 ys found.1, found.2))
      (Contains-append_cases (f y) (flat_map f ys) x here)

  -- an item of one of them is of all
  pub flat_has : {Y : Type 0} (f : Y → List X) (ys : List Y) (y : Y) (x : X) → Contains ys y
      → Contains (f y) x → Contains (flat_map f ys) x
  flat_has f [] y x here there = absurd (omega (arith, here.1))
  flat_has f (z ∷ ys) y x here there =
      ⊎_elim
      (λ same. Contains-append_left (f z) (flat_map f ys) x
      (subst (λ w. Contains (f w) x) (sym same) there))
      (λ rest. Contains-append_right (f z) (flat_map f ys) x (flat_has f ys y x rest there))
      (first_or_later z y ys here)

-- a literal stays when each is kept once
pub once_has : (clause : List Lit) (lit : Lit) → Contains clause lit
    → Contains (each_once clause) lit
once_has [] lit here = here
once_has (one ∷ rest) lit here =
    ⊎_elim
    (λ same. subst (λ z. Contains (each_once (one ∷ rest)) z) same
    (has_first one (filter (λ other. not (is_lit one other)) (each_once rest))))
    (λ later. ⊎_elim
    (λ same. subst (λ z. Contains (each_once (one ∷ rest)) z) same
    (has_first one (filter (λ other. not (is_lit one other)) (each_once rest))))
    (λ differ. has_later one lit (filter (λ other. not (is_lit one other)) (each_once rest))
    (has_kept (λ other. not (is_lit one other)) (each_once rest) lit (once_has rest lit later)
    (ap not (ne_eqb one.0 lit.0 (λ e. differ (lit_of_code one lit e))))))
    (cases_lit one lit))
    (first_or_later one lit rest here)

-- and none comes in
pub once_from : (clause : List Lit) (lit : Lit) → Contains (each_once clause) lit
    → Contains clause lit
once_from [] lit here = here
once_from (one ∷ rest) lit here =
    ⊎_elim (λ same. subst (λ z. Contains (one ∷ rest) z) same (has_first one rest))
    (λ later. has_later one lit rest
    (once_from rest lit
    (kept_from (λ other. not (is_lit one other)) (each_once rest) lit later)))
    (first_or_later one lit (filter (λ other. not (is_lit one other)) (each_once rest)) here)

module _ (values : List Bool) where
  each_of : (one two : List Lit) → ((lit : Lit) → Contains one lit → Contains two lit)
      → All (Contains two) one
  each_of one two within k d h = within (get_or one k d) (Contains-get_or one k d h)

  pub HoldsIn-once : (clause : List Lit) → HoldsIn values clause → HoldsIn values (each_once clause)
  HoldsIn-once clause holds =
      any_through (IsTrueIn values) (IsTrueIn values) clause (each_once clause)
      (each_of clause (each_once clause) (once_has clause)) (λ lit true_one. true_one) holds

  pub HoldsIn-from_once : (clause : List Lit) → HoldsIn values (each_once clause)
      → HoldsIn values clause
  HoldsIn-from_once clause holds =
      any_through (IsTrueIn values) (IsTrueIn values) (each_once clause) clause
      (each_of (each_once clause) clause (once_from clause)) (λ lit true_one. true_one) holds

  -- a literal that a test finds is there
  pub has_lit-Contains : (clause : List Lit) (lit : Lit) → has_lit clause lit ≡ true
      → Contains clause lit
  has_lit-Contains clause lit found =
      let some = Any-from_list_any (is_lit lit) clause found in
      let same : some.1 ≡ lit = lit_of_code some.1 lit (sym (eqb-true lit.0 some.1.0 some.4)) in
      subst (Contains clause) same (some.0, some.2, some.3)

  -- a tautology holds
  pub tautology_holds : (clause : List Lit) → is_tautology clause ≡ true → HoldsIn values clause
  tautology_holds clause found =
      let some = Any-from_list_any (λ lit. has_lit clause (negation lit)) clause found in
      let lit = some.1 in
      ⊎_elim (λ true_one. HoldsIn-by values clause lit (some.0, some.2, some.3) true_one)
      (λ false_one. HoldsIn-by values clause (negation lit)
      (has_lit-Contains clause (negation lit) some.4)
      (makes_true-negation values lit ∙ ap not false_one))
      (cases_Bool (makes_true values lit))

  -- clauses that hold go on holding when they are cleaned
  pub cleaned_hold : (clauses : List (List Lit))
      → ((clause : List Lit) → Contains clauses clause → HoldsIn values clause)
      → Meets values (cleaned clauses)
  cleaned_hold clauses hold k d h =
      let here = Contains-get_or (cleaned clauses) k d h in
      let raw =
      mapped_from each_once clauses (get_or (cleaned clauses) k d)
      (kept_from (λ clause. not (is_tautology clause)) (map each_once clauses)
      (get_or (cleaned clauses) k d) here) in
      subst (HoldsIn values) raw.2 (HoldsIn-once raw.0 (hold raw.0 raw.1))

  -- clauses hold that hold after cleaning
  pub hold_from_cleaned : (clauses : List (List Lit)) → Meets values (cleaned clauses)
      → (clause : List Lit) → Contains clauses clause → HoldsIn values clause
  hold_from_cleaned clauses meets clause here =
      HoldsIn-from_once clause
      (⊎_elim (λ tautology. tautology_holds (each_once clause) tautology)
      (λ none. All-contains (HoldsIn values) (cleaned clauses) (each_once clause) meets
      (has_kept (λ one. not (is_tautology one)) (map each_once clauses) (each_once clause)
      (has_mapped each_once clauses clause here) (ap not none)))
      (cases_Bool (is_tautology (each_once clause))))
