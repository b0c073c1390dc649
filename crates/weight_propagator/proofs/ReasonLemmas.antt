-- A reason grows by one literal, or passes one over.
use Rattle.std.proofs.Common.{◌≡◌, ◌≢◌, ◌≤◌, ◌<◌, ◌+◌, ℕ, Bool, true, false, List}
use Rattle.std.proofs.Common.{[], ◌∷◌, ◌++◌, length, get_or, take, Option, refl, sym, ap}
use Rattle.std.proofs.Common.{◌∙◌, arith, append_assoc, length-take}
use Rattle.std.specs.Prelude.{All, Any, AllPairs, IfSome, sum_by, if◌then◌else◌}
use Rattle.std.proofs.lemmas.List.{get_or-take, get_or_default, append-nil}
use Rattle.std.proofs.lemmas.List.Elements.{All-contains, All-nil, All-push, All-weaker}
use Rattle.std.proofs.lemmas.List.Elements.{Contains-append_left, Contains-push, Contains-get_or}
use Rattle.std.proofs.lemmas.List.Quantifiers.{all_pairs_push}
use Rattle.std.proofs.lemmas.List.Sums.{sum_by_more, sum_by-take-le}
use Rattle.clause_store.specs.declared.literal.Lit.{Lit}
use Rattle.clause_store.specs.declared.literal.Value.TheVariants.{Unset}
use Rattle.clause_store.specs.declared.step.Step.{Step}
use Rattle.clause_store.specs.Clause.{variable, makes_true}
use Rattle.clause_store.specs.Trail.{value_of}
use Rattle.weight_propagator.specs.declared.row.Term.{Term}
use Rattle.weight_propagator.specs.declared.side.Side.{Side}
use Rattle.weight_propagator.specs.declared.side.Side.TheVariants.{Reached, Missed}
use Rattle.weight_propagator.specs.Rows.{is_taken, denial, taken_sum, side_weight, side_sum}
use Rattle.weight_propagator.specs.Rows.{IsReason}
use Rattle.normal_program.proofs.lemmas.Base.TruthLemmas.{makes_true-negation}
use Rattle.weight_propagator.proofs.TruthLemmas.{not_false}
use Rattle.weight_propagator.proofs.ValueLemmas.{taken_same, variable-denial}

pub All-front : {X : Type 0} (P : X → Type 0) (xs ys : List X) → All P (xs ++ ys) → All P xs
All-front P xs ys all k d within =
    All-contains P (xs ++ ys) (get_or xs k d) all
    (Contains-append_left xs ys (get_or xs k d) (Contains-get_or xs k d within))

pub All-last : {X : Type 0} (P : X → Type 0) (xs : List X) (y : X) → All P (xs ++ y ∷ []) → P y
All-last P xs y all = All-contains P (xs ++ y ∷ []) y all (Contains-push xs y)

-- where the denial of a literal is false, its whole weight is on the side
pub denied_weight : (side : Side) (values : List Bool) (term : Term)
    → makes_true values (denial side term.lit) ≡ false
    → side_weight side values term ≡ term.weight
denied_weight Reached values term is =
    ap (λ b. if b then term.weight else 0)
    (not_false (makes_true values term.lit) (sym (makes_true-negation values term.lit) ∙ is))
denied_weight Missed values term is = ap (λ b. if b then 0 else term.weight) is

-- an element of a front is one of the longer front
any_more : {X : Type 0} (P : X → Type 0) (xs : List X) (i : ℕ) → Any P (take i xs)
    → Any P (take (i + 1) xs)
any_more P xs i (k, x, within, is, holds) =
    let low : k < i = omega (arith, length-take i xs) in (
      k,
      x,
      omega (arith, length-take i xs, length-take (i + 1) xs),
      get_or-take (i + 1) xs k x (omega arith) ∙ sym (get_or-take i xs k x low) ∙ is,
      holds,
    )

any_whole : {X : Type 0} (P : X → Type 0) (xs : List X) (i : ℕ) → Any P (take i xs) → Any P xs
any_whole P xs i (k, x, within, is, holds) =
    let low : k < i = omega (arith, length-take i xs) in
    (k, x, omega (arith, length-take i xs), sym (get_or-take i xs k x low) ∙ is, holds)

module _ (side : Side) (steps : List Step) (extra : Option Lit) (terms : List Term) where
  -- nothing was taken yet
  pub reason_none : (old : List Lit) → IsReason side steps extra (take 0 terms) 0 old old
  reason_none old = record {
    added = [];
    appended = sym (append-nil old);
    taken =
        All-nil (λ lit. Any
        (λ term. (is_taken side steps extra term ≡ true) × (lit ≡ denial side term.lit))
        (take 0 terms));
    enough = λ values none. omega arith;
    once = λ i j d before inside. absurd (omega (arith, inside));
  }

  -- enough was taken
  pub reason_whole : (i goal reached : ℕ) (old new : List Lit)
      → IsReason side steps extra (take i terms) reached old new → goal ≤ reached
      → IsReason side steps extra terms goal old new
  reason_whole i goal reached old new is enough = record {
    added = is.added;
    appended = is.appended;
    taken =
        All-weaker _ _ (λ lit some. any_whole
        (λ term. (is_taken side steps extra term ≡ true) × (lit ≡ denial side term.lit))
        terms i some) is.added is.taken;
    enough = λ values none.
        let some : reached ≤ side_sum side values (take i terms) = is.enough values none in
        omega (arith, sum_by-take-le (side_weight side values) terms i);
    once = is.once;
  }

  module _ (i : ℕ) (term : Term) (within : i < length terms) (here : get_or terms i term ≡ term)
    where
      here_any : (P : Term → Type 0) → P term → Any P (take (i + 1) terms)
      here_any P holds = (
        i,
        term,
        omega (arith, length-take (i + 1) terms),
        get_or-take (i + 1) terms i term (omega arith) ∙ here,
        holds,
      )

      sum_more : (f : Term → ℕ) → sum_by f (take (i + 1) terms) ≡ sum_by f (take i terms) + f term
      sum_more f = sum_by_more f terms i term within
          ∙ ap (λ t. sum_by f (take i terms) + f t) here

      -- a literal is passed over
      pub reason_passes : (reached : ℕ) (old new : List Lit)
          → IsReason side steps extra (take i terms) reached old new
          → IsReason side steps extra (take (i + 1) terms) reached old new
      reason_passes reached old new is = record {
        added = is.added;
        appended = is.appended;
        taken =
            All-weaker _ _ (λ lit some. any_more
            (λ one. (is_taken side steps extra one ≡ true) × (lit ≡ denial side one.lit))
            terms i some) is.added is.taken;
        enough = λ values none.
            let some : reached ≤ side_sum side values (take i terms) = is.enough values none in
            omega (arith, sum_more (side_weight side values));
        once = is.once;
      }

      -- a literal is taken
      pub reason_takes : (reached : ℕ) (old new : List Lit)
          → AllPairs (λ one two. one.lit ≢ two.lit) terms
          → IfSome extra (λ one. value_of steps one ≡ Unset)
          → is_taken side steps extra term ≡ true
          → IsReason side steps extra (take i terms) reached old new
          → IsReason side steps extra (take (i + 1) terms) (reached + term.weight) old
          (new ++ denial side term.lit ∷ [])
      reason_takes reached old new distinct unset taken is = record {
        added = is.added ++ denial side term.lit ∷ [];
        appended =
            ap (λ lits. lits ++ denial side term.lit ∷ []) is.appended
            ∙ append_assoc old is.added (denial side term.lit ∷ []);
        taken =
            All-push
            (λ lit. Any
            (λ one. (is_taken side steps extra one ≡ true) × (lit ≡ denial side one.lit))
            (take (i + 1) terms)) is.added (denial side term.lit)
            (All-weaker _ _ (λ lit some. any_more
            (λ one. (is_taken side steps extra one ≡ true) × (lit ≡ denial side one.lit))
            terms i some) is.added is.taken)
            (here_any
            (λ one. (is_taken side steps extra one ≡ true)
            × (denial side term.lit ≡ denial side one.lit)) (taken, refl));
        enough = λ values none.
            let some : reached ≤ side_sum side values (take i terms) =
            is.enough values
            (All-front (λ lit. makes_true values lit ≡ false) is.added (denial side term.lit ∷ [])
            none) in
            let more : side_weight side values term ≡ term.weight =
            denied_weight side values term
            (All-last (λ lit. makes_true values lit ≡ false) is.added (denial side term.lit)
            none) in
            omega (arith, sum_more (side_weight side values), some, more);
        once =
            all_pairs_push (λ one two. variable one ≢ variable two) is.added (denial side term.lit)
            is.once (λ k d inside same. apart (is.taken k d inside) same);
      }
        where
          apart : {lit : Lit}
              → Any
              (λ one. (is_taken side steps extra one ≡ true) × (lit ≡ denial side one.lit))
              (take i terms) → variable lit ≡ variable (denial side term.lit) → ⊥
          apart (k, one, inside, at, (taken_one, is_denial)) same =
              let low : k < i = omega (arith, length-take i terms) in
              let there : get_or terms k one ≡ one = sym (get_or-take i terms k one low) ∙ at in
              let equal : one.lit ≡ term.lit =
              taken_same side steps extra unset one term taken_one taken
              (sym (variable-denial side one.lit) ∙ ap variable (sym is_denial) ∙ same
              ∙ variable-denial side term.lit) in
              distinct k i one low within
              (ap (λ (t : Term). t.lit) there ∙ equal
              ∙ ap (λ (t : Term). t.lit) (sym here ∙ get_or_default terms i term one within))

-- the sum of what was taken, at one literal more
taken_more : (side : Side) (steps : List Step) (extra : Option Lit) (terms : List Term) (i : ℕ)
    (d : Term) → i < length terms
    → taken_sum side steps extra (take (i + 1) terms)
    ≡ taken_sum side steps extra (take i terms)
    + (if is_taken side steps extra (get_or terms i d) then (get_or terms i d).weight else 0)
taken_more side steps extra terms i d within =
    sum_by_more (λ term. if is_taken side steps extra term then term.weight else 0) terms i d within

-- the invariant of the loop that collects a reason
abbrev pub IsCollected : Side → List Step → Option Lit → List Term → ℕ → List Lit → List Lit
    → Type 0
IsCollected side steps extra terms reached old new =
    IsReason side steps extra terms reached old new
    × (reached ≡ taken_sum side steps extra terms)

module _ (side : Side) (steps : List Step) (extra : Option Lit) (terms : List Term) (i : ℕ)
    (d : Term) (within : i < length terms) (reached : ℕ) (old new : List Lit)
    (is : IsCollected side steps extra (take i terms) reached old new) where
  pub collected_passes : is_taken side steps extra (get_or terms i d) ≡ false
      → IsCollected side steps extra (take (i + 1) terms) reached old new
  collected_passes not_taken = (
    reason_passes side steps extra terms i (get_or terms i d) within
        (get_or_default terms i (get_or terms i d) d within) reached old new is.0,
    (let none : (if is_taken side steps extra (get_or terms i d) then (get_or terms i d).weight
        else 0) ≡ 0 = ap (λ b. if b then (get_or terms i d).weight else 0) not_taken in
        omega (arith, is.1, taken_more side steps extra terms i d within, none)),
  )

  pub collected_takes : AllPairs (λ one two. one.lit ≢ two.lit) terms
      → IfSome extra (λ one. value_of steps one ≡ Unset)
      → is_taken side steps extra (get_or terms i d) ≡ true
      → IsCollected side steps extra (take (i + 1) terms) (reached + (get_or terms i d).weight) old
      (new ++ denial side (get_or terms i d).lit ∷ [])
  collected_takes distinct unset taken = (
    reason_takes side steps extra terms i (get_or terms i d) within
        (get_or_default terms i (get_or terms i d) d within) reached old new distinct unset taken
        is.0,
    (let all : (if is_taken side steps extra (get_or terms i d) then (get_or terms i d).weight
        else 0) ≡ (get_or terms i d).weight =
        ap (λ b. if b then (get_or terms i d).weight else 0) taken in
        omega (arith, is.1, taken_more side steps extra terms i d within, all)),
  )
