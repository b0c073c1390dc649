-- Calls that add clauses, one after another and in loops.
use Rattle.std.proofs.Common.{ℕ, ◌≡◌, ◌<◌, ◌+◌, Result, Ok, Err, OnOk, OnErr, IsErr, List, [], ◌∷◌}
use Rattle.std.proofs.Common.{◌++◌}
use Rattle.std.proofs.Common.{length, get_or, map, filter, flat_map, take, take_all, refl, sym, ap}
use Rattle.std.proofs.Common.{subst, ◌∙◌, ◌≤◌, arith, Bool, true, false, cond, if◌then◌else◌}
use Rattle.std.proofs.lemmas.List.{map-append, get_or_default}
use Rattle.std.proofs.lemmas.List.Elements.{filter-append}
use Rattle.std.proofs.lemmas.List.Concat.{flat_map-append}
use Rattle.std.specs.List.{enumerate_from}
use Rattle.std.proofs.lemmas.List.FromFn.{length-enumerate_from}
use Rattle.clause_store.specs.declared.literal.Lit.{Lit}
use Rattle.normal_program.specs.declared.normal.BodyOf.{BodyOf}
use Rattle.clause_store.proofs.LiteralLemmas.{lit_of_code}
use Rattle.normal_program.specs.Clauses.{alone, cleaned}
use Rattle.completion.specs.Filling.{Gains, GainsFirst, Adds}
use Rattle.completion.proofs.GainLemmas.{Gains-then, Gains-first, GainsFirst-more, Gains-more}
use Rattle.completion.proofs.GainLemmas.{Gains-stopped, flat_map-one, cleaned-append, numbered-item}

-- an item of a list is one of the same list
pub item_of : {X : Type 0} (xs ys : List X) (at : ℕ) (x : X) → xs ≡ ys → at < length xs
    → x ≡ get_or xs at x → (at < length ys) × (x ≡ get_or ys at x)
item_of {X} xs ys at x same within here = (
  subst (λ (zs : List X). at < length zs) same within,
  here ∙ ap (λ (zs : List X). get_or zs at x) same,
)

-- a body is one with its number
pub numbered_of : (some bodies : List BodyOf) (number : ℕ) (body : BodyOf) → some ≡ bodies
    → number < length some → body ≡ get_or some number body
    → (number < length (enumerate_from 0 bodies))
    × ((number, body) ≡ get_or (enumerate_from 0 bodies) number (number, body))
numbered_of some bodies number body same within here =
    let item = item_of some bodies number body same within here in (
      omega (arith, item.0, length-enumerate_from 0 bodies),
      numbered-item bodies number body item.0 item.1,
    )

-- what was added is known by what a call says
pub Adds-ok : {T E : Type 0} (r : Result T E) (old new clauses : List (List Lit))
    → Adds r old new clauses → OnOk r (Gains old new clauses)
Adds-ok (Ok x) old new clauses adds = adds
Adds-ok (Err e) old new clauses adds = tt

pub Adds-err : {T E : Type 0} (r : Result T E) (old new clauses : List (List Lit))
    → Adds r old new clauses → OnErr r (GainsFirst old new clauses)
Adds-err (Ok x) old new clauses adds = tt
Adds-err (Err e) old new clauses adds = adds

-- a call that was stopped
pub Adds-stopped : {T E : Type 0} (r : Result T E) (old new clauses : List (List Lit)) → IsErr r
    → GainsFirst old new clauses → Adds r old new clauses
Adds-stopped (Ok x) old new clauses stopped first = cc
Adds-stopped (Err e) old new clauses stopped first = first

-- a call after clauses that were added
pub Adds-then : {T E : Type 0} (r : Result T E) (old mid new xs ys : List (List Lit))
    → Gains old mid (cleaned xs) → Adds r mid new (cleaned ys)
    → Adds r old new (cleaned (xs ++ ys))
Adds-then (Ok x) old mid new xs ys first second =
    subst (Gains old new) (sym (cleaned-append xs ys))
    (Gains-then old mid new (cleaned xs) (cleaned ys) first second)
Adds-then (Err e) old mid new xs ys first second =
    subst (GainsFirst old new) (sym (cleaned-append xs ys))
    (Gains-first old mid new (cleaned xs) (cleaned ys) first second)

-- the first clauses of some are the first of more
pub stopped_before : (old new xs ys : List (List Lit)) → GainsFirst old new (cleaned xs)
    → GainsFirst old new (cleaned (xs ++ ys))
stopped_before old new xs ys first =
    subst (GainsFirst old new) (sym (cleaned-append xs ys))
    (GainsFirst-more old new new (cleaned xs) (cleaned ys) first)

module _ {X : Type 0} (f : X → List (List Lit)) (old mid new : List (List Lit)) (xs : List X)
    (at : ℕ) (x : X) (item : (at < length xs) × (x ≡ get_or xs at x))
    (before : Gains old mid (cleaned (flat_map f (take at xs)))) where
  -- the clauses of one item more
  pub flat_more : Gains mid new (cleaned (f x))
      → Gains old new (cleaned (flat_map f (take (at + 1) xs)))
  flat_more step =
      Gains-more (flat_map f) (flat_map-append f) old mid new xs at x item.0 item.1 before
      (subst (λ clauses. Gains mid new (cleaned clauses)) (sym (flat_map-one f x (f x) refl)) step)

  -- want of memory at an item
  pub flat_stopped : GainsFirst mid new (cleaned (f x))
      → GainsFirst old new (cleaned (flat_map f xs))
  flat_stopped step =
      Gains-stopped (flat_map f) (flat_map-append f) old mid new xs at x item.0 item.1 before
      (subst (λ clauses. GainsFirst mid new (cleaned clauses)) (sym (flat_map-one f x (f x) refl))
      step)

module _ {X : Type 0} (f : X → List Lit) (old mid new : List (List Lit)) (xs : List X)
    (at : ℕ) (x : X) (item : (at < length xs) × (x ≡ get_or xs at x))
    (before : Gains old mid (cleaned (map f (take at xs)))) where
  -- the clause of one item more
  pub mapped_more : Gains mid new (cleaned (f x ∷ []))
      → Gains old new (cleaned (map f (take (at + 1) xs)))
  mapped_more step =
      Gains-more (map f) (map-append f) old mid new xs at x item.0 item.1 before step

  -- want of memory at an item
  pub mapped_stopped : GainsFirst mid new (cleaned (f x ∷ []))
      → GainsFirst old new (cleaned (map f xs))
  mapped_stopped step =
      Gains-stopped (map f) (map-append f) old mid new xs at x item.0 item.1 before step

-- want of memory at an item of a list that is read
pub read_stopped : {X T E : Type 0} (r : Result T E) (f : X → List (List Lit))
    (old mid new : List (List Lit)) (read xs : List X) (at : ℕ) (x : X) → IsErr r → read ≡ xs
    → at < length read → x ≡ get_or read at x → Gains old mid (cleaned (flat_map f (take at xs)))
    → GainsFirst mid new (cleaned (f x)) → Adds r old new (cleaned (flat_map f xs))
read_stopped r f old mid new read xs at x stopped same within here before step =
    Adds-stopped r old new (cleaned (flat_map f xs)) stopped
    (flat_stopped f old mid new xs at x (item_of read xs at x same within here) before step)

-- all numbered bodies, at the end of those that are read
pub all_numbered : (f : (ℕ × BodyOf) → List (List Lit)) (old new : List (List Lit))
    (read bodies : List BodyOf) (number : ℕ) → read ≡ bodies → length read ≤ number
    → Gains old new (cleaned (flat_map f (take number (enumerate_from 0 bodies))))
    → Gains old new (cleaned (flat_map f (enumerate_from 0 bodies)))
all_numbered f old new read bodies number same past gained =
    subst (λ items. Gains old new (cleaned (flat_map f items)))
    (take_all number (enumerate_from 0 bodies)
    (omega (
      arith,
      past,
      length-enumerate_from 0 bodies,
      ap (λ (some : List BodyOf). length some) same,
    )))
    gained

-- want of memory at the literal of an atom, alone in its clause
pub alone_stopped : {T E : Type 0} (r : Result T E) (f : ℕ → Lit) (old mid new : List (List Lit))
    (atoms : List ℕ) (at : ℕ) (lit : Lit) → IsErr r → at < length atoms
    → lit.0 ≡ (f (get_or atoms at 0)).0
    → Gains old mid (cleaned (map (λ atom. alone (f atom)) (take at atoms)))
    → GainsFirst mid new (cleaned (alone lit ∷ []))
    → Adds r old new (cleaned (map (λ atom. alone (f atom)) atoms))
alone_stopped r f old mid new atoms at lit stopped within same before step =
    let atom = get_or atoms at 0 in
    Adds-stopped r old new (cleaned (map (λ one. alone (f one)) atoms)) stopped
    (mapped_stopped (λ one. alone (f one)) old mid new atoms at atom
    (within, get_or_default atoms at 0 atom within) before
    (subst (λ (one : Lit). GainsFirst mid new (cleaned (alone one ∷ [])))
    (lit_of_code lit (f atom) same) step))

module _ {X : Type 0} (f : X → List Lit) (p : X → Bool) where
  kept_apart : (xs ys : List X)
      → map f (filter p (xs ++ ys)) ≡ map f (filter p xs) ++ map f (filter p ys)
  kept_apart xs ys =
      ap (map f) (filter-append p xs ys) ∙ map-append f (filter p xs) (filter p ys)

  kept_one : (x : X) → map f (filter p (x ∷ [])) ≡ (if p x then f x ∷ [] else [])
  kept_one x = by (p x)
    where
      by : (b : Bool) → map f (cond b (x ∷ []) []) ≡ (if b then f x ∷ [] else [])
      by true = refl
      by false = refl

  module _ (old mid new : List (List Lit)) (xs : List X) (at : ℕ) (x : X)
      (item : (at < length xs) × (x ≡ get_or xs at x))
      (before : Gains old mid (cleaned (map f (filter p (take at xs))))) where
    -- the clause of one item more, if a test keeps it
    pub kept_more : Gains mid new (cleaned (if p x then f x ∷ [] else []))
        → Gains old new (cleaned (map f (filter p (take (at + 1) xs))))
    kept_more step =
        Gains-more (λ ys. map f (filter p ys)) kept_apart old mid new xs at x item.0 item.1 before
        (subst (λ clauses. Gains mid new (cleaned clauses)) (sym (kept_one x)) step)

    -- want of memory at an item
    pub kept_stopped : GainsFirst mid new (cleaned (if p x then f x ∷ [] else []))
        → GainsFirst old new (cleaned (map f (filter p xs)))
    kept_stopped step =
        Gains-stopped (λ ys. map f (filter p ys)) kept_apart old mid new xs at x item.0 item.1
        before
        (subst (λ clauses. GainsFirst mid new (cleaned clauses)) (sym (kept_one x)) step)
