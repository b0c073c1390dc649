-- Lemmas about lists for all crates: some and all elements, two lists place by place, sums.
use Rattle.std.proofs.Common.{◌≡◌, ◌≢◌, ◌<◌, ◌≤◌, ◌+◌, ℕ, zero, suc, List, [], ◌∷◌, ◌++◌}
use Rattle.std.proofs.Common.{Option, None, Some, IsSomeAnd, slice_get, length, get_or, take}
use Rattle.std.proofs.Common.{All, Any, sum_by}
use Rattle.std.proofs.Common.{refl, sym, ap, subst, ◌∙◌, arith, length-append}
use Rattle.std.specs.List.{AllZip, flat_map}
use Rattle.std.proofs.lemmas.List.{get_or_append_left, get_or-append-add, take_more}
use Rattle.std.proofs.lemmas.List.Elements.{All-nil, All-cons, All-head, All-tail}
use Rattle.std.proofs.lemmas.List.Sums.{sum_by-cons, sum_by-le}

module _ {X : Type 0} (P : X → Type 0) where
  -- some element of the first list is some element of both
  pub Any-append_left : (xs ys : List X) → Any P xs → Any P (xs ++ ys)
  Any-append_left xs ys some =
      let within : some.0 < length (xs ++ ys) = omega (arith, length-append xs ys, some.2) in
      (some.0, some.1, within, get_or_append_left xs ys some.1 some.0 some.2 ∙ some.3, some.4)

  -- what holds of all elements holds of the one that was found
  pub All-found : (Q : X → Type 0) (xs : List X) → All P xs → (some : Any Q xs) → P some.1
  All-found Q xs all some = subst P some.3 (all some.0 some.1 some.2)

  -- an element of one kind is of another
  pub Any-weaker : (Q : X → Type 0) → ((x : X) → P x → Q x) → (xs : List X) → Any P xs → Any Q xs
  Any-weaker Q weaker xs some = (some.0, some.1, some.2, some.3, weaker some.1 some.4)

module _ {X : Type 0} where
  -- an item stays at its place when more follow
  pub slice_get_append : (xs ys : List X) (at : ℕ) (x : X) → slice_get xs at ≡ Some x
      → slice_get (xs ++ ys) at ≡ Some x
  slice_get_append [] ys at x here = cc
  slice_get_append (y ∷ xs) ys zero x here = here
  slice_get_append (y ∷ xs) ys (suc at) x here = slice_get_append xs ys at x here

  -- a fact about an item holds wherever the same item stands
  pub IsSomeAnd-kept : (P : X → Type 0) (old new : Option X)
      → ((x : X) → old ≡ Some x → new ≡ Some x) → IsSomeAnd old P → IsSomeAnd new P
  IsSomeAnd-kept P None new kept fact = absurd fact
  IsSomeAnd-kept P (Some x) new kept fact = subst (λ o. IsSomeAnd o P) (sym (kept x refl)) fact

module _ {X Y : Type 0} (R : X → Y → Type 0) where
  -- one more pair of a relation
  pub AllZip-add : (xs : List X) (ys : List Y) (x : X) (y : Y) → AllZip R xs ys → R x y
      → AllZip R (xs ++ x ∷ []) (ys ++ y ∷ [])
  AllZip-add [] [] x y all one = (one, tt)
  AllZip-add [] (b ∷ ys) x y all one = absurd all
  AllZip-add (a ∷ xs) [] x y all one = absurd all
  AllZip-add (a ∷ xs) (b ∷ ys) x y all one = (all.0, AllZip-add xs ys x y all.1 one)

  -- a weaker relation
  pub AllZip-weaker : (Q : X → Y → Type 0) → ((x : X) (y : Y) → R x y → Q x y)
      → (xs : List X) (ys : List Y) → AllZip R xs ys → AllZip Q xs ys
  AllZip-weaker Q weaker [] [] all = tt
  AllZip-weaker Q weaker [] (b ∷ ys) all = absurd all
  AllZip-weaker Q weaker (a ∷ xs) [] all = absurd all
  AllZip-weaker Q weaker (a ∷ xs) (b ∷ ys) all =
      (weaker a b all.0, AllZip-weaker Q weaker xs ys all.1)

  -- the relation the other way round
  pub AllZip-flip : (xs : List X) (ys : List Y) → AllZip R xs ys → AllZip (λ y x. R x y) ys xs
  AllZip-flip [] [] all = tt
  AllZip-flip [] (b ∷ ys) all = absurd all
  AllZip-flip (a ∷ xs) [] all = absurd all
  AllZip-flip (a ∷ xs) (b ∷ ys) all = (all.0, AllZip-flip xs ys all.1)

  module _ (P : X → Type 0) (Q : Y → Type 0) (from : (x : X) (y : Y) → R x y → P x → Q y) where
    -- what all of one list have, all of the other have
    pub AllZip-All : (xs : List X) (ys : List Y) → AllZip R xs ys → All P xs → All Q ys
    AllZip-All [] [] all each = All-nil Q
    AllZip-All [] (b ∷ ys) all each = absurd all
    AllZip-All (a ∷ xs) [] all each = absurd all
    AllZip-All (a ∷ xs) (b ∷ ys) all each =
        All-cons Q b ys (from a b all.0 (All-head P a xs each))
        (AllZip-All xs ys all.1 (All-tail P a xs each))

    -- and what some of one has, some of the other has
    pub AllZip-Any : (xs : List X) (ys : List Y) → AllZip R xs ys → Any P xs → Any Q ys
    AllZip-Any [] [] all some = absurd (omega (arith, some.2))
    AllZip-Any [] (b ∷ ys) all some = absurd all
    AllZip-Any (a ∷ xs) [] all some = absurd all
    AllZip-Any (a ∷ xs) (b ∷ ys) all some = by some.0 some.2 some.3 (AllZip-Any xs ys all.1)
      where
        by : (k : ℕ) → k < length (a ∷ xs) → get_or (a ∷ xs) k some.1 ≡ some.1
            → (Any P xs → Any Q ys) → Any Q (b ∷ ys)
        by zero within here later =
            (0, b, omega arith, refl, from a b all.0 (subst P (sym here) some.4))
        by (suc k) within here later =
            let rest = later (k, some.1, omega (arith, within), here, some.4) in
            (suc rest.0, rest.1, omega (arith, rest.2), rest.3, rest.4)

module _ {X Y : Type 0} (R : X → Y → Type 0) where
  -- the relation at one place
  pub AllZip-at : (xs : List X) (ys : List Y) (at : ℕ) (d : X) (e : Y) → AllZip R xs ys
      → at < length xs → R (get_or xs at d) (get_or ys at e)
  AllZip-at [] [] at d e all within = absurd (omega (arith, within))
  AllZip-at [] (b ∷ ys) at d e all within = absurd all
  AllZip-at (a ∷ xs) [] at d e all within = absurd all
  AllZip-at (a ∷ xs) (b ∷ ys) zero d e all within = all.0
  AllZip-at (a ∷ xs) (b ∷ ys) (suc at) d e all within =
      AllZip-at xs ys at d e all.1 (omega (arith, within))

  -- the lists are as long
  pub AllZip-length : (xs : List X) (ys : List Y) → AllZip R xs ys → length xs ≡ length ys
  AllZip-length [] [] all = refl
  AllZip-length [] (b ∷ ys) all = absurd all
  AllZip-length (a ∷ xs) [] all = absurd all
  AllZip-length (a ∷ xs) (b ∷ ys) all = omega (arith, AllZip-length xs ys all.1)

-- what there is, with its fact
pub IsSomeAnd-found : {X : Type 0} (P : X → Type 0) (o : Option X) → IsSomeAnd o P
    → (x : X) × (o ≡ Some x) × P x
IsSomeAnd-found P None fact = absurd fact
IsSomeAnd-found P (Some x) fact = (x, refl, fact)

-- what holds of all items of joined lists holds of those of the first
pub All-left : {X : Type 0} (P : X → Type 0) (xs ys : List X) → All P (xs ++ ys) → All P xs
All-left P xs ys all k d within =
    subst P (get_or_append_left xs ys d k within)
    (all k d (omega (arith, within, length-append xs ys)))

-- and of those of the second
pub All-right : {X : Type 0} (P : X → Type 0) (xs ys : List X) → All P (xs ++ ys) → All P ys
All-right P xs ys all k d within =
    subst P (get_or-append-add xs ys k d)
    (all (length xs + k) d (omega (arith, within, length-append xs ys)))

-- what holds of all items of a flat map holds of those of each item
pub All-flat_map : {X Y : Type 0} (P : Y → Type 0) (f : X → List Y) (xs : List X)
    → All P (flat_map f xs) → All (λ x. All P (f x)) xs
All-flat_map P f [] all = All-nil (λ x. All P (f x))
All-flat_map P f (x ∷ xs) all =
    All-cons (λ y. All P (f y)) x xs (All-left P (f x) (flat_map f xs) all)
    (All-flat_map P f xs (All-right P (f x) (flat_map f xs) all))

-- one more item of a front, as a loop reads it
pub take_more_read : {X : Type 0} (xs : List X) (i : ℕ) (x : X) → i < length xs → x ≡ get_or xs i x
    → take (i + 1) xs ≡ take i xs ++ x ∷ []
take_more_read xs i x within is =
    subst (λ it. take (i + 1) xs ≡ take i xs ++ it ∷ []) (sym is) (take_more xs i x within)

module _ {X : Type 0} where
  -- functions that agree on a list have the same sum over it
  pub sum_by-agree : (f g : X → ℕ) (xs : List X) → All (λ x. f x ≡ g x) xs
      → sum_by f xs ≡ sum_by g xs
  sum_by-agree f g [] same = refl
  sum_by-agree f g (x ∷ xs) same =
      let head : f x ≡ g x = All-head (λ y. f y ≡ g y) x xs same in
      let rest : sum_by f xs ≡ sum_by g xs =
      sum_by-agree f g xs (All-tail (λ y. f y ≡ g y) x xs same) in
      omega (arith, sum_by-cons f x xs, sum_by-cons g x xs, head, rest)

  -- a function that is nowhere greater on a list has no greater sum over it
  pub sum_by-le_each : (f g : X → ℕ) (xs : List X) → All (λ x. f x ≤ g x) xs
      → sum_by f xs ≤ sum_by g xs
  sum_by-le_each f g [] less = omega arith
  sum_by-le_each f g (x ∷ xs) less =
      let head : f x ≤ g x = All-head (λ y. f y ≤ g y) x xs less in
      let rest : sum_by f xs ≤ sum_by g xs =
      sum_by-le_each f g xs (All-tail (λ y. f y ≤ g y) x xs less) in
      omega (arith, sum_by-cons f x xs, sum_by-cons g x xs, head, rest)

  -- a sum of sums
  pub sum_by-add : (f g : X → ℕ) (xs : List X)
      → sum_by (λ x. f x + g x) xs ≡ sum_by f xs + sum_by g xs
  sum_by-add f g [] = refl
  sum_by-add f g (x ∷ xs) =
      omega (
        arith,
        sum_by-cons (λ y. f y + g y) x xs,
        sum_by-cons f x xs,
        sum_by-cons g x xs,
        sum_by-add f g xs,
      )

  -- where a function is 0
  pub sum_by-none : (f : X → ℕ) (xs : List X) → All (λ x. f x ≡ 0) xs → sum_by f xs ≡ 0
  sum_by-none f xs none = omega (arith, sum_by-le f 0 xs (λ k d h. omega (arith, none k d h)))

  -- where a function is 0 at all places but one
  pub sum_by-one : (f : X → ℕ) (xs : List X) (at : ℕ) (d : X) → at < length xs
      → ((k : ℕ) (e : X) → k < length xs → k ≢ at → f (get_or xs k e) ≡ 0)
      → sum_by f xs ≡ f (get_or xs at d)
  sum_by-one f [] at d within others = absurd (omega (arith, within))
  sum_by-one f (x ∷ xs) zero d within others =
      let rest : sum_by f xs ≡ 0 =
      sum_by-none f xs (λ k e h. others (suc k) e (omega arith) (omega arith)) in
      omega (arith, sum_by-cons f x xs, rest)
  sum_by-one f (x ∷ xs) (suc at) d within others =
      let head : f x ≡ 0 = others 0 x (omega arith) (omega arith) in
      let rest : sum_by f xs ≡ f (get_or xs at d) =
      sum_by-one f xs at d (omega arith)
      (λ k e h ne. others (suc k) e (omega arith) (omega arith)) in
      omega (arith, sum_by-cons f x xs, head, rest)

-- the order of two sums
pub sum_by_swap : {X Y : Type 0} (f : X → Y → ℕ) (xs : List X) (ys : List Y)
    → sum_by (λ x. sum_by (f x) ys) xs ≡ sum_by (λ y. sum_by (λ x. f x y) xs) ys
sum_by_swap f [] ys = sym (sum_by-none (λ y. sum_by (λ x. f x y) []) ys (λ k d h. refl))
sum_by_swap f (x ∷ xs) ys =
    sum_by-cons (λ z. sum_by (f z) ys) x xs ∙ ap (λ n. sum_by (f x) ys + n) (sum_by_swap f xs ys)
    ∙ sym (sum_by-add (f x) (λ y. sum_by (λ z. f z y) xs) ys)
    ∙ sum_by-agree (λ y. f x y + sum_by (λ z. f z y) xs) (λ y. sum_by (λ z. f z y) (x ∷ xs)) ys
    (λ k d h. sym (sum_by-cons (λ z. f z (get_or ys k d)) x xs))
