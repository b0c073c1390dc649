-- How gains of a store add up.
use Rattle.std.specs.List.{enumerate_from}
use Rattle.std.proofs.lemmas.List.FromFn.{get_or-enumerate_from}
use Rattle.normal_program.specs.declared.normal.BodyOf.{BodyOf}
use Rattle.std.proofs.Common.{flat_map, zero-add, Result, Ok, Err, OnOk, OnErr, Bool, true, false}
use Rattle.std.proofs.Common.{◌≤◌, All, if◌then◌else◌, not, append-nil, ◌≡◌, ◌<◌, ◌+◌, ℕ, List, []}
use Rattle.std.proofs.Common.{◌∷◌, ◌++◌, length, get_or, map, filter, take, drop, take-append-drop}
use Rattle.std.proofs.Common.{append_assoc, refl, sym, ap, subst, ◌∙◌, arith}
use Rattle.std.proofs.lemmas.List.{take_more, map-append}
use Rattle.std.proofs.lemmas.List.Elements.{filter-append, All-cons, All-map}
use Rattle.ground_program.specs.declared.program.AtomLit.{AtomLit}
use Rattle.clause_store.specs.Clause.{variable, negation}
use Rattle.clause_store.specs.Trail.{KeepsTrails}
use Rattle.clause_store.proofs.LiteralLemmas.{variable-negation}
use Rattle.clause_store.proofs.TrailLemmas.{slice_get-append}
use Rattle.normal_program.specs.declared.normal.Part.{Part}
use Rattle.clause_store.specs.declared.literal.Lit.{Lit}
use Rattle.normal_program.specs.Clauses.{positive, negative, literal_of, literals_of, each_once}
use Rattle.normal_program.specs.Clauses.{is_tautology, cleaned, base_clauses, body_clauses}
use Rattle.normal_program.specs.Clauses.{numbered_bodies, rule_clauses, support_clause}
use Rattle.normal_program.specs.Clauses.{atoms_of_normal, compute_clauses}
use Rattle.normal_program.specs.declared.normal.Normal.{Normal}
use Rattle.normal_program.proofs.lemmas.Base.TruthLemmas.{variable-positive, variable-negative}
use Rattle.normal_program.proofs.lemmas.Base.TruthLemmas.{variable-literal_of}
use Rattle.completion.specs.Filling.{Gains, GainsFirst, IsVar}

-- clauses are cleaned one by one
pub cleaned-append : (xs ys : List (List Lit)) → cleaned (xs ++ ys) ≡ cleaned xs ++ cleaned ys
cleaned-append xs ys =
    ap (filter (λ clause. not (is_tautology clause))) (map-append each_once xs ys)
    ∙ filter-append (λ clause. not (is_tautology clause)) (map each_once xs) (map each_once ys)

module _ (old mid new xs ys : List (List Lit)) where
  -- one gain after another
  pub Gains-then : Gains old mid xs → Gains mid new ys → Gains old new (xs ++ ys)
  Gains-then first second = second ∙ ap (λ l. l ++ ys) first ∙ append_assoc old xs ys

  -- a gain and the first clauses of another
  pub Gains-first : Gains old mid xs → GainsFirst mid new ys → GainsFirst old new (xs ++ ys)
  Gains-first first second = record {
    done = xs ++ second.done;
    rest = second.rest;
    all = ap (λ l. xs ++ l) second.all ∙ sym (append_assoc xs second.done second.rest);
    gained = second.gained ∙ ap (λ l. l ++ second.done) first ∙ append_assoc old xs second.done;
  }

  -- the first clauses of a list are the first of a longer one
  pub GainsFirst-more : GainsFirst old mid xs → GainsFirst old mid (xs ++ ys)
  GainsFirst-more first = record {
    done = first.done;
    rest = first.rest ++ ys;
    all = ap (λ l. l ++ ys) first.all ∙ append_assoc first.done first.rest ys;
    gained = first.gained;
  }

-- nothing was gained
pub GainsFirst-none : (old new xs : List (List Lit)) → new ≡ old → GainsFirst old new xs
GainsFirst-none old new xs same =
    record { done = []; rest = xs; all = refl; gained = same ∙ sym (append-nil old) }

-- clauses that are made item by item
module _ {X : Type 0} (made : List X → List (List Lit))
    (apart : (xs ys : List X) → made (xs ++ ys) ≡ made xs ++ made ys) where
  pub Gains-more : (old mid new : List (List Lit)) (xs : List X) (at : ℕ) (x : X) → at < length xs
      → x ≡ get_or xs at x
      → Gains old mid (cleaned (made (take at xs))) → Gains mid new (cleaned (made (x ∷ [])))
      → Gains old new (cleaned (made (take (at + 1) xs)))
  Gains-more old mid new xs at x within here first second =
      subst (Gains old new)
      (sym
      (ap (λ l. cleaned (made l))
      (take_more xs at x within ∙ ap (λ y. take at xs ++ y ∷ []) (sym here))
      ∙ ap cleaned (apart (take at xs) (x ∷ []))
      ∙ cleaned-append (made (take at xs)) (made (x ∷ []))))
      (Gains-then old mid new (cleaned (made (take at xs))) (cleaned (made (x ∷ []))) first second)

  split_at : (xs : List X) (at : ℕ) (x : X) → at < length xs → x ≡ get_or xs at x
      → cleaned (made xs) ≡ (cleaned (made (take at xs)) ++ cleaned (made (x ∷ [])))
      ++ cleaned (made (drop (at + 1) xs))
  split_at xs at x within here =
      ap (λ l. cleaned (made l))
      (sym (take-append-drop (at + 1) xs)
      ∙ ap (λ l. l ++ drop (at + 1) xs)
      (take_more xs at x within ∙ ap (λ y. take at xs ++ y ∷ []) (sym here)))
      ∙ ap cleaned (apart (take at xs ++ x ∷ []) (drop (at + 1) xs))
      ∙ cleaned-append (made (take at xs ++ x ∷ [])) (made (drop (at + 1) xs))
      ∙ ap (λ l. l ++ cleaned (made (drop (at + 1) xs)))
      (ap cleaned (apart (take at xs) (x ∷ []))
      ∙ cleaned-append (made (take at xs)) (made (x ∷ [])))

  pub Gains-stopped : (old mid new : List (List Lit)) (xs : List X) (at : ℕ) (x : X)
      → at < length xs → x ≡ get_or xs at x
      → Gains old mid (cleaned (made (take at xs))) → GainsFirst mid new (cleaned (made (x ∷ [])))
      → GainsFirst old new (cleaned (made xs))
  Gains-stopped old mid new xs at x within here first second =
      subst (GainsFirst old new) (sym (split_at xs at x within here))
      (GainsFirst-more old new new (cleaned (made (take at xs)) ++ cleaned (made (x ∷ [])))
      (cleaned (made (drop (at + 1) xs)))
      (Gains-first old mid new (cleaned (made (take at xs))) (cleaned (made (x ∷ []))) first
      second))

-- a fact holds after a failure if it holds at all
pub OnErr-from : {T E : Type 0} (r : Result T E) (P : Type 0) → P → OnErr r P
OnErr-from (Ok x) P fact = tt
OnErr-from (Err e) P fact = fact

-- clauses that are made one for each item
pub mapped_apart : {X : Type 0} (f : X → List Lit) (xs ys : List X)
    → map f (xs ++ ys) ≡ map f xs ++ map f ys
mapped_apart f xs ys = map-append f xs ys

-- the literals of a body have variables
pub vars-literals : (parts : List Part) → All (λ part. IsVar part.lit.atom) parts
    → All (λ lit. 1 ≤ variable lit) (literals_of parts)
vars-literals parts all =
    All-map (λ lit. 1 ≤ variable lit) (λ (part : Part). literal_of part.lit) parts
    (λ k d h. omega (arith, (all k d h).first, variable-literal_of (get_or parts k d).lit))

-- the clauses that one item makes
pub flat_map-one : {X : Type 0} (f : X → List (List Lit)) (x : X) (clauses : List (List Lit))
    → f x ≡ clauses → flat_map f (x ∷ []) ≡ clauses
flat_map-one f x clauses same = append-nil (f x) ∙ same

-- an item makes no clause
pub Gains-nothing : (old new clauses : List (List Lit)) → new ≡ old → clauses ≡ []
    → Gains old new (cleaned clauses)
Gains-nothing old new clauses same none =
    same ∙ sym (ap (λ l. old ++ cleaned l) none ∙ append-nil old)

-- a body with its number
pub numbered-item : (bodies : List BodyOf) (number : ℕ) (body : BodyOf) → number < length bodies
    → body ≡ get_or bodies number body
    → (number, body) ≡ get_or (enumerate_from 0 bodies) number (number, body)
numbered-item bodies number body within here =
    let zero_same : 0 + number ≡ number = zero-add number in
    sym (get_or-enumerate_from 0 bodies number (number, body) within
    ∙ (λ i. (zero_same i, sym here i)))

-- what holds after a failure
pub OnErr-weaker : {T E : Type 0} (r : Result T E) (P Q : Type 0) → (P → Q) → OnErr r P → OnErr r Q
OnErr-weaker (Ok x) P Q weaker fact = tt
OnErr-weaker (Err e) P Q weaker fact = weaker fact

-- the base clauses in their four parts
pub base_split : (normal : Normal) → base_clauses normal
    ≡ cleaned (flat_map (body_clauses normal) (numbered_bodies normal))
    ++ cleaned (flat_map (rule_clauses normal) normal.rules)
    ++ cleaned (map (support_clause normal) (atoms_of_normal normal))
    ++ cleaned (compute_clauses normal)
base_split normal =
    let one = flat_map (body_clauses normal) (numbered_bodies normal) in
    let two = flat_map (rule_clauses normal) normal.rules in
    let three = map (support_clause normal) (atoms_of_normal normal) in
    cleaned-append (one ++ two ++ three) (compute_clauses normal)
    ∙ ap (λ l. l ++ cleaned (compute_clauses normal))
    (cleaned-append (one ++ two) three ∙ ap (λ l. l ++ cleaned three) (cleaned-append one two))

-- clauses that come last leave the trails of a store what they are
trails_stay : (old more : List (List Lit)) → KeepsTrails old (old ++ more)
trails_stay old more steps of at step why here forced =
    let is = of at step why here forced in
    record {
      clause = is.clause;
      named = slice_get-append old more why.0 is.clause is.named;
      here =
          is.here;
      others = is.others;
    }

-- so does a call that adds all of some clauses, or the first of them
pub gain_keeps_trails : {T E : Type 0} (r : Result T E) (old new clauses : List (List Lit))
    → OnOk r (Gains old new clauses) → OnErr r (GainsFirst old new clauses) → KeepsTrails old new
gain_keeps_trails (Ok x) old new clauses gained none =
    subst (KeepsTrails old) (sym gained) (trails_stay old clauses)
gain_keeps_trails (Err e) old new clauses none some =
    subst (KeepsTrails old) (sym some.gained) (trails_stay old some.done)
