-- What one more literal makes of the merged parts of those before it.
use Rattle.std.proofs.Common.{◌≡◌, ◌≢◌, ◌≤◌, ◌<◌, ◌+◌, ◌-◌, ◌*◌, ℕ, Bool, true, false, List, []}
use Rattle.std.proofs.Common.{◌∷◌, ◌++◌, length, get_or, set, All, Any, sym, ap, subst}
use Rattle.std.proofs.Common.{◌∙◌, arith, add-zero, if◌then◌else◌, ⊎_elim, length-set}
use Rattle.std.proofs.Common.{get_or-set_same, get_or-set_other, get_or-take, length-take-le, take}
use Rattle.std.proofs.lemmas.Bool.{eq-eqb, ne_eqb, cases_eq}
use Rattle.std.proofs.lemmas.List.{get_or_default}
use Rattle.std.proofs.lemmas.List.Elements.{All-push}
use Rattle.std.proofs.lemmas.List.Quantifiers.{Any-push, all_pairs_push}
use Rattle.std.proofs.lemmas.List.Sums.{sum_by_push, sum_by-le}
use Rattle.std.proofs.lemmas.List.Sorted.{IsPermutation-sym, Contains-permutation, All-permutation}
use Rattle.std.proofs.lemmas.List.Sorted.{sum_by-IsPermutation}
use Rattle.std.specs.List.Sorted.{IsPermutation}
use Rattle.std.specs.List.Sorted.{IsNonDecreasingBy}
use Rattle.ground_program.specs.Program.{IsNumber}
use Rattle.ground_program.specs.declared.program.AtomLit.{AtomLit}
use Rattle.ground_program.specs.declared.program.Weighted.{Weighted}
use Rattle.normal_program.specs.declared.normal.Part.{Part}
use Rattle.normal_program.specs.Body.{rank, is_same, total_weight, IsMerged}
use Rattle.rule_normaliser.specs.Merging.{KeepsMerged}
use Rattle.normal_program.proofs.RankLemmas.{rank-injective}
use Rattle.item_list.proofs.ListLemmas.{Any-append_left, All-found}

module _ (body : List Weighted) (item : Weighted) (lit : AtomLit) where
  -- another literal leaves the weight of a literal as it is
  pub total_weight-other : rank item.lit ≢ rank lit
      → total_weight (body ++ item ∷ []) lit ≡ total_weight body lit
  total_weight-other other =
      let none : (if is_same item.lit lit then item.weight else 0) ≡ 0 =
      ap (λ b. if b then item.weight else 0) (ne_eqb _ _ other) in
      sum_by_push (λ (one : Weighted). if is_same one.lit lit then one.weight else 0) body item
      ∙ ap (λ n. total_weight body lit + n) none ∙ add-zero _

  -- the same literal adds its weight
  pub total_weight-same : rank item.lit ≡ rank lit
      → total_weight (body ++ item ∷ []) lit ≡ total_weight body lit + item.weight
  total_weight-same same =
      let all : (if is_same item.lit lit then item.weight else 0) ≡ item.weight =
      ap (λ b. if b then item.weight else 0) (eq-eqb _ _ same) in
      sum_by_push (λ (one : Weighted). if is_same one.lit lit then one.weight else 0) body item
      ∙ ap (λ n. total_weight body lit + n) all

-- a literal that doesn't occur has no weight
pub total_weight-absent : (body : List Weighted) (lit : AtomLit)
    → All (λ one. rank one.lit ≢ rank lit) body → total_weight body lit ≡ 0
total_weight-absent body lit absent =
    let each : All (λ one. (if is_same one.lit lit then one.weight else 0) ≤ 0) body =
    λ k d h. let none : (if is_same (get_or body k d).lit lit then (get_or body k d).weight else 0)
    ≡ 0 = ap (λ b. if b then (get_or body k d).weight else 0) (ne_eqb _ _ (absent k d h)) in
    omega (arith, none) in
    omega (
      arith,
      sum_by-le (λ (one : Weighted). if is_same one.lit lit then one.weight else 0) 0 body
          each,
    )

module _ (body : List Weighted) (item : Weighted)
    (last_or_less : All (λ earlier. rank earlier.lit ≤ rank item.lit) body) (parts : List Part)
    (merged : IsMerged body parts) where
  -- each part comes no later than the item
  pub parts_at_most : All (λ part. rank part.lit ≤ rank item.lit) parts
  parts_at_most k d h =
      let some = merged.occurs k d h in
      let low : rank some.1.lit ≤ rank item.lit =
      All-found (λ (one : Weighted). rank one.lit ≤ rank item.lit) _ body last_or_less some in
      omega (arith, low, ap rank some.4)

  module _ (part : Part) (of_item : part.lit ≡ item.lit) where
    -- a literal after all parts becomes a part of its own
    pub IsMerged-push : part.weight ≡ item.weight → All (λ one. rank one.lit < rank item.lit) parts
        → IsMerged (body ++ item ∷ []) (parts ++ part ∷ [])
    IsMerged-push weight below = record {
      order =
          all_pairs_push (λ one two. rank one.lit < rank two.lit) parts part merged.order
          (λ k d h. subst (λ lit. rank (get_or parts k d).lit < rank lit) (sym of_item)
          (below k d h));
      weights = All-push (λ one. one.weight ≡ total_weight (body ++ item ∷ []) one.lit) parts part
          (λ k d h. let less : rank (get_or parts k d).lit < rank item.lit = below k d h in
          let other : rank item.lit ≢ rank (get_or parts k d).lit = omega arith in
          merged.weights k d h ∙ sym (total_weight-other body item (get_or parts k d).lit other))
          (let whole : total_weight (body ++ item ∷ []) part.lit
          ≡ total_weight body part.lit + item.weight =
          total_weight-same body item part.lit (ap rank (sym of_item)) in
          let before : total_weight body part.lit ≡ 0 = ap (total_weight body) of_item ∙ absent in
          omega (arith, weight, whole, before));
      occurs = All-push (λ one. Any (λ other. other.lit ≡ one.lit) (body ++ item ∷ [])) parts part
          (λ k d h. Any-append_left (λ other. other.lit ≡ (get_or parts k d).lit) body (item ∷ [])
          (merged.occurs k d h))
          (Any-push (λ other. other.lit ≡ part.lit) body item (sym of_item));
      complete = All-push (λ other. Any (λ one. one.lit ≡ other.lit) (parts ++ part ∷ [])) body item
          (λ k d h. Any-append_left (λ one. one.lit ≡ (get_or body k d).lit) parts (part ∷ [])
          (merged.complete k d h))
          (Any-push (λ one. one.lit ≡ item.lit) parts part of_item);
    }
      where
        absent : total_weight body item.lit ≡ 0
        absent = total_weight-absent body item.lit
            (λ k d h.
            let some = merged.complete k d h in
            let less : rank some.1.lit < rank item.lit =
            All-found (λ (one : Part). rank one.lit < rank item.lit) _ parts below some in
            let same : rank some.1.lit ≡ rank (get_or body k d).lit = ap rank some.4 in
            omega arith)

    module _ (at : ℕ) (last : at + 1 ≡ length parts)
        (here : (d : Part) → (get_or parts at d).lit ≡ item.lit) where
      -- the literals stay where the last part is written
      lit_stays : (k : ℕ) (d : Part) → (get_or (set parts at part) k d).lit ≡ (get_or parts k d).lit
      lit_stays k d = ⊎_elim
          (λ e. let within : at < length parts = omega arith in
          subst (λ j. (get_or (set parts at part) j d).lit ≡ (get_or parts j d).lit) (sym e)
          (ap (λ (one : Part). one.lit) (get_or-set_same parts at part d within) ∙ of_item
          ∙ sym (here d)))
          (λ ne. ap (λ (one : Part). one.lit) (get_or-set_other parts at k part d ne))
          (cases_eq k at)

      -- the last literal again adds its weight to the last part
      pub IsMerged-add : ((d : Part) → part.weight ≡ (get_or parts at d).weight + item.weight)
          → IsMerged (body ++ item ∷ []) (set parts at part)
      IsMerged-add weight = record {
        order = λ i j d lt h. let h' : j < length parts =
            omega (arith, h, length-set parts at part) in
            subst (λ lit. rank lit < rank (get_or (set parts at part) j d).lit)
            (sym (lit_stays i d))
            (subst (λ lit. rank (get_or parts i d).lit < rank lit) (sym (lit_stays j d))
            (merged.order i j d lt h'));
        weights = λ k d h. ⊎_elim
            (λ e. subst
            (λ j. (get_or (set parts at part) j d).weight
            ≡ total_weight (body ++ item ∷ []) (get_or (set parts at part) j d).lit) (sym e)
            (at_last d))
            (λ ne. at_other k d (omega (arith, h, length-set parts at part)) ne)
            (cases_eq k at);
        occurs = λ k d h. let h' : k < length parts = omega (arith, h, length-set parts at part) in
            subst (λ lit. Any (λ other. other.lit ≡ lit) (body ++ item ∷ [])) (sym (lit_stays k d))
            (Any-append_left (λ other. other.lit ≡ (get_or parts k d).lit) body (item ∷ [])
            (merged.occurs k d h'));
        complete =
            All-push (λ other. Any (λ one. one.lit ≡ other.lit) (set parts at part)) body item
            (λ k d h. let some = merged.complete k d h in
            found some.0 some.1 some.2 (get_or body k d).lit
            (ap (λ (one : Part). one.lit) some.3 ∙ some.4))
            (let within : at < length parts = omega arith in
            found at part within item.lit (here part));
      }
        where
          at_last : (d : Part) → (get_or (set parts at part) at d).weight
              ≡ total_weight (body ++ item ∷ []) (get_or (set parts at part) at d).lit
          at_last d =
              let within : at < length parts = omega arith in
              let same : get_or (set parts at part) at d ≡ part =
              get_or-set_same parts at part d within in
              let before : (get_or parts at d).weight ≡ total_weight body part.lit =
              merged.weights at d within ∙ ap (total_weight body) (here d ∙ sym of_item) in
              ap (λ (one : Part). one.weight) same ∙ weight d ∙ ap (λ n. n + item.weight) before
              ∙ sym (total_weight-same body item part.lit (ap rank (sym of_item)))
              ∙ sym (ap (λ (one : Part). total_weight (body ++ item ∷ []) one.lit) same)

          at_other : (k : ℕ) (d : Part) → k < length parts → k ≢ at
              → (get_or (set parts at part) k d).weight
              ≡ total_weight (body ++ item ∷ []) (get_or (set parts at part) k d).lit
          at_other k d h ne =
              let same : get_or (set parts at part) k d ≡ get_or parts k d =
              get_or-set_other parts at k part d ne in
              let less : rank (get_or parts k d).lit < rank (get_or parts at d).lit =
              merged.order k at d (omega arith) (omega arith) in
              let other : rank item.lit ≢ rank (get_or parts k d).lit =
              omega (arith, ap rank (here d), less) in
              ap (λ (one : Part). one.weight) same ∙ merged.weights k d h
              ∙ sym (total_weight-other body item (get_or parts k d).lit other)
              ∙ sym (ap (λ (one : Part). total_weight (body ++ item ∷ []) one.lit) same)

          found : (k : ℕ) (d : Part) → k < length parts → (lit : AtomLit)
              → (get_or parts k d).lit ≡ lit → Any (λ one. one.lit ≡ lit) (set parts at part)
          found k d h lit e =
              let d' = get_or (set parts at part) k d in
              let within : k < length (set parts at part) =
              omega (arith, h, length-set parts at part) in
              (k, d', within, get_or_default (set parts at part) k d' d within, lit_stays k d ∙ e)

-- the last part is of another literal, or there is none
abbrev pub IsNewLit : List Part → AtomLit → Type 0
IsNewLit old lit = (d : Part) → 0 < length old → (get_or old (length old - 1) d).lit ≢ lit

-- a new literal becomes a part of its own
pub KeepsMerged-push : (old : List Part) (item : Weighted) (new : Part) → new.lit ≡ item.lit
    → new.weight ≡ item.weight → IsNewLit old item.lit → KeepsMerged old item (old ++ new ∷ [])
KeepsMerged-push old item new lit weight other body at_most merged =
    IsMerged-push body item at_most old merged new lit weight below
  where
    below : All (λ part. rank part.lit < rank item.lit) old
    below k d h =
        let end : length old - 1 < length old = omega arith in
        let low : rank (get_or old (length old - 1) d).lit ≤ rank item.lit =
        parts_at_most body item at_most old merged (length old - 1) d end in
        let differ : rank (get_or old (length old - 1) d).lit ≢ rank item.lit =
        λ e. other d (omega arith) (rank-injective _ _ e) in
        ⊎_elim
        (λ e. subst (λ j. rank (get_or old j d).lit < rank item.lit) (sym e) (omega arith))
        (λ ne. let less : rank (get_or old k d).lit < rank (get_or old (length old - 1) d).lit =
        merged.order k (length old - 1) d (omega arith) end in omega arith)
        (cases_eq k (length old - 1))

-- the last literal again adds its weight to the last part
pub KeepsMerged-add : (old : List Part) (item : Weighted) (at : ℕ) (new : Part)
    → at + 1 ≡ length old → ((d : Part) → (get_or old at d).lit ≡ item.lit)
    → new.lit ≡ item.lit → ((d : Part) → new.weight ≡ (get_or old at d).weight + item.weight)
    → KeepsMerged old item (set old at new)
KeepsMerged-add old item at new last here lit weight body at_most merged =
    IsMerged-add body item at_most old merged new lit at last here weight

-- merged weights are small where the weights of the body are numbers of the format
pub merged_weights_small : (body : List Weighted) (parts : List Part) → IsMerged body parts
    → All (λ one. IsNumber one.weight) body
    → All (λ part. part.weight ≤ length body * 2147483648) parts
merged_weights_small body parts merged small k d h =
    let lit = (get_or parts k d).lit in
    let each : All (λ one. (if is_same one.lit lit then one.weight else 0) ≤ 2147483648) body =
    λ i e lt. let less : (get_or body i e).weight < 2147483648 = small i e lt in
    at_most (is_same (get_or body i e).lit lit) (get_or body i e).weight (omega arith) in
    omega (
      arith,
      merged.weights k d h,
      sum_by-le (λ (one : Weighted). if is_same one.lit lit then one.weight else 0) 2147483648
          body each,
    )
  where
    at_most : (b : Bool) (n : ℕ) → n ≤ 2147483648 → (if b then n else 0) ≤ 2147483648
    at_most true n small = small
    at_most false n small = omega arith

module _ (items : List Weighted) (at : ℕ) (within : at < length items) (d : Weighted) where
  -- in a list in order, what stands before comes no later
  pub at_most_before : IsNonDecreasingBy (λ item. rank item.lit) items
      → All (λ earlier. rank earlier.lit ≤ rank (get_or items at d).lit) (take at items)
  at_most_before order k e h =
      let before : k < at = omega (arith, h, length-take-le at items (omega arith)) in
      let seen : get_or (take at items) k e ≡ get_or items k e = get_or-take at items k e before in
      let here : get_or items at e ≡ get_or items at d = get_or_default items at e d within in
      let low : rank (get_or items k e).lit ≤ rank (get_or items at e).lit =
      order k at e (omega arith) within in
      omega (
        arith,
        low,
        ap (λ (one : Weighted). rank one.lit) seen,
        ap (λ (one : Weighted). rank one.lit) here,
      )

-- the order of a body's literals doesn't matter to its merged parts
pub IsMerged-permutation : (body items : List Weighted) (parts : List Part)
    → IsPermutation body items → IsMerged items parts → IsMerged body parts
IsMerged-permutation body items parts moved merged = record {
  order = merged.order;
  weights =
      λ k d h. merged.weights k d h
      ∙ sum_by-IsPermutation
      (λ (one : Weighted). if is_same one.lit (get_or parts k d).lit then one.weight else 0)
      body items moved;
  occurs = λ k d h.
      let some = merged.occurs k d h in
      let here =
      Contains-permutation items body some.1 (IsPermutation-sym body items moved)
      (some.0, some.2, some.3) in
      (here.0, some.1, here.1, here.2, some.4);
  complete =
      All-permutation (λ one. Any (λ part. part.lit ≡ one.lit) parts) items body
      (IsPermutation-sym body items moved) merged.complete;
}
