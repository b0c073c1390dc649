-- Each rule of the pair program is a rule of the format.
use Rattle.std.proofs.Common.{◌≡◌, ◌<◌, ◌≤◌, ◌+◌, ◌-◌, ◌*◌, ℕ, suc, Bool, true, false, not}
use Rattle.std.proofs.Common.{if◌then◌else◌, List, [], ◌∷◌, ◌++◌, length, get_or, map}
use Rattle.std.proofs.Common.{filter, All, AllPairs, sum_by, refl, sym, ap, ◌∙◌, arith}
use Rattle.std.proofs.Common.{⊎_elim, length-append, true≢false, get_or-append-add}
use Rattle.std.proofs.lemmas.Bool.{cases_lt}
use Rattle.std.proofs.lemmas.List.{length-map, get_or_append_left}
use Rattle.std.proofs.lemmas.List.Elements.{All-nil, All-cons, All-append}
use Rattle.std.proofs.lemmas.List.Elements.{All-map, All-filter, filter_passes}
use Rattle.std.proofs.lemmas.List.Sums.{sum_by-cons}
use Rattle.ground_program.specs.declared.program.Weighted.{Weighted}
use Rattle.ground_program.specs.declared.program.Rule.{Rule}
use Rattle.ground_program.specs.Program.{IsNumber, NegativesFirst, IsRule, atoms_of_rule}
use Rattle.normal_program.specs.declared.normal.Part.{Part}
use Rattle.normal_program.specs.declared.normal.BodyOf.{BodyOf}
use Rattle.normal_program.specs.Body.{rank}
use Rattle.pair_program.specs.Rules.{holds, disjunction, count_up, free_rule, pair_lit, has_sign}
use Rattle.pair_program.specs.Rules.{lits_of, body_rule, body_atom, last_atom, part_atom}
use Rattle.pair_program.proofs.GroupLemmas.{All-count_up, length-count_up}
use Rattle.pair_program.proofs.TruthLemmas.{sum-signs}

-- an atom is one of so many
pub record IsOneOf (most atom : ℕ) : Type 0 where
  pub first : 1 ≤ atom
  pub last : atom ≤ most

-- a rule of the format with atoms among so many
pub record IsRuleOf (most : ℕ) (rule : Rule) : Type 0 where
  pub fits : IsRule rule
  pub atoms : All (IsOneOf most) (atoms_of_rule rule)

-- the negative literals stand before the positive ones
negatives_first : (one other : List Weighted) → All (λ part. part.lit.negated ≡ true) one
    → All (λ part. part.lit.negated ≡ false) other → NegativesFirst (one ++ other)
negatives_first one other negative positive i j d less within later = ⊎_elim
    (λ low.
    let front : i < length one = omega (arith, less, low) in
    ap (λ (part : Weighted). part.lit.negated) (get_or_append_left one other d i front)
    ∙ negative i d front)
    (λ high.
    let place : j ≡ length one + (j - length one) = omega (arith, high) in
    let behind : j - length one < length other =
    omega (arith, high, within, length-append one other) in
    absurd (true≢false
    (sym later ∙ ap (λ n. (get_or (one ++ other) n d).lit.negated) place
    ∙ ap (λ (part : Weighted). part.lit.negated)
    (get_or-append-add one other (j - length one) d)
    ∙ positive (j - length one) d behind)))
    (cases_lt j (length one))

-- a disjunction over such atoms
pub disjunction_fits : (most : ℕ) (heads atoms : List ℕ) → IsNumber (length heads)
    → IsNumber (length atoms) → All (IsOneOf most) heads → All (IsOneOf most) atoms
    → IsRuleOf most (disjunction heads atoms)
disjunction_fits most heads atoms few_heads few_atoms in_heads in_atoms = record {
  fits = record {
    heads = tt;
    bound = sym (length-map atoms holds);
    bound_number = few_atoms;
    weights =
        All-map (λ part. part.weight ≡ 1) holds atoms (λ k d within. refl);
    order =
        negatives_first [] (map holds atoms) (All-nil (λ part. part.lit.negated ≡ true))
        (All-map (λ part. part.lit.negated ≡ false) holds atoms (λ k d within. refl));
    few_heads = few_heads;
    few_literals = omega (arith, few_atoms, length-map atoms holds);
  };
  atoms =
      All-append (IsOneOf most) heads (map (λ part. part.lit.atom) (map holds atoms)) in_heads
      (All-map (IsOneOf most) (λ (part : Weighted). part.lit.atom) (map holds atoms)
      (All-map (λ (part : Weighted). IsOneOf most part.lit.atom) holds atoms in_atoms));
}

-- the rule by which any atom may be true
pub free_fits : (atoms bodies : ℕ) → IsNumber (last_atom atoms bodies)
    → IsRuleOf (last_atom atoms bodies) (free_rule atoms bodies)
free_fits atoms bodies few = record {
  fits = record {
    heads = tt;
    bound = refl;
    bound_number = omega arith;
    weights = All-nil (λ part. part.weight ≡ 1);
    order = λ i j d less within later. absurd (omega (arith, within));
    few_heads = omega (arith, few, length-count_up 1 (last_atom atoms bodies));
    few_literals = omega arith;
  };
  atoms =
      All-append (IsOneOf (last_atom atoms bodies)) (count_up 1 (last_atom atoms bodies)) []
      (All-count_up (IsOneOf (last_atom atoms bodies)) 1 (last_atom atoms bodies)
      (λ number less. record { first = omega arith; last = omega (arith, less) }))
      (All-nil (IsOneOf (last_atom atoms bodies)));
}

-- each item counted once
sum_by-ones : (parts : List Part) → sum_by (λ part. 1) parts ≡ length parts
sum_by-ones [] = refl
sum_by-ones (part ∷ parts) =
    omega (arith, sum_by-cons (λ (one : Part). 1) part parts, sum_by-ones parts)

-- the literals of both signs are as many as the parts
length-lits : (atoms : ℕ) (parts : List Part)
    → length (lits_of atoms true parts ++ lits_of atoms false parts) ≡ length parts
length-lits atoms parts =
    omega (
      arith,
      length-append (lits_of atoms true parts) (lits_of atoms false parts),
      length-map (filter (has_sign true) parts) (pair_lit atoms),
      length-map (filter (has_sign false) parts) (pair_lit atoms),
      sum_by-ones (filter (has_sign true) parts),
      sum_by-ones (filter (has_sign false) parts),
      sum_by-ones parts,
      sum-signs (λ part. 1) parts,
    )

not_true : (b : Bool) → not b ≡ true → b ≡ false
not_true true is = cc
not_true false is = refl

-- the atom of a literal
lit_atom : (atoms most atom : ℕ) (negated : Bool) → 2 * atoms ≤ most → IsOneOf atoms atom
    → IsOneOf most (if negated then atom else part_atom atoms atom)
lit_atom atoms most atom true few one = record {
  first = one.first;
  last = omega (arith, one.last, few);
}
lit_atom atoms most atom false few one = record {
  first = omega (arith, one.first);
  last = omega (arith, one.last, few);
}

-- the rule of a body
pub body_fits : (atoms bodies number : ℕ) (body : BodyOf) → number < bodies
    → IsNumber body.bound → IsNumber (length body.parts)
    → All (λ part. IsOneOf atoms part.lit.atom) body.parts
    → All (λ part. IsNumber part.weight) body.parts
    → IsRuleOf (last_atom atoms bodies) (body_rule atoms number body)
body_fits atoms bodies number body within bound few in_atoms weights =
    let most = last_atom atoms bodies in
    let one = filter (has_sign true) body.parts in
    let other = filter (has_sign false) body.parts in
    record {
      fits = record {
        heads = refl;
        bound = tt;
        bound_number = bound;
        weights =
            All-append (λ part. IsNumber part.weight) (lits_of atoms true body.parts)
            (lits_of atoms false body.parts)
            (All-map (λ part. IsNumber part.weight) (pair_lit atoms) one
            (All-filter (has_sign true) (λ part. IsNumber part.weight) body.parts weights))
            (All-map (λ part. IsNumber part.weight) (pair_lit atoms) other
            (All-filter (has_sign false) (λ part. IsNumber part.weight) body.parts weights));
        order =
            negatives_first (lits_of atoms true body.parts) (lits_of atoms false body.parts)
            (All-map (λ part. part.lit.negated ≡ true) (pair_lit atoms) one
            (filter_passes (has_sign true) body.parts))
            (All-map (λ part. part.lit.negated ≡ false) (pair_lit atoms) other
            (λ k d inside. not_true (get_or other k d).lit.negated
            (filter_passes (has_sign false) body.parts k d inside)));
        few_heads = omega arith;
        few_literals = omega (arith, few, length-lits atoms body.parts);
      };
      atoms =
          All-cons (IsOneOf most) (body_atom atoms number)
          (map (λ part. part.lit.atom)
          (lits_of atoms true body.parts ++ lits_of atoms false body.parts))
          (record { first = omega arith; last = omega (arith, within) })
          (All-map (IsOneOf most) (λ (part : Weighted). part.lit.atom)
          (lits_of atoms true body.parts ++ lits_of atoms false body.parts)
          (All-append (λ (part : Weighted). IsOneOf most part.lit.atom)
          (lits_of atoms true body.parts) (lits_of atoms false body.parts)
          (All-map (λ (part : Weighted). IsOneOf most part.lit.atom) (pair_lit atoms) one
          (λ k d inside. lit_atom atoms most (get_or one k d).lit.atom (get_or one k d).lit.negated
          (omega arith)
          (All-filter (has_sign true) (λ part. IsOneOf atoms part.lit.atom) body.parts in_atoms k d
          inside)))
          (All-map (λ (part : Weighted). IsOneOf most part.lit.atom) (pair_lit atoms) other
          (λ k d inside. lit_atom atoms most (get_or other k d).lit.atom
          (get_or other k d).lit.negated (omega arith)
          (All-filter (has_sign false) (λ part. IsOneOf atoms part.lit.atom) body.parts in_atoms k d
          inside)))));
    }

-- parts in order are no more than their ranks
pub few_parts : (low high : ℕ) (parts : List Part) → low ≤ high
    → AllPairs (λ earlier later. rank earlier.lit < rank later.lit) parts
    → All (λ part. low ≤ rank part.lit) parts → All (λ part. rank part.lit < high) parts
    → low + length parts ≤ high
few_parts low high [] less order lows highs = omega (arith, less)
few_parts low high (part ∷ parts) less order lows highs =
    let here : low ≤ rank part.lit = lows 0 part (omega arith) in
    let below : rank part.lit < high = highs 0 part (omega arith) in
    let rest : rank part.lit + 1 + length parts ≤ high =
    few_parts (rank part.lit + 1) high parts (omega (arith, below))
    (λ i j d earlier within.
    order (suc i) (suc j) d (omega (arith, earlier)) (omega (arith, within)))
    (λ k d within.
    let after : rank part.lit < rank (get_or parts k d).lit =
    order 0 (suc k) d (omega arith) (omega (arith, within)) in omega (arith, after))
    (λ k d within. highs (suc k) d (omega (arith, within))) in
    omega (arith, here, rest)
