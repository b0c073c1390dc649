-- A program has one normal form.
use Rattle.std.proofs.Common.{◌≡◌, ◌≤◌, ◌<◌, ℕ, zero, suc, List, [], ◌∷◌, Some, slice_get, length}
use Rattle.std.proofs.Common.{get_or, get_or-take, length-take-le, All, Any, AllPairs, refl, sym}
use Rattle.std.proofs.Common.{ap, subst, ◌∙◌, arith, ⊎_elim}
use Rattle.std.proofs.lemmas.Bool.{cases_lt, cases_order}
use Rattle.std.proofs.lemmas.List.{same_lists, get_or_default}
use Rattle.std.proofs.lemmas.Option.{slice_get-get_or, slice_get_within, get_or_from_slice_get}
use Rattle.ground_program.specs.declared.program.AtomLit.{AtomLit}
use Rattle.ground_program.specs.declared.program.Weighted.{Weighted}
use Rattle.ground_program.specs.declared.program.Rule.{Rule}
use Rattle.ground_program.specs.declared.program.Program.{Program}
use Rattle.normal_program.specs.declared.normal.Part.{Part}
use Rattle.normal_program.specs.declared.normal.BodyOf.{BodyOf}
use Rattle.normal_program.specs.declared.normal.NormalRule.{NormalRule}
use Rattle.normal_program.specs.declared.normal.Normal.{Normal}
use Rattle.normal_program.specs.Body.{rank, total_weight, IsMerged}
use Rattle.normal_program.specs.Normal.{IsBodyOf, StandsFor, AreNumbered, IsNormalFormOf}
use Rattle.item_list.proofs.ListLemmas.{Any-weaker, AllZip-at, AllZip-length, IsSomeAnd-found}
use Rattle.normal_program.proofs.RankLemmas.{rank-injective}

-- parts in order
abbrev pub Rising : List Part → Type 0
Rising parts = AllPairs (λ earlier later. rank earlier.lit < rank later.lit) parts

-- the first part comes no later than any
least_first : (part : Part) (rest : List Part) (lit : AtomLit) → Rising (part ∷ rest)
    → Any (λ one. one.lit ≡ lit) (part ∷ rest) → rank part.lit ≤ rank lit
least_first part rest lit rising some = by some.0 some.2 some.3
  where
    by : (k : ℕ) → k < length (part ∷ rest) → get_or (part ∷ rest) k some.1 ≡ some.1
        → rank part.lit ≤ rank lit
    by zero within here = let same : rank part.lit ≡ rank lit =
        ap (λ (one : Part). rank one.lit) here ∙ ap rank some.4 in omega arith
    by (suc k) within here =
        let less : rank part.lit < rank (get_or (part ∷ rest) (suc k) some.1).lit =
        rising 0 (suc k) some.1 (omega arith) within in
        let same : rank (get_or (part ∷ rest) (suc k) some.1).lit ≡ rank lit =
        ap (λ (one : Part). rank one.lit) here ∙ ap rank some.4 in
        omega arith

-- another literal than the first stands among the rest
among_rest : (part : Part) (rest : List Part) (lit : AtomLit) → rank part.lit < rank lit
    → Any (λ one. one.lit ≡ lit) (part ∷ rest) → Any (λ one. one.lit ≡ lit) rest
among_rest part rest lit less some = by some.0 some.2 some.3
  where
    by : (k : ℕ) → k < length (part ∷ rest) → get_or (part ∷ rest) k some.1 ≡ some.1
        → Any (λ one. one.lit ≡ lit) rest
    by zero within here = let same : rank part.lit ≡ rank lit =
        ap (λ (one : Part). rank one.lit) here ∙ ap rank some.4 in absurd (omega arith)
    by (suc k) within here = (k, some.1, omega (arith, within), here, some.4)

-- lists in order with the same literals and weights are the same
pub same_parts : (weight : AtomLit → ℕ) (ps qs : List Part) → Rising ps → Rising qs
    → All (λ part. part.weight ≡ weight part.lit) ps
    → All (λ part. part.weight ≡ weight part.lit) qs
    → All (λ part. Any (λ one. one.lit ≡ part.lit) qs) ps
    → All (λ part. Any (λ one. one.lit ≡ part.lit) ps) qs → ps ≡ qs
same_parts weight [] [] up1 up2 w1 w2 in1 in2 = refl
same_parts weight [] (q ∷ qs) up1 up2 w1 w2 in1 in2 = let some = in2 0 q (omega arith) in
    absurd (omega (arith, some.2))
same_parts weight (p ∷ ps) [] up1 up2 w1 w2 in1 in2 = let some = in1 0 p (omega arith) in
    absurd (omega (arith, some.2))
same_parts weight (p ∷ ps) (q ∷ qs) up1 up2 w1 w2 in1 in2 =
    let low : rank q.lit ≤ rank p.lit = least_first q qs p.lit up2 (in1 0 p (omega arith)) in
    let high : rank p.lit ≤ rank q.lit = least_first p ps q.lit up1 (in2 0 q (omega arith)) in
    let rank_same : rank p.lit ≡ rank q.lit = omega arith in
    let lit : p.lit ≡ q.lit = rank-injective p.lit q.lit rank_same in
    let weight_same : p.weight ≡ q.weight =
    w1 0 p (omega arith) ∙ ap weight lit ∙ sym (w2 0 q (omega arith)) in
    let first : p ≡ q = λ i. record { lit = lit i; weight = weight_same i } in
    let rest : ps ≡ qs = same_parts weight ps qs
    (λ i j d less within. up1 (suc i) (suc j) d (omega arith) (omega arith))
    (λ i j d less within. up2 (suc i) (suc j) d (omega arith) (omega arith))
    (λ k d within. w1 (suc k) d (omega arith))
    (λ k d within. w2 (suc k) d (omega arith))
    (λ k d within. let less : rank p.lit < rank (get_or ps k d).lit =
    up1 0 (suc k) d (omega arith) (omega arith) in
    among_rest q qs (get_or ps k d).lit (omega arith) (in1 (suc k) d (omega arith)))
    (λ k d within. let less : rank q.lit < rank (get_or qs k d).lit =
    up2 0 (suc k) d (omega arith) (omega arith) in
    among_rest p ps (get_or qs k d).lit (omega arith) (in2 (suc k) d (omega arith))) in
    λ i. first i ∷ rest i

-- the literals of one merged form stand in the other
merged_within : (body : List Weighted) (ps qs : List Part) → IsMerged body ps → IsMerged body qs
    → All (λ part. Any (λ one. one.lit ≡ part.lit) qs) ps
merged_within body ps qs one two k d within =
    let some = one.occurs k d within in
    Any-weaker (λ part. part.lit ≡ (get_or body some.0 some.1).lit)
    (λ part. part.lit ≡ (get_or ps k d).lit)
    (λ part same. same ∙ ap (λ (item : Weighted). item.lit) some.3 ∙ some.4) qs
    (two.complete some.0 some.1 some.2)

-- a body has one merged form
pub merged_unique : (body : List Weighted) (ps qs : List Part) → IsMerged body ps → IsMerged body qs
    → ps ≡ qs
merged_unique body ps qs one two =
    same_parts (total_weight body) ps qs one.order two.order one.weights two.weights
    (merged_within body ps qs one two) (merged_within body qs ps two one)

-- a rule has one body
pub body_unique : (rule : Rule) (one two : BodyOf) → IsBodyOf rule one → IsBodyOf rule two
    → one ≡ two
body_unique rule one two first second =
    let parts : one.parts ≡ two.parts =
    merged_unique rule.body one.parts two.parts first.parts second.parts in
    let bound : one.bound ≡ two.bound = first.bound ∙ sym second.bound in
    λ i. record { bound = bound i; parts = parts i }

module _ (bs : List BodyOf) (ns : List NormalRule) (rules : List Rule)
    (numbered : AreNumbered bs ns rules) where
  -- the body of a rule by its number
  pub body_at : (k : ℕ) (d : NormalRule) (e : Rule) → k < length ns
      → (body : BodyOf) × (slice_get bs (get_or ns k d).body ≡ Some body)
      × IsBodyOf (get_or rules k e) body
  body_at k d e within =
      IsSomeAnd-found (IsBodyOf (get_or rules k e)) (slice_get bs (get_or ns k d).body)
      (AllZip-at (StandsFor bs) ns rules k d e numbered.each within).body

  length_is : length ns ≡ length rules
  length_is = AllZip-length (StandsFor bs) ns rules numbered.each

-- two numberings agree at a place where they agreed before: neither number is less
not_less : (bs bs' : List BodyOf) (ns ns' : List NormalRule) (rules : List Rule)
    → AreNumbered bs ns rules → AreNumbered bs' ns' rules → (k : ℕ) (d : NormalRule) (e : Rule)
    → k < length rules
    → ((j : ℕ) → j < k → (get_or ns j d).body ≡ (get_or ns' j d).body)
    → (get_or ns k d).body < (get_or ns' k d).body → ⊥
not_less bs bs' ns ns' rules one two k d e within before less =
    let a = (get_or ns k d).body in
    let a' = (get_or ns' k d).body in
    let in1 : k < length ns = omega (arith, within, length_is bs ns rules one) in
    let in2 : k < length ns' = omega (arith, within, length_is bs' ns' rules two) in
    let here = body_at bs ns rules one k d e in1 in
    let here' = body_at bs' ns' rules two k d e in2 in
    let some = two.order k (get_or ns' k d) (slice_get-get_or ns' k d in2) a less in
    let early : some.0 < k = omega (arith, some.2, length-take-le k ns' (omega arith)) in
    let seen : (get_or ns' some.0 d).body ≡ a =
    ap (λ (rule : NormalRule). rule.body)
    (get_or_default ns' some.0 d some.1 (omega arith)
    ∙ sym (get_or-take k ns' some.0 some.1 early) ∙ some.3) ∙ some.4 in
    let there = body_at bs ns rules one some.0 d e (omega arith) in
    let there' = body_at bs' ns' rules two some.0 d e (omega arith) in
    let first : slice_get bs a ≡ Some there.0 =
    ap (slice_get bs) (sym (before some.0 early ∙ seen)) ∙ there.1 in
    let second : slice_get bs' a ≡ Some there'.0 = ap (slice_get bs') (sym seen) ∙ there'.1 in
    let at_a : here.0 ≡ there.0 = let e1 : Some here.0 ≡ Some there.0 = sym here.1 ∙ first in cc in
    let crossed : there.0 ≡ there'.0 =
    body_unique (get_or rules some.0 e) there.0 there'.0 there.2 there'.2 in
    let at_k : here.0 ≡ here'.0 = body_unique (get_or rules k e) here.0 here'.0 here.2 here'.2 in
    let high : a' < length bs' = slice_get_within bs' a' here'.0 here'.1 in
    two.differ a a' here'.0 less high
    (get_or_from_slice_get bs' a there'.0 here'.0 second ∙ sym crossed ∙ sym at_a ∙ at_k
    ∙ sym (get_or_from_slice_get bs' a' here'.0 here'.0 here'.1))

module _ (bs bs' : List BodyOf) (ns ns' : List NormalRule) (rules : List Rule)
    (one : AreNumbered bs ns rules) (two : AreNumbered bs' ns' rules) where
  -- two numberings agree at all places before any
  numbers_below : (d : NormalRule) (e : Rule) (i k : ℕ) → k < i → k < length rules
      → (get_or ns k d).body ≡ (get_or ns' k d).body
  numbers_below d e zero k less within = absurd (omega (arith, less))
  numbers_below d e (suc i) k less within =
      ⊎_elim (λ low. numbers_below d e i k low within)
      (λ high.
      let before : (j : ℕ) → j < k → (get_or ns j d).body ≡ (get_or ns' j d).body =
      λ j lower. numbers_below d e i j (omega arith) (omega arith) in
      ⊎_elim (λ same. same)
      (λ either. absurd (⊎_elim (not_less bs bs' ns ns' rules one two k d e within before)
      (not_less bs' bs ns' ns rules two one k d e within (λ j lower. sym (before j lower))) either))
      (cases_order (get_or ns k d).body (get_or ns' k d).body))
      (cases_lt k i)

  -- so the normal rules are the same
  pub rules_unique : ns ≡ ns'
  rules_unique = same_lists ns ns' (length_is bs ns rules one ∙ sym (length_is bs' ns' rules two))
      (λ k d within.
      let e : Rule = record { kind = d.kind; heads = d.heads; bound = 0; body = [] } in
      let in_rules : k < length rules = omega (arith, within, length_is bs ns rules one) in
      let in2 : k < length ns' = omega (arith, in_rules, length_is bs' ns' rules two) in
      let first = AllZip-at (StandsFor bs) ns rules k d e one.each within in
      let second = AllZip-at (StandsFor bs') ns' rules k d e two.each in2 in
      let kind : (get_or ns k d).kind ≡ (get_or ns' k d).kind = first.kind ∙ sym second.kind in
      let heads : (get_or ns k d).heads ≡ (get_or ns' k d).heads = first.heads ∙ sym second.heads in
      let body : (get_or ns k d).body ≡ (get_or ns' k d).body =
      numbers_below d e (suc k) k (omega arith) in_rules in
      λ i. record { kind = kind i; heads = heads i; body = body i })

-- a body of one numbering is the body of its number in another
body_in_other : (bs bs' : List BodyOf) (ns : List NormalRule) (rules : List Rule)
    → AreNumbered bs ns rules → AreNumbered bs' ns rules → (at : ℕ) → at < length bs → (x : BodyOf)
    → slice_get bs at ≡ Some x → slice_get bs' at ≡ Some x
body_in_other bs bs' ns rules one two at within x here =
    let some = one.used at within in
    let e : Rule = record { kind = some.1.kind; heads = some.1.heads; bound = 0; body = [] } in
    let first = body_at bs ns rules one some.0 some.1 e some.2 in
    let second = body_at bs' ns rules two some.0 some.1 e some.2 in
    let number : (get_or ns some.0 some.1).body ≡ at =
    ap (λ (rule : NormalRule). rule.body) some.3 ∙ some.4 in
    let mine : Some x ≡ Some first.0 = sym here ∙ ap (slice_get bs) (sym number) ∙ first.1 in
    let same : x ≡ first.0 = cc in
    ap (slice_get bs') (sym number) ∙ second.1
    ∙ ap Some
    (sym (same ∙ body_unique (get_or rules some.0 e) first.0 second.0 first.2 second.2))

-- and the bodies
pub bodies_unique : (bs bs' : List BodyOf) (ns : List NormalRule) (rules : List Rule)
    → AreNumbered bs ns rules → AreNumbered bs' ns rules → bs ≡ bs'
bodies_unique bs bs' ns rules one two =
    same_lists bs bs'
    (⊎_elim (λ same. same)
    (λ either. absurd (⊎_elim (shorter bs bs' one two) (shorter bs' bs two one) either))
    (cases_order (length bs) (length bs')))
    (λ k d within. sym
    (get_or_from_slice_get bs' k (get_or bs k d) d
    (body_in_other bs bs' ns rules one two k within (get_or bs k d)
    (slice_get-get_or bs k d within))))
  where
    shorter : (cs cs' : List BodyOf) → AreNumbered cs ns rules → AreNumbered cs' ns rules
        → length cs < length cs' → ⊥
    shorter cs cs' first second less =
        let some = second.used (length cs) less in
        let e : Rule = record { kind = some.1.kind; heads = some.1.heads; bound = 0; body = [] } in
        let found = body_at cs ns rules first some.0 some.1 e some.2 in
        let number : (get_or ns some.0 some.1).body ≡ length cs =
        ap (λ (rule : NormalRule). rule.body) some.3 ∙ some.4 in
        omega (arith, number, slice_get_within cs (get_or ns some.0 some.1).body found.0 found.1)

-- a program has one normal form
pub normal_form_unique : (program : Program) (one two : Normal) → IsNormalFormOf one program
    → IsNormalFormOf two program → one ≡ two
normal_form_unique program one two first second =
    let rules : one.rules ≡ two.rules =
    rules_unique one.bodies two.bodies one.rules two.rules program.rules first.rules
    second.rules in
    let moved : AreNumbered two.bodies one.rules program.rules =
    subst (λ ns. AreNumbered two.bodies ns program.rules) (sym rules) second.rules in
    let bodies : one.bodies ≡ two.bodies =
    bodies_unique one.bodies two.bodies one.rules program.rules first.rules moved in
    let atoms : one.atoms ≡ two.atoms = first.atoms ∙ sym second.atoms in
    let names : one.names ≡ two.names = first.names ∙ sym second.names in
    let must : one.must ≡ two.must = first.must ∙ sym second.must in
    let must_not : one.must_not ≡ two.must_not = first.must_not ∙ sym second.must_not in
    λ i.
    record {
      atoms = atoms i;
      bodies = bodies i;
      rules = rules i;
      names = names i;
      must =
          must i;
      must_not = must_not i;
    }
