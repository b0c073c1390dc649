-- A normal form means what its program means: bodies hold for the same pairs of sets, and the
-- answer sets are the same.
use Rattle.std.proofs.Common.{◌≡◌, ◌≢◌, ◌<◌, ◌↔◌, ℕ, Bool, true, false, List, Option, Some, None}
use Rattle.std.proofs.Common.{length, get_or, All, Any, sum_by, refl, sym, ap, subst, ◌∙◌, arith}
use Rattle.std.proofs.Common.{if◌then◌else◌, IsSomeAnd, slice_get, ⊎_elim}
use Rattle.std.specs.List.{AllZip}
use Rattle.std.proofs.lemmas.Bool.{eq-eqb, ne_eqb, cases_eq, cases_lt}
use Rattle.std.proofs.lemmas.List.{get_or_default}
use Rattle.ground_program.specs.declared.program.AtomLit.{AtomLit}
use Rattle.ground_program.specs.declared.program.Weighted.{Weighted}
use Rattle.ground_program.specs.declared.program.Rule.{Rule}
use Rattle.ground_program.specs.declared.program.Program.{Program}
use Rattle.ground_program.specs.Meaning.{counts, BodyHolds, HeadHolds, Keeps, IsSetOver, IsIn}
use Rattle.ground_program.specs.Meaning.{IsAnswerSet}
use Rattle.normal_program.specs.declared.normal.Part.{Part}
use Rattle.normal_program.specs.declared.normal.BodyOf.{BodyOf}
use Rattle.normal_program.specs.declared.normal.NormalRule.{NormalRule}
use Rattle.normal_program.specs.declared.normal.Normal.{Normal}
use Rattle.normal_program.specs.Body.{rank, is_same, total_weight, IsMerged, BodyHoldsN}
use Rattle.normal_program.specs.Normal.{IsBodyOf, StandsFor, IsNormalFormOf, RuleBodyHolds, KeepsN}
use Rattle.normal_program.specs.Normal.{IsAnswerSetN, SameBodies, SameAnswerSets}
use Rattle.item_list.proofs.ListLemmas.{AllZip-weaker, AllZip-All, AllZip-Any, AllZip-flip}
use Rattle.normal_program.proofs.RankLemmas.{rank-injective}
use Rattle.item_list.proofs.ListLemmas.{sum_by-agree, sum_by-one, sum_by-none, sum_by_swap}

-- a choice between a sum and 0
sum_by-choice : {X : Type 0} (b : Bool) (f : X → ℕ) (xs : List X)
    → sum_by (λ x. if b then f x else 0) xs ≡ (if b then sum_by f xs else 0)
sum_by-choice true f xs = refl
sum_by-choice false f xs = sum_by-none (λ x. 0) xs (λ k d h. refl)

module _ (body : List Weighted) (parts : List Part) (merged : IsMerged body parts)
    (chosen : AtomLit → Bool) where
  choice_none : (b : Bool) → ◌≡◌ {A = ℕ} (if b then 0 else 0) 0
  choice_none true = refl
  choice_none false = refl

  -- an item gives a part the same as if the part were chosen in its place
  cell_by_part : (part : Part) (item : Weighted)
      → (if chosen item.lit then (if is_same item.lit part.lit then item.weight else 0) else 0)
      ≡ (if chosen part.lit then (if is_same item.lit part.lit then item.weight else 0) else 0)
  cell_by_part part item = ⊎_elim
      (λ same. ap
      (λ lit. if chosen lit then (if is_same item.lit part.lit then item.weight else 0) else 0)
      (rank-injective item.lit part.lit same))
      (λ other.
      let none : (if is_same item.lit part.lit then item.weight else 0) ≡ 0 =
      ap (λ b. if b then item.weight else 0) (ne_eqb _ _ other) in
      ap (λ n. if chosen item.lit then n else 0) none ∙ choice_none (chosen item.lit)
      ∙ sym (ap (λ n. if chosen part.lit then n else 0) none ∙ choice_none (chosen part.lit)))
      (cases_eq (rank item.lit) (rank part.lit))

  -- the weight of a part is what the items give it
  row : (part : Part) → part.weight ≡ total_weight body part.lit
      → (if chosen part.lit then part.weight else 0)
      ≡ sum_by
      (λ item. if chosen item.lit
      then (if is_same item.lit part.lit then item.weight else 0) else 0) body
  row part weight =
      ap (λ n. if chosen part.lit then n else 0) weight
      ∙ sym
      (sum_by-choice (chosen part.lit)
      (λ (item : Weighted). if is_same item.lit part.lit then item.weight else 0) body)
      ∙ sym
      (sum_by-agree
      (λ (item : Weighted). if chosen item.lit
      then (if is_same item.lit part.lit then item.weight else 0) else 0)
      (λ (item : Weighted). if chosen part.lit
      then (if is_same item.lit part.lit then item.weight else 0) else 0) body
      (λ k d h. cell_by_part part (get_or body k d)))

  -- an item gives its weight to one part
  column : (item : Weighted) → Any (λ part. part.lit ≡ item.lit) parts
      → sum_by
      (λ part. if chosen item.lit then (if is_same item.lit part.lit then item.weight else 0)
      else 0) parts ≡ (if chosen item.lit then item.weight else 0)
  column item some =
      sum_by-one
      (λ (part : Part). if chosen item.lit
      then (if is_same item.lit part.lit then item.weight else 0) else 0) parts some.0
      some.1 some.2
      (λ k e h other.
      let differ : rank item.lit ≢ rank (get_or parts k e).lit =
      λ same. apart k e h other
      (sym same ∙ sym (ap rank some.4)
      ∙ ap (λ (part : Part). rank part.lit)
      (sym some.3 ∙ get_or_default parts some.0 some.1 e some.2)) in
      let none : (if is_same item.lit (get_or parts k e).lit then item.weight else 0) ≡ 0 =
      ap (λ b. if b then item.weight else 0) (ne_eqb _ _ differ) in
      ap (λ n. if chosen item.lit then n else 0) none ∙ choice_none (chosen item.lit))
      ∙ ap
      (λ (part : Part). if chosen item.lit
      then (if is_same item.lit part.lit then item.weight else 0) else 0) some.3
      ∙ ap (λ b. if chosen item.lit then (if b then item.weight else 0) else 0)
      (eq-eqb _ _ (sym (ap rank some.4)))
    where
      apart : (k : ℕ) (e : Part) → k < length parts → k ≢ some.0
          → rank (get_or parts k e).lit ≡ rank (get_or parts some.0 e).lit → ⊥
      apart k e h other same = ⊎_elim
          (λ low. let less : rank (get_or parts k e).lit < rank (get_or parts some.0 e).lit =
          merged.order k some.0 e low some.2 in omega arith)
          (λ high. let more : some.0 < k = omega arith in
          let less : rank (get_or parts some.0 e).lit < rank (get_or parts k e).lit =
          merged.order some.0 k e more h in omega arith)
          (cases_lt k some.0)

  -- the chosen literals of a body weigh the same after merging
  pub sum_by-merged : sum_by (λ part. if chosen part.lit then part.weight else 0) parts
      ≡ sum_by (λ item. if chosen item.lit then item.weight else 0) body
  sum_by-merged =
      sum_by-agree (λ (part : Part). if chosen part.lit then part.weight else 0)
      (λ (part : Part). sum_by
      (λ (item : Weighted). if chosen item.lit
      then (if is_same item.lit part.lit then item.weight else 0) else 0) body) parts
      (λ k d h. row (get_or parts k d) (merged.weights k d h))
      ∙ sum_by_swap
      (λ (part : Part) (item : Weighted). if chosen item.lit
      then (if is_same item.lit part.lit then item.weight else 0) else 0) parts body
      ∙ sum_by-agree
      (λ (item : Weighted). sum_by
      (λ (part : Part). if chosen item.lit
      then (if is_same item.lit part.lit then item.weight else 0) else 0) parts)
      (λ (item : Weighted). if chosen item.lit then item.weight else 0) body
      (λ k d h. column (get_or body k d) (merged.complete k d h))

-- a merged body holds where the body does
pub BodyHoldsN-merged : (by set : List Bool) (rule : Rule) (at : Option BodyOf)
    → IsSomeAnd at (IsBodyOf rule) → IsSomeAnd at (BodyHoldsN by set) ↔ BodyHolds by set rule
BodyHoldsN-merged by set rule None is = absurd is
BodyHoldsN-merged by set rule (Some body) is =
    let same = sum_by-merged rule.body body.parts is.parts (counts by set) in
    (λ holds. omega (arith, holds, is.bound, same), λ holds. omega (arith, holds, is.bound, same))

module _ (bodies : List BodyOf) (by set : List Bool) (normal : NormalRule) (rule : Rule)
    (stands : StandsFor bodies normal rule) where
  -- the body of a normal rule holds where that of its rule does
  pub RuleBodyHolds-stands : RuleBodyHolds bodies by set normal ↔ BodyHolds by set rule
  RuleBodyHolds-stands = BodyHoldsN-merged by set rule (slice_get bodies normal.body) stands.body

  -- a set that keeps the normal rule keeps its rule
  pub Keeps-from_normal : KeepsN bodies by set normal → Keeps by set rule
  Keeps-from_normal keeps holds =
      subst (λ kind. HeadHolds kind by set rule.heads) stands.kind
      (subst (λ heads. HeadHolds normal.kind by set heads) stands.heads
      (keeps (RuleBodyHolds-stands.1 holds)))

  -- and the other way round
  pub KeepsN-from_rule : Keeps by set rule → KeepsN bodies by set normal
  KeepsN-from_rule keeps holds =
      subst (λ kind. HeadHolds kind by set normal.heads) (sym stands.kind)
      (subst (λ heads. HeadHolds rule.kind by set heads) (sym stands.heads)
      (keeps (RuleBodyHolds-stands.0 holds)))

module _ (normal : Normal) (program : Program) (form : IsNormalFormOf normal program) where
  -- bodies hold for the same pairs of sets
  pub SameBodies-normal_form : SameBodies normal program
  SameBodies-normal_form by set =
      AllZip-weaker (StandsFor normal.bodies) _ (RuleBodyHolds-stands normal.bodies by set)
      normal.rules program.rules form.rules.each

  back : AllZip (λ rule one. StandsFor normal.bodies one rule) program.rules normal.rules
  back = AllZip-flip (StandsFor normal.bodies) normal.rules program.rules form.rules.each

  to_program : (set : List Bool) → IsAnswerSetN normal set → IsAnswerSet program set
  to_program set answer = record {
    over = subst (λ atoms. IsSetOver atoms set) form.atoms answer.over;
    compute = record {
      must = subst (All (IsIn set)) form.must answer.compute.must;
      must_not = subst (All (λ atom. ¬ IsIn set atom)) form.must_not answer.compute.must_not;
    };
    keeps =
        AllZip-All (StandsFor normal.bodies) (KeepsN normal.bodies set set) (Keeps set set)
        (Keeps-from_normal normal.bodies set set) normal.rules program.rules form.rules.each
        answer.keeps;
    least =
        λ smaller part. AllZip-Any (StandsFor normal.bodies)
        (λ one. ¬ KeepsN normal.bodies set smaller one) (λ rule. ¬ Keeps set smaller rule)
        (λ one rule stands fails keeps. fails
        (KeepsN-from_rule normal.bodies set smaller one rule stands keeps)) normal.rules
        program.rules form.rules.each (answer.least smaller part);
  }

  to_normal : (set : List Bool) → IsAnswerSet program set → IsAnswerSetN normal set
  to_normal set answer = record {
    over = subst (λ atoms. IsSetOver atoms set) (sym form.atoms) answer.over;
    compute = record {
      must = subst (All (IsIn set)) (sym form.must) answer.compute.must;
      must_not = subst (All (λ atom. ¬ IsIn set atom)) (sym form.must_not) answer.compute.must_not;
    };
    keeps =
        AllZip-All (λ rule one. StandsFor normal.bodies one rule) (Keeps set set)
        (KeepsN normal.bodies set set)
        (λ rule one stands. KeepsN-from_rule normal.bodies set set one rule stands)
        program.rules normal.rules back answer.keeps;
    least =
        λ smaller part. AllZip-Any (λ rule one. StandsFor normal.bodies one rule)
        (λ rule. ¬ Keeps set smaller rule) (λ one. ¬ KeepsN normal.bodies set smaller one)
        (λ rule one stands fails keeps. fails
        (Keeps-from_normal normal.bodies set smaller one rule stands keeps)) program.rules
        normal.rules back (answer.least smaller part);
  }

  -- the answer sets are the same
  pub SameAnswerSets-normal_form : SameAnswerSets normal program
  SameAnswerSets-normal_form set = (to_program set, to_normal set)
