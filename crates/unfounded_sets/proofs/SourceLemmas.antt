-- Sources, and what becomes of them.
use Rattle.std.proofs.Common.{◌≡◌, ◌≤◌, ◌<◌, ℕ, zero, suc, Bool, true, false, not}
use Rattle.std.proofs.Common.{List, [], length, get_or, set, refl, sym, ap, ◌∙◌, subst}
use Rattle.std.proofs.Common.{inl, inr, arith, Option, Some, None, slice_get, ltb}
use Rattle.std.specs.Prelude.{if◌then◌else◌, All, Contains, IsSomeAnd}
use Rattle.std.proofs.lemmas.Bool.{cases_Bool, cases_lt, both_ways, lt-ltb, ltb-true}
use Rattle.std.proofs.lemmas.List.{get_or-map, get_or_past}
use Rattle.std.proofs.lemmas.List.{length-map}
use Rattle.item_list.proofs.ListLemmas.{sum_by-le_each}
use Rattle.ground_program.specs.declared.program.AtomLit.{AtomLit}
use Rattle.ground_program.specs.Meaning.{has, IsIn, IsPart}
use Rattle.clause_store.specs.declared.literal.Lit.{Lit}
use Rattle.clause_store.specs.declared.step.Step.{Step}
use Rattle.clause_store.specs.Standing.{IsFalse}
use Rattle.normal_program.specs.declared.normal.Part.{Part}
use Rattle.normal_program.specs.declared.normal.BodyOf.{BodyOf}
use Rattle.normal_program.specs.declared.normal.Normal.{Normal}
use Rattle.normal_program.specs.Normal.{body_var}
use Rattle.normal_program.specs.Clauses.{positive, literal_of}
use Rattle.unfounded_sets.specs.declared.sources.Sources.{Sources}
use Rattle.unfounded_sets.specs.declared.sources.TheConstants.{NO_RANK}
use Rattle.unfounded_sets.specs.Founding.{is_false, counts_with, founding_weight, IsReached, Founds}
use Rattle.unfounded_sets.specs.Founding.{IsClosed, IsFounded}
use Rattle.unfounded_sets.specs.Placed.{IsHead}
use Rattle.unfounded_sets.specs.Sources.{earlier, Fires, rank_of, source_of, Waits, Stands}
use Rattle.unfounded_sets.specs.Sources.{AreSources}
use Rattle.unfounded_sets.proofs.ValueLemmas.{not_false_if, not_false_is}
use Rattle.unfounded_sets.proofs.FoundingLemmas.{if-more, reached_more}

-- ---- atoms of smaller ranks

rank_at : (rank : ℕ) (ranks : List ℕ) (atom : ℕ) → atom < length ranks
    → has (earlier rank ranks) atom ≡ ltb (get_or ranks atom NO_RANK) rank
rank_at rank ranks atom low = get_or-map (λ one. ltb one rank) ranks atom NO_RANK false low

pub in_earlier : (rank : ℕ) (ranks : List ℕ) (atom : ℕ) → IsIn (earlier rank ranks) atom
    → get_or ranks atom NO_RANK < rank
in_earlier rank ranks atom here = elim (cases_lt atom (length ranks)) [
  | inl low ↦
      ltb-true (get_or ranks atom NO_RANK) rank (sym (rank_at rank ranks atom low) ∙ here)
  | inr past ↦
      absurd
      (both_ways (has (earlier rank ranks) atom)
      (get_or_past (earlier rank ranks) atom false
      (omega (arith, past, length-map ranks (λ one. ltb one rank)))) here)
]

pub earlier_in : (rank : ℕ) (ranks : List ℕ) (atom : ℕ) → get_or ranks atom NO_RANK < rank
    → rank ≤ NO_RANK → IsIn (earlier rank ranks) atom
earlier_in rank ranks atom less most = elim (cases_lt atom (length ranks)) [
  | inl low ↦
      rank_at rank ranks atom low ∙ lt-ltb (get_or ranks atom NO_RANK) rank less
  | inr past ↦ absurd (omega (arith, less, most, get_or_past ranks atom NO_RANK past))
]

-- an atom with a rank has a place
pub within_by : (ranks : List ℕ) (atom next : ℕ) → get_or ranks atom NO_RANK < next
    → next ≤ NO_RANK → atom < length ranks
within_by ranks atom next less most = elim (cases_lt atom (length ranks)) [
  | inl low ↦ low
  | inr past ↦ absurd (omega (arith, less, most, get_or_past ranks atom NO_RANK past))
]

-- ---- what counts for a body

-- a literal of a body that counts goes on counting
pub record CountsMore (one two : List Step) (less more : List Bool) (lit : AtomLit) : Type 0 where
  pub negative : lit.negated ≡ true → IsFalse two (literal_of lit) → IsFalse one (literal_of lit)
  pub positive : lit.negated ≡ false → IsIn less lit.atom → IsIn more lit.atom

either_by : (b x y : Bool) → b ≡ true → (if b then x else y) ≡ x
either_by true x y is = refl
either_by false x y is = absurd (cc)

other_by : (b x y : Bool) → b ≡ false → (if b then x else y) ≡ y
other_by true x y is = absurd (cc)
other_by false x y is = refl

not_by : (b : Bool) → not b ≡ true → b ≡ false
not_by true is = absurd (let e : false ≡ true = is in cc)
not_by false is = refl

by_not : (b : Bool) → b ≡ false → not b ≡ true
by_not b is = ap not is

counts_on : (one two : List Step) (less more : List Bool) (lit : AtomLit)
    → CountsMore one two less more lit → counts_with one less lit ≡ true
    → counts_with two more lit ≡ true
counts_on one two less more lit counts is = elim (cases_Bool lit.negated) [
  | inl negated ↦
      let was : not (is_false one (literal_of lit)) ≡ true =
      sym (either_by lit.negated (not (is_false one (literal_of lit))) (has less lit.atom) negated)
      ∙ is in
      either_by lit.negated (not (is_false two (literal_of lit))) (has more lit.atom) negated
      ∙ by_not (is_false two (literal_of lit))
      (not_false_is two (literal_of lit)
      (λ now. not_false_if one (literal_of lit) (not_by (is_false one (literal_of lit)) was)
      (counts.negative negated now)))
  | inr plain ↦
      let was : has less lit.atom ≡ true =
      sym (other_by lit.negated (not (is_false one (literal_of lit))) (has less lit.atom) plain)
      ∙ is in
      other_by lit.negated (not (is_false two (literal_of lit))) (has more lit.atom) plain
      ∙ counts.positive plain was
]

weight_on : (one two : List Step) (less more : List Bool) (parts : List Part)
    → All (λ part. CountsMore one two less more part.lit) parts
    → founding_weight one less parts ≤ founding_weight two more parts
weight_on one two less more parts counts =
    sum_by-le_each (λ (it : Part). if counts_with one less it.lit then it.weight else 0)
    (λ (it : Part). if counts_with two more it.lit then it.weight else 0) parts
    (λ k d within. let it = get_or parts k d in
    if-more (counts_with one less it.lit) (counts_with two more it.lit) it.weight
    (counts_on one two less more it.lit (counts k d within)))

pub fires_on : (normal : Normal) (one two : List Step) (less more : List Bool) (number : ℕ)
    → Fires normal one less number
    → (IsFalse two (positive (body_var normal number))
    → IsFalse one (positive (body_var normal number)))
    → ((body : BodyOf) → slice_get normal.bodies number ≡ Some body
    → All (λ part. CountsMore one two less more part.lit) body.parts)
    → Fires normal two more number
fires_on normal one two less more number fires possible counts = record {
  possible = λ now. fires.possible (possible now);
  enough = go (slice_get normal.bodies number) refl fires.enough;
}
  where
    go : (o : Option BodyOf) → slice_get normal.bodies number ≡ o
        → IsSomeAnd o (λ body. body.bound ≤ founding_weight one less body.parts)
        → IsSomeAnd o (λ body. body.bound ≤ founding_weight two more body.parts)
    go None is enough = enough
    go (Some body) is enough =
        omega (arith, enough, weight_on one two less more body.parts (counts body is))

-- more atoms, by the same assignments
pub fires_with : (normal : Normal) (steps : List Step) (less more : List Bool) (number : ℕ)
    → Fires normal steps less number → IsPart less more → Fires normal steps more number
fires_with normal steps less more number fires part =
    fires_on normal steps steps less more number fires (λ now. now)
    (λ body is k d within. record {
      negative = λ _ now. now;
      positive = λ _ here. part (get_or body.parts k d).lit.atom here;
    })

-- the same atoms, by assignments that make no more false
pub fires_fewer : (normal : Normal) (one two : List Step) (set : List Bool) (number : ℕ)
    → Fires normal one set number → ((lit : Lit) → IsFalse two lit → IsFalse one lit)
    → Fires normal two set number
fires_fewer normal one two set number fires fewer =
    fires_on normal one two set set number fires (fewer (positive (body_var normal number)))
    (λ body is k d within. record {
      negative = λ _ now. fewer (literal_of (get_or body.parts k d).lit) now;
      positive = λ _ here. here;
    })

-- ---- atoms with sources are founded

module _ (normal : Normal) (steps : List Step) (it : Sources)
    (are : AreSources normal steps it) (none : All (λ waits. waits ≡ false) it.doubted.waits) where
  -- no body is doubted
  undoubted : (number : ℕ) → ¬ Waits it.doubted number
  undoubted number waits = elim (cases_lt number (length it.doubted.waits)) [
    | inl low ↦
        both_ways (get_or it.doubted.waits number false) (none number false low) waits
    | inr past ↦
        both_ways (get_or it.doubted.waits number false)
        (get_or_past it.doubted.waits number false past) waits
  ]

  pub stands_now : (atom : ℕ) → rank_of it atom < it.next
      → Stands normal steps it (source_of it atom) atom
  stands_now atom ranked = elim (are.each atom ranked).stands [
    | inl left ↦ absurd (nothing_in_list left.1)
    | inr rest ↦ elim rest [
      | inl waits ↦ absurd (undoubted (source_of it atom) waits)
      | inr stands ↦ stands
    ]
  ]
    where
      nothing_in_list : Contains [] atom → ⊥
      nothing_in_list (k, low, at) = omega (arith, low)

  founded_below : (all : List Bool) → IsClosed normal steps all → (above atom : ℕ)
      → rank_of it atom < above → rank_of it atom < it.next → IsIn all atom
  founded_below all closed zero atom low ranked = absurd (omega (arith, low))
  founded_below all closed (suc above) atom low ranked =
      by_rule (founded_below all closed above) (are.each atom ranked).head
    where
      stands : Stands normal steps it (source_of it atom) atom
      stands = stands_now atom ranked

      part : ((one : ℕ) → rank_of it one < above → rank_of it one < it.next → IsIn all one)
          → IsPart (earlier (rank_of it atom) it.ranks.items) all
      part before one here =
          let less : rank_of it one < rank_of it atom =
          in_earlier (rank_of it atom) it.ranks.items one here in
          before one (omega (arith, less, low)) (omega (arith, less, ranked))

      by_rule : ((one : ℕ) → rank_of it one < above → rank_of it one < it.next → IsIn all one)
          → IsHead normal (source_of it atom) atom → IsIn all atom
      by_rule before (k, rule, within, at, here) =
          let (j, inside, is) = here.1 in
          let founds : Founds normal steps all rule =
          subst (Founds normal steps all) at (closed k rule within) in
          let fires : Fires normal steps (earlier (rank_of it atom) it.ranks.items) rule.body =
          subst (Fires normal steps (earlier (rank_of it atom) it.ranks.items)) (sym here.0)
          stands.fires in
          let reached : IsReached normal steps (earlier (rank_of it atom) it.ranks.items) rule =
          record { possible = fires.possible; enough = fires.enough } in
          subst (λ one. ¬ IsFalse steps (positive one) → IsIn all one) is
          (founds
          (reached_more normal steps (earlier (rank_of it atom) it.ranks.items) all rule
          (part before) reached) j atom inside) stands.possible

  pub all_founded : (atom : ℕ) → rank_of it atom < it.next → IsFounded normal steps atom
  all_founded atom ranked all closed =
      founded_below all closed (suc (rank_of it atom)) atom (omega arith) ranked
