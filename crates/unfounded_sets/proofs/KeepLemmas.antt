-- Sources when the assignments or the sources change.
use Rattle.std.proofs.Common.{◌≡◌, ◌≤◌, ◌<◌, ◌*◌, ◌⊎◌, ℕ, Bool, true, false, List, []}
use Rattle.std.proofs.Common.{length, get_or, refl, sym, ap, ◌∙◌, subst, inl, inr, arith}
use Rattle.std.proofs.Common.{Some, slice_get}
use Rattle.std.specs.Prelude.{if◌then◌else◌, All, Contains, IsSomeAnd}
use Rattle.std.proofs.lemmas.Bool.{cases_Bool}
use Rattle.std.proofs.lemmas.List.{get_or_default}
use Rattle.std.proofs.lemmas.Option.{slice_get_within}
use Rattle.ground_program.specs.Meaning.{IsIn}
use Rattle.clause_store.specs.declared.literal.Lit.{Lit}
use Rattle.clause_store.specs.declared.step.Step.{Step}
use Rattle.clause_store.specs.Standing.{IsFalse}
use Rattle.clause_store.proofs.LiteralLemmas.{any_from}
use Rattle.normal_program.specs.declared.normal.Part.{Part}
use Rattle.normal_program.specs.declared.normal.BodyOf.{BodyOf}
use Rattle.normal_program.specs.declared.normal.Normal.{Normal}
use Rattle.normal_program.specs.Normal.{body_var}
use Rattle.normal_program.specs.Clauses.{positive, negative, literal_of}
use Rattle.normal_program.specs.Loop.{IsAtomOf}
use Rattle.unfounded_sets.specs.declared.places.Places.{Places}
use Rattle.unfounded_sets.specs.declared.sources.Sources.{Sources}
use Rattle.unfounded_sets.specs.declared.sources.TheConstants.{NO_RANK}
use Rattle.unfounded_sets.specs.Placed.{ArePlaces, Has, IsHead, StandsAt}
use Rattle.unfounded_sets.specs.Sources.{earlier, Fires, rank_of, source_of, Waits, Stands}
use Rattle.unfounded_sets.specs.Sources.{HasSource, AreSized, AreSourcesBut, AreSources}
use Rattle.unfounded_sets.specs.Sources.{IsDropped, AreLess}
use Rattle.unfounded_sets.proofs.SourceLemmas.{in_earlier, earlier_in, fires_on}
use Rattle.unfounded_sets.proofs.SourceLemmas.{fires_fewer}

-- ---- the same sources

-- the same sources by assignments that make no more false, where it is known of each source that
-- was doubted or still to be looked at what becomes of it
module _ (normal : Normal) (one two : List Step) (number to : ℕ) (left kept : List ℕ)
    (old new : Sources) (are : AreSourcesBut normal one number left old)
    (bodies : new.bodies ≡ old.bodies) (ranks : new.ranks ≡ old.ranks) (next : new.next ≡ old.next)
    (lost : length new.lost.waits ≡ length old.lost.waits)
    (doubted : length new.doubted.waits ≡ length old.doubted.waits)
    (fewer : (lit : Lit) → IsFalse two lit → IsFalse one lit)
    (open_ones : (atom : ℕ) → rank_of old atom < old.next
    → IsHead normal (source_of old atom) atom
    → ((source_of old atom ≡ number) × Contains left atom)
    ⊎ Waits old.doubted (source_of old atom)
    → ((source_of old atom ≡ to) × Contains kept atom)
    ⊎ (Waits new.doubted (source_of old atom)
    ⊎ Stands normal one old (source_of old atom) atom))
    (rest : (atom : ℕ) → IsAtomOf normal atom → rank_of old atom ≡ NO_RANK
    → IsFalse two (positive atom) ⊎ Waits new.lost atom) where
  same_rank : (atom : ℕ) → rank_of new atom ≡ rank_of old atom
  same_rank atom = ap (λ v. get_or v.items atom NO_RANK) ranks

  same_source : (atom : ℕ) → source_of new atom ≡ source_of old atom
  same_source atom = ap (λ v. get_or v.items atom 0) bodies

  stands_now : (source atom : ℕ) → Stands normal one old source atom
      → Stands normal two new source atom
  stands_now source atom stands = record {
    possible = λ now. stands.possible (fewer (positive atom) now);
    fires =
        subst (λ v. Fires normal two (earlier (get_or v.items atom NO_RANK) v.items) source)
        (sym ranks)
        (fires_fewer normal one two (earlier (rank_of old atom) old.ranks.items) source
        stands.fires fewer);
  }

  after : (atom : ℕ) → ((source_of old atom ≡ to) × Contains kept atom)
      ⊎ (Waits new.doubted (source_of old atom)
      ⊎ Stands normal one old (source_of old atom) atom)
      → ((source_of old atom ≡ to) × Contains kept atom)
      ⊎ (Waits new.doubted (source_of old atom)
      ⊎ Stands normal two new (source_of old atom) atom)
  after atom known = elim known [
    | inl here ↦ inl here
    | inr other ↦ elim other [
      | inl waits ↦ inr (inl waits)
      | inr stands ↦ inr (inr (stands_now (source_of old atom) atom stands))
    ]
  ]

  same_each : (atom : ℕ) → rank_of new atom < new.next → HasSource normal two to kept new atom
  same_each atom low = record {
    head = subst (λ n. IsHead normal n atom) (sym (same_source atom)) was.head;
    stands =
        subst
        (λ n. ((n ≡ to) × Contains kept atom)
        ⊎ (Waits new.doubted n ⊎ Stands normal two new n atom))
        (sym (same_source atom))
        (after atom (elim was.stands [
          | inl open_one ↦ open_ones atom low_before was.head (inl open_one)
          | inr known ↦ elim known [
            | inl waits ↦ open_ones atom low_before was.head (inr waits)
            | inr stands ↦ inr (inr stands)
          ]
        ]));
  }
    where
      low_before : rank_of old atom < old.next
      low_before = omega (arith, low, same_rank atom, next)

      was : HasSource normal one number left old atom
      was = are.each atom low_before

  pub sources_same : AreSourcesBut normal two to kept new
  sources_same = record {
    sized = record {
      bodies = ap (λ v. length v.items) bodies ∙ are.sized.bodies;
      ranks = ap (λ v. length v.items) ranks ∙ are.sized.ranks;
      lost = lost ∙ are.sized.lost;
      doubted = doubted ∙ are.sized.doubted;
      next = omega (arith, next, are.sized.next);
    };
    ranked = λ atom. elim (are.ranked atom) [
      | inl low ↦ inl (omega (arith, low, same_rank atom, next))
      | inr none ↦ inr (same_rank atom ∙ none)
    ];
    each = same_each;
    rest = λ atom is_atom none. rest atom is_atom (sym (same_rank atom) ∙ none);
  }

-- assignments that give each literal the same value
pub sources_alike : (normal : Normal) (one two : List Step) (it : Sources)
    → AreSources normal one it → ((lit : Lit) → IsFalse two lit → IsFalse one lit)
    → ((lit : Lit) → IsFalse one lit → IsFalse two lit) → AreSources normal two it
sources_alike normal one two it are back there =
    sources_same normal one two 0 0 [] [] it it are refl refl refl refl refl back
    (λ atom low head known. elim known [
      | inl here ↦ inl here
      | inr waits ↦ inr (inl waits)
    ])
    (λ atom is_atom none. elim (are.rest atom is_atom none) [
      | inl is ↦ inl (there (positive atom) is)
      | inr waits ↦ inr waits
    ])

-- ---- fewer sources

module _ (normal : Normal) (one two : List Step) (places : Places) (old new : Sources)
    (stand : ArePlaces normal places) (sized : AreSized normal old)
    (less : AreLess places.occurrences old new) where
  -- an atom that counts for a body that isn't doubted goes on counting
  pub less_in : (source : ℕ) (body : BodyOf) (rank : ℕ) → slice_get normal.bodies source ≡ Some body
      → ¬ Waits new.doubted source → rank ≤ old.next → (part : Part)
      → Contains body.parts part → part.lit.negated ≡ false
      → IsIn (earlier rank old.ranks.items) part.lit.atom
      → IsIn (earlier rank new.ranks.items) part.lit.atom
  less_in source body rank here free most part among plain counts =
      elim (less.ranks part.lit.atom) [
        | inl same ↦
            earlier_in rank new.ranks.items part.lit.atom (omega (arith, same, low))
            (omega (arith, most, sized.next))
        | inr dropped ↦
            absurd (free (marked dropped))
      ]
    where
      low : rank_of old part.lit.atom < rank
      low = in_earlier rank old.ranks.items part.lit.atom counts

      code : (literal_of part.lit).0 ≡ 2 * part.lit.atom
      code = go part.lit.negated plain
        where
          go : (b : Bool) → b ≡ false
              → (if b then negative part.lit.atom else positive part.lit.atom).0
              ≡ 2 * part.lit.atom
          go true is = absurd (cc)
          go false is = refl

      occurs : Has places.occurrences (2 * part.lit.atom) source
      occurs =
          (stand.occurrences (2 * part.lit.atom) source).1
          (subst (λ o. IsSomeAnd o (λ (it : BodyOf). StandsAt it.parts (2 * part.lit.atom)))
          (sym here)
          (any_from (λ (it : Part). (literal_of it.lit).0 ≡ 2 * part.lit.atom) body.parts part among
          code))

      marked : IsDropped places.occurrences old new part.lit.atom → Waits new.doubted source
      marked dropped =
          let (k, inside, at) = occurs in
          subst (λ n. n < length old.doubted.waits → Waits new.doubted n) at
          (dropped.doubted (omega (arith, low, most)) k source inside)
          (omega (arith, slice_get_within normal.bodies source body here, sized.doubted))

  pub less_sized : AreSized normal new
  less_sized = record {
    bodies = ap (λ v. length v.items) less.bodies ∙ sized.bodies;
    ranks = less.places ∙ sized.ranks;
    lost = less.lost.count ∙ sized.lost;
    doubted = less.doubted.count ∙ sized.doubted;
    next = omega (arith, less.next, sized.next);
  }

  -- an atom that still has a rank has the same
  pub less_same : (atom : ℕ) → rank_of new atom < new.next → rank_of new atom ≡ rank_of old atom
  less_same atom low = elim (less.ranks atom) [
    | inl same ↦ same
    | inr dropped ↦ absurd (omega (arith, dropped.gone, low, less.next, sized.next))
  ]

  less_source : (atom : ℕ) → source_of new atom ≡ source_of old atom
  less_source atom = ap (λ v. get_or v.items atom 0) less.bodies

  module _ (number : ℕ) (left : List ℕ) (are : AreSourcesBut normal one number left old)
      (more : (atom : ℕ) → IsFalse one (positive atom) → IsFalse two (positive atom))
      (stands_on : (atom : ℕ) → rank_of new atom < new.next
      → ¬ Waits new.doubted (source_of old atom)
      → Stands normal one old (source_of old atom) atom
      → Stands normal two new (source_of old atom) atom) where
    less_each : (atom : ℕ) → rank_of new atom < new.next
        → HasSource normal two number left new atom
    less_each atom low = record {
      head = subst (λ n. IsHead normal n atom) (sym (less_source atom)) was.head;
      stands =
          subst
          (λ n. ((n ≡ number) × Contains left atom)
          ⊎ (Waits new.doubted n ⊎ Stands normal two new n atom))
          (sym (less_source atom))
          (elim was.stands [
            | inl open_one ↦ inl open_one
            | inr known ↦ inr (elim known [
              | inl waits ↦ inl (less.doubted.more (source_of old atom) waits)
              | inr stands ↦
                  elim (cases_Bool (get_or new.doubted.waits (source_of old atom) false)) [
                    | inl waits ↦ inl waits
                    | inr free ↦
                        inr
                        (stands_on atom low
                        (λ waits. let e : true ≡ false = sym waits ∙ free in cc) stands)
                  ]
            ])
          ]);
    }
      where
        was : HasSource normal one number left old atom
        was =
            are.each atom
            (omega (arith, low, less_same atom low, less.next))

    less_rest : (atom : ℕ) → IsAtomOf normal atom → rank_of new atom ≡ NO_RANK
        → IsFalse two (positive atom) ⊎ Waits new.lost atom
    less_rest atom is_atom none = elim (less.ranks atom) [
      | inl same ↦ elim (are.rest atom is_atom (sym same ∙ none)) [
        | inl is ↦ inl (more atom is)
        | inr waits ↦ inr (less.lost.more atom waits)
      ]
      | inr dropped ↦ inr dropped.lost
    ]

    less_ranked : (atom : ℕ) → (rank_of new atom < new.next) ⊎ (rank_of new atom ≡ NO_RANK)
    less_ranked atom = elim (less.ranks atom) [
      | inl same ↦ elim (are.ranked atom) [
        | inl low ↦ inl (omega (arith, low, same, less.next))
        | inr none ↦ inr (same ∙ none)
      ]
      | inr dropped ↦ inr dropped.gone
    ]

    pub sources_less : AreSourcesBut normal two number left new
    sources_less = record {
      sized = less_sized;
      ranked = less_ranked;
      each = less_each;
      rest = less_rest;
    }

-- a source stands with fewer sources, where its body isn't doubted
pub stands_less : (normal : Normal) (one two : List Step) (places : Places) (old new : Sources)
    → ArePlaces normal places → AreSized normal old → AreLess places.occurrences old new
    → (atom source : ℕ) → rank_of new atom < new.next → rank_of new atom ≡ rank_of old atom
    → ¬ Waits new.doubted source → Stands normal one old source atom
    → ¬ IsFalse two (positive atom)
    → (IsFalse two (positive (body_var normal source))
    → IsFalse one (positive (body_var normal source)))
    → ((body : BodyOf) → slice_get normal.bodies source ≡ Some body
    → All (λ part. part.lit.negated ≡ true → IsFalse two (literal_of part.lit)
    → IsFalse one (literal_of part.lit)) body.parts)
    → Stands normal two new source atom
stands_less normal one two places old new stand sized less atom source low same free stands
    possible var negatives = record {
      possible = possible;
      fires =
          subst (λ rank. Fires normal two (earlier rank new.ranks.items) source) (sym same)
          (fires_on normal one two (earlier (rank_of old atom) old.ranks.items)
          (earlier (rank_of old atom) new.ranks.items) source stands.fires var
          (λ body here k d within. record {
            negative = negatives body here k d within;
            positive =
                less_in normal one two places old new stand sized less source body
                (rank_of old atom)
                here free (omega (arith, low, same, less.next)) (get_or body.parts k d)
                (k, within, get_or_self body.parts k d within);
          }));
    }
  where
    get_or_self : (parts : List Part) (k : ℕ) (d : Part) → k < length parts
        → get_or parts k (get_or parts k d) ≡ get_or parts k d
    get_or_self parts k d within = get_or_default parts k (get_or parts k d) d within
