-- Sources when an assignment comes or goes, and when a body is looked at.
use Rattle.std.proofs.Common.{◌≡◌, ◌≢◌, ◌≤◌, ◌<◌, ◌+◌, ◌⊎◌, ℕ, Bool, true, false, List, []}
use Rattle.std.proofs.Common.{◌∷◌, ◌++◌, length, get_or, set, refl, sym, ap, ◌∙◌, subst, inl, inr}
use Rattle.std.proofs.Common.{arith, Some, slice_get, length-set}
use Rattle.std.specs.Prelude.{if◌then◌else◌, All, Contains, IsSomeAnd}
use Rattle.std.proofs.lemmas.Bool.{cases_eq}
use Rattle.std.proofs.lemmas.List.{get_or-set_same, get_or-set_other, get_or_default}
use Rattle.std.proofs.lemmas.Option.{slice_get_within, get_or_from_slice_get}
use Rattle.item_list.proofs.ListLemmas.{IsSomeAnd-found}
use Rattle.ground_program.specs.declared.program.AtomLit.{AtomLit}
use Rattle.ground_program.specs.Meaning.{IsPart}
use Rattle.clause_store.specs.declared.literal.Lit.{Lit}
use Rattle.clause_store.specs.declared.step.Step.{Step}
use Rattle.clause_store.specs.Clause.{negation}
use Rattle.clause_store.specs.Standing.{IsFalse}
use Rattle.clause_store.proofs.LiteralLemmas.{first_or_later}
use Rattle.normal_program.specs.declared.normal.Part.{Part}
use Rattle.normal_program.specs.declared.normal.BodyOf.{BodyOf}
use Rattle.normal_program.specs.declared.normal.Normal.{Normal}
use Rattle.normal_program.specs.Normal.{body_var}
use Rattle.normal_program.specs.Clauses.{positive, negative, literal_of}
use Rattle.normal_program.specs.Loop.{IsAtomOf}
use Rattle.normal_program.specs.Range.{IsInRange}
use Rattle.unfounded_sets.specs.declared.places.Places.{Places}
use Rattle.unfounded_sets.specs.declared.sources.Sources.{Sources}
use Rattle.unfounded_sets.specs.declared.sources.TheConstants.{NO_RANK}
use Rattle.unfounded_sets.specs.Waits.{Waited}
use Rattle.unfounded_sets.specs.Founding.{founding_weight}
use Rattle.unfounded_sets.specs.Placed.{ArePlaces, Has, IsHead, StandsAt}
use Rattle.unfounded_sets.specs.Sources.{earlier, Fires, rank_of, source_of, Waits, Stands}
use Rattle.unfounded_sets.specs.Sources.{HasSource, AreSourcesBut, AreSources}
use Rattle.unfounded_sets.specs.Sources.{Drops, IsDenied, IsReleased, GetsSource}
use Rattle.unfounded_sets.proofs.FalseLemmas.{false_last, false_more}
use Rattle.unfounded_sets.proofs.SourceLemmas.{in_earlier, earlier_in, within_by, fires_with}
use Rattle.unfounded_sets.proofs.KeepLemmas.{sources_same, sources_less, stands_less, less_same}

-- a body that fires is there
pub fires_within : (normal : Normal) (steps : List Step) (set : List Bool) (number : ℕ)
    → Fires normal steps set number → number < length normal.bodies
fires_within normal steps set number fires =
    let (body, here, enough) =
    IsSomeAnd-found (λ (body : BodyOf). body.bound ≤ founding_weight steps set body.parts)
    (slice_get normal.bodies number) fires.enough in
    slice_get_within normal.bodies number body here

negative_of : (lit : AtomLit) → lit.negated ≡ true → literal_of lit ≡ negative lit.atom
negative_of lit is = go lit.negated is
  where
    go : (b : Bool) → b ≡ true → (if b then negative lit.atom else positive lit.atom)
        ≡ negative lit.atom
    go true is = refl
    go false is = absurd (cc)

-- ---- an assignment comes

module _ (normal : Normal) (range : IsInRange normal) (steps : List Step) (step : Step)
    (places : Places) (old new : Sources) (stand : ArePlaces normal places)
    (are : AreSources normal steps old)
    (denied : IsDenied places.occurrences (negation step.lit) old new) where
  follows_on : (atom : ℕ) → rank_of new atom < new.next
      → ¬ Waits new.doubted (source_of old atom)
      → Stands normal steps old (source_of old atom) atom
      → Stands normal (steps ++ step ∷ []) new (source_of old atom) atom
  follows_on atom low free stands =
      stands_less normal steps (steps ++ step ∷ []) places old new stand are.sized denied.less atom
      source low same free stands possible var negatives
    where
      source : ℕ
      source = source_of old atom

      same : rank_of new atom ≡ rank_of old atom
      same =
          less_same normal steps (steps ++ step ∷ []) places old new stand are.sized denied.less
          atom low

      possible : ¬ IsFalse (steps ++ step ∷ []) (positive atom)
      possible now = elim (false_last steps step (positive atom) now) [
        | inl is ↦ stands.possible is
        | inr is ↦
            let low_before : rank_of old atom < old.next =
            omega (arith, low, same, denied.less.next) in
            let gone : rank_of new atom ≡ NO_RANK =
            denied.gone atom (within_by old.ranks.items atom old.next low_before are.sized.next)
            (sym is) in
            omega (arith, gone, low, denied.less.next, are.sized.next)
      ]

      there : source_of old atom < length old.doubted.waits
      there =
          omega (
            arith,
            fires_within normal steps _ (source_of old atom) stands.fires,
            are.sized.doubted,
          )

      var : IsFalse (steps ++ step ∷ []) (positive (body_var normal (source_of old atom)))
          → IsFalse steps (positive (body_var normal (source_of old atom)))
      var now =
          elim (false_last steps step (positive (body_var normal (source_of old atom))) now) [
            | inl is ↦ is
            | inr is ↦
                absurd
                (free
                (denied.body (source_of old atom) there
                (subst (λ n. negation step.lit ≡ positive (n + source_of old atom))
                (sym are.sized.ranks) (sym is))))
          ]

      negatives : (body : BodyOf) → slice_get normal.bodies (source_of old atom) ≡ Some body
          → All (λ part. part.lit.negated ≡ true
          → IsFalse (steps ++ step ∷ []) (literal_of part.lit)
          → IsFalse steps (literal_of part.lit)) body.parts
      negatives body here k d within negated now =
          elim (false_last steps step (literal_of part.lit) now) [
            | inl is ↦ is
            | inr is ↦ absurd (free (waits is))
          ]
        where
          part : Part
          part = get_or body.parts k d

          is_atom : IsAtomOf normal (get_or body.parts k d).lit.atom
          is_atom =
              subst
              (λ (it : BodyOf). All (λ part. IsAtomOf normal part.lit.atom) it.parts)
              (get_or_from_slice_get normal.bodies (source_of old atom) body body here)
              (range.parts (source_of old atom) body
              (slice_get_within normal.bodies (source_of old atom) body here)) k d within

          waits : literal_of (get_or body.parts k d).lit ≡ negation step.lit
              → Waits new.doubted (source_of old atom)
          waits is =
              let place : atom_of < length old.ranks.items =
              omega (arith, is_atom.last, are.sized.ranks) in
              let (j, inside, at) = occurs is in
              subst (λ n. n < length old.doubted.waits → Waits new.doubted n) at
              (denied.among atom_of place (sym is ∙ negative_of (get_or body.parts k d).lit negated)
              j (source_of old atom) inside) there
            where
              atom_of : ℕ
              atom_of = (get_or body.parts k d).lit.atom

              occurs : literal_of (get_or body.parts k d).lit ≡ negation step.lit
                  → Has places.occurrences (negation step.lit).0 (source_of old atom)
              occurs is =
                  subst (λ (lit : Lit). Has places.occurrences lit.0 (source_of old atom)) is
                  ((stand.occurrences (literal_of (get_or body.parts k d).lit).0
                  (source_of old atom)).1
                  (subst
                  (λ o. IsSomeAnd o
                  (λ (it : BodyOf). StandsAt it.parts (literal_of (get_or body.parts k d).lit).0))
                  (sym here)
                  (k, get_or body.parts k d, within, get_or_default body.parts k _ d within, refl)))

  pub sources_follow : AreSources normal (steps ++ step ∷ []) new
  sources_follow =
      sources_less normal steps (steps ++ step ∷ []) places old new stand are.sized denied.less 0 []
      are (λ atom is. false_more steps step (positive atom) is) follows_on

-- ---- an assignment goes

pub sources_release : (normal : Normal) (steps : List Step) (step : Step) (old new : Sources)
    → AreSources normal (steps ++ step ∷ []) old → IsReleased (negation step.lit) old new
    → AreSources normal steps new
sources_release normal steps step old new are released =
    sources_same normal (steps ++ step ∷ []) steps 0 0 [] [] old new are
    (ap (λ (it : Sources). it.bodies) released.same) (ap (λ (it : Sources). it.ranks) released.same)
    (ap (λ (it : Sources). it.next) released.same) released.lost.count
    (ap (λ (it : Sources). length it.doubted.waits) released.same)
    (λ lit is. false_more steps step lit is)
    (λ atom low head known. elim known [
      | inl here ↦ inl here
      | inr waits ↦
          inr
          (inl
          (subst (λ (waited : Waited). Waits waited (source_of old atom))
          (sym (ap (λ (it : Sources). it.doubted) released.same)) waits))
    ])
    (λ atom is_atom none. elim (are.rest atom is_atom none) [
      | inl is ↦ elim (false_last steps step (positive atom) is) [
        | inl before ↦ inl before
        | inr last ↦
            inr
            (released.here atom (omega (arith, is_atom.last, are.sized.ranks)) (sym last))
      ]
      | inr waits ↦ inr (released.lost.more atom waits)
    ])

-- ---- a body is looked at

-- a body is doubted no more: the atoms that it is the source of are still to be looked at
pub sources_settle : (normal : Normal) (steps : List Step) (heads : List ℕ) (number : ℕ)
    (old new : Sources) → AreSources normal steps old
    → ((atom : ℕ) → IsHead normal number atom → Contains heads atom)
    → new.bodies ≡ old.bodies → new.ranks ≡ old.ranks → new.next ≡ old.next → new.lost ≡ old.lost
    → new.doubted.waits ≡ set old.doubted.waits number false
    → AreSourcesBut normal steps number heads new
sources_settle normal steps heads number old new are complete bodies ranks next lost settled =
    sources_same normal steps steps 0 number [] heads old new are bodies ranks next
    (ap (λ (waited : Waited). length waited.waits) lost)
    (ap length settled ∙ length-set old.doubted.waits number false) (λ lit is. is)
    (λ atom low head known. elim known [
      | inl here ↦ absurd (nothing_left here.1)
      | inr waits ↦ elim (cases_eq (source_of old atom) number) [
        | inl same ↦ inl (same, complete atom (subst (λ n. IsHead normal n atom) same head))
        | inr other ↦
            inr
            (inl
            (ap (λ (waits : List Bool). get_or waits (source_of old atom) false) settled
            ∙ get_or-set_other old.doubted.waits number (source_of old atom) false false other
            ∙ waits))
      ]
    ])
    (λ atom is_atom none. elim (are.rest atom is_atom none) [
      | inl is ↦ inl is
      | inr waits ↦
          inr (subst (λ (waited : Waited). Waits waited atom) (sym lost) waits)
    ])
  where
    nothing_left : {x : ℕ} → Contains [] x → ⊥
    nothing_left (k, low, at) = omega (arith, low)

-- one of them was looked at: it has another source or none, or its source stands
pub sources_next : (normal : Normal) (steps : List Step) (number head : ℕ) (rest : List ℕ)
    (it : Sources) → AreSourcesBut normal steps number (head ∷ rest) it
    → (rank_of it head < it.next → source_of it head ≡ number
    → Stands normal steps it number head)
    → AreSourcesBut normal steps number rest it
sources_next normal steps number head rest it are stands =
    sources_same normal steps steps number number (head ∷ rest) rest it it are refl refl refl refl
    refl (λ lit is. is)
    (λ atom low has known. elim known [
      | inl here ↦ elim (first_or_later head atom rest here.1) [
        | inl first ↦
            inr
            (inr
            (subst (λ n. Stands normal steps it n atom) (sym here.0)
            (subst
            (λ one. rank_of it one < it.next → source_of it one ≡ number
            → Stands normal steps it number one) first stands low here.0)))
        | inr later ↦ inl (here.0, later)
      ]
      | inr waits ↦ inr (inl waits)
    ])
    are.rest

-- one of them lost its source
pub sources_drop : (normal : Normal) (steps : List Step) (places : Places) (number head : ℕ)
    (rest : List ℕ) (old new : Sources) → ArePlaces normal places
    → AreSourcesBut normal steps number (head ∷ rest) old
    → Drops places.occurrences head old new → AreSourcesBut normal steps number rest new
sources_drop normal steps places number head rest old new stand are drops =
    sources_next normal steps number head rest new
    (sources_less normal steps steps places old new stand are.sized drops.less number
    (head ∷ rest) are (λ atom is. is)
    (λ atom low free stands.
    stands_less normal steps steps places old new stand are.sized drops.less atom
    (source_of old atom) low
    (less_same normal steps steps places old new stand are.sized drops.less atom low) free stands
    stands.possible (λ is. is) (λ body here k d within negated is. is)))
    (λ low same. absurd (omega (arith, low, drops.gone, drops.less.next, are.sized.next)))

-- ---- an atom gets a source

module _ (normal : Normal) (steps : List Step) (atom number : ℕ) (old new : Sources)
    (are : AreSources normal steps old) (head : IsHead normal number atom)
    (is_atom : IsAtomOf normal atom) (possible : ¬ IsFalse steps (positive atom))
    (fires : Fires normal steps (earlier old.next old.ranks.items) number)
    (gets : GetsSource atom number old new) where
  place : atom < length old.ranks.items
  place = omega (arith, is_atom.last, are.sized.ranks)

  rank_here : rank_of new atom ≡ old.next
  rank_here =
      ap (λ (all : List ℕ). get_or all atom NO_RANK) gets.ranks
      ∙ get_or-set_same old.ranks.items atom old.next NO_RANK place

  rank_else : (one : ℕ) → one ≢ atom → rank_of new one ≡ rank_of old one
  rank_else one other =
      ap (λ (all : List ℕ). get_or all one NO_RANK) gets.ranks
      ∙ get_or-set_other old.ranks.items atom one old.next NO_RANK other

  source_here : source_of new atom ≡ number
  source_here =
      ap (λ (all : List ℕ). get_or all atom 0) gets.bodies
      ∙ get_or-set_same old.bodies.items atom number 0
      (omega (arith, is_atom.last, are.sized.bodies))

  source_else : (one : ℕ) → one ≢ atom → source_of new one ≡ source_of old one
  source_else one other =
      ap (λ (all : List ℕ). get_or all one 0) gets.bodies
      ∙ get_or-set_other old.bodies.items atom one number 0 other

  -- atoms of smaller ranks keep theirs
  pub part_more : (rank : ℕ) → rank ≤ old.next
      → IsPart (earlier rank old.ranks.items) (earlier rank new.ranks.items)
  part_more rank most one here =
      let less : rank_of old one < rank = in_earlier rank old.ranks.items one here in
      elim (cases_eq one atom) [
        | inl same ↦
            absurd
            (gets.absent
            (subst (λ it. rank_of old it < old.next) same (omega (arith, less, most))))
        | inr other ↦
            earlier_in rank new.ranks.items one (omega (arith, less, rank_else one other))
            (omega (arith, most, are.sized.next))
      ]

  stands_else : (one source : ℕ) → one ≢ atom → rank_of old one < old.next
      → Stands normal steps old source one → Stands normal steps new source one
  stands_else one source other low stands = record {
    possible = stands.possible;
    fires =
        subst (λ rank. Fires normal steps (earlier rank new.ranks.items) source)
        (sym (rank_else one other))
        (fires_with normal steps (earlier (rank_of old one) old.ranks.items)
        (earlier (rank_of old one) new.ranks.items) source stands.fires
        (part_more (rank_of old one) (omega (arith, low))));
  }

  gets_each : (one : ℕ) → rank_of new one < new.next → HasSource normal steps 0 [] new one
  gets_each one low = elim (cases_eq one atom) [
    | inl same ↦ subst (HasSource normal steps 0 [] new) (sym same) (record {
      head = subst (λ n. IsHead normal n atom) (sym source_here) head;
      stands = inr (inr (subst (λ n. Stands normal steps new n atom) (sym source_here) (record {
        possible = possible;
        fires =
            subst (λ rank. Fires normal steps (earlier rank new.ranks.items) number) (sym rank_here)
            (fires_with normal steps (earlier old.next old.ranks.items)
            (earlier old.next new.ranks.items) number fires (part_more old.next (omega arith)));
      })));
    })
    | inr other ↦
        let low_before : rank_of old one < old.next = before one other low in
        let was = are.each one low_before in
        record {
          head = subst (λ n. IsHead normal n one) (sym (source_else one other)) was.head;
          stands =
              subst
              (λ n. ((n ≡ 0) × Contains [] one)
              ⊎ (Waits new.doubted n ⊎ Stands normal steps new n one))
              (sym (source_else one other))
              (elim was.stands [
                | inl here ↦ inl here
                | inr known ↦ elim known [
                  | inl waits ↦
                      inr
                      (inl
                      (subst (λ (waited : Waited). Waits waited (source_of old one))
                      (sym gets.doubted) waits))
                  | inr stands ↦
                      inr (inr (stands_else one (source_of old one) other low_before stands))
                ]
              ]);
        }
  ]
    where
      before : (one : ℕ) → one ≢ atom → rank_of new one < new.next → rank_of old one < old.next
      before one other low = elim (are.ranked one) [
        | inl low ↦ low
        | inr none ↦
            absurd (omega (arith, none, rank_else one other, low, gets.next, gets.room))
      ]

  pub sources_get : AreSources normal steps new
  sources_get = record {
    sized = record {
      bodies =
          ap length gets.bodies ∙ length-set old.bodies.items atom number ∙ are.sized.bodies;
      ranks = ap length gets.ranks ∙ length-set old.ranks.items atom old.next ∙ are.sized.ranks;
      lost = ap (λ (waited : Waited). length waited.waits) gets.lost ∙ are.sized.lost;
      doubted = ap (λ (waited : Waited). length waited.waits) gets.doubted ∙ are.sized.doubted;
      next = omega (arith, gets.next, gets.room);
    };
    ranked = λ one. elim (cases_eq one atom) [
      | inl same ↦
          inl (subst (λ it. rank_of new it < new.next) (sym same)
          (omega (arith, rank_here, gets.next)))
      | inr other ↦ elim (are.ranked one) [
        | inl low ↦ inl (omega (arith, low, rank_else one other, gets.next))
        | inr none ↦ inr (rank_else one other ∙ none)
      ]
    ];
    each = gets_each;
    rest = λ one one_is none. elim (cases_eq one atom) [
      | inl same ↦
          absurd
          (omega (
            arith,
            none,
            gets.room,
            subst (λ it. rank_of new it ≡ old.next) (sym same) rank_here,
          ))
      | inr other ↦ elim (are.rest one one_is (sym (rank_else one other) ∙ none)) [
        | inl is ↦ inl is
        | inr waits ↦
            inr (subst (λ (waited : Waited). Waits waited one) (sym gets.lost) waits)
      ]
    ];
  }

  -- and the body goes on firing
  pub fires_get : Fires normal steps (earlier new.next new.ranks.items) number
  fires_get =
      fires_with normal steps (earlier old.next old.ranks.items)
      (earlier new.next new.ranks.items) number fires
      (λ one here.
      let less : rank_of new one < old.next =
      in_earlier old.next new.ranks.items one (part_more old.next (omega arith) one here) in
      earlier_in new.next new.ranks.items one (omega (arith, less, gets.next))
      (omega (arith, gets.next, gets.room)))
