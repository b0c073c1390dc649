-- What looking at doubted bodies and lost atoms comes to.
use Rattle.std.proofs.Common.{◌≡◌, ◌≤◌, ◌<◌, ◌+◌, ◌*◌, ℕ, Bool, false, List, []}
use Rattle.std.proofs.Common.{length, get_or, set, refl, sym, ap, ◌∙◌, subst, inl, inr, arith}
use Rattle.std.proofs.Common.{length-set, slice_get}
use Rattle.std.specs.Prelude.{All, Contains}
use Rattle.std.proofs.lemmas.Bool.{cases_eq, cases_lt, both_ways}
use Rattle.std.proofs.lemmas.List.{get_or-set_other, get_or_past, get_or_default}
use Rattle.std.proofs.lemmas.Nat.{mul-le}
use Rattle.std.proofs.lemmas.Option.{slice_get_within}
use Rattle.item_list.proofs.ListLemmas.{IsSomeAnd-found}
use Rattle.clause_store.specs.declared.step.Step.{Step}
use Rattle.clause_store.specs.Standing.{IsFalse}
use Rattle.normal_program.specs.declared.normal.BodyOf.{BodyOf}
use Rattle.normal_program.specs.declared.normal.NormalRule.{NormalRule}
use Rattle.normal_program.specs.declared.normal.Normal.{Normal}
use Rattle.normal_program.specs.Clauses.{positive}
use Rattle.normal_program.specs.Loop.{IsAtomOf}
use Rattle.normal_program.specs.Range.{IsInRange}
use Rattle.unfounded_sets.specs.declared.places.Places.{Places}
use Rattle.unfounded_sets.specs.declared.sources.Sources.{Sources}
use Rattle.unfounded_sets.specs.Found.{AreFounded}
use Rattle.unfounded_sets.specs.Waits.{Waited}
use Rattle.unfounded_sets.specs.Placed.{ArePlaces, Has, IsHead, StandsAt}
use Rattle.unfounded_sets.specs.Sources.{rank_of, source_of, Waits, Stands, AreSourcesBut}
use Rattle.unfounded_sets.specs.Sources.{AreSources, Drops, LooksAt, IsSettledAtom, held, work}
use Rattle.unfounded_sets.specs.Sources.{Fires, earlier, MayGetSource}
use Rattle.unfounded_sets.proofs.SourceLemmas.{all_founded}
use Rattle.unfounded_sets.proofs.KeepLemmas.{sources_same}
use Rattle.unfounded_sets.proofs.FollowLemmas.{sources_next, sources_drop, sources_get, fires_get}

-- ---- where things are

-- a head of a body is an atom, and the body is there
pub head_atom : (normal : Normal) (number atom : ℕ) → IsInRange normal → IsHead normal number atom
    → IsAtomOf normal atom
head_atom normal number atom range (k, rule, within, at, here) =
    let (j, inside, is) = here.1 in
    subst (IsAtomOf normal) is
    (subst (λ (it : NormalRule). All (IsAtomOf normal) it.heads) at (range.heads k rule within) j
    atom inside)

pub head_body : (normal : Normal) (number atom : ℕ) → IsInRange normal → IsHead normal number atom
    → number < length normal.bodies
head_body normal number atom range (k, rule, within, at, here) =
    subst (λ n. n < length normal.bodies) here.0
    (subst (λ (it : NormalRule). it.body < length normal.bodies) at (range.numbers k rule within))

-- a body of a list of occurrences is there
pub occurrence_body : (normal : Normal) (places : Places) (code number : ℕ)
    → ArePlaces normal places → Has places.occurrences code number
    → number < length normal.bodies
occurrence_body normal places code number stand has =
    let (body, here, at) =
    IsSomeAnd-found (λ (body : BodyOf). StandsAt body.parts code) (slice_get normal.bodies number)
    ((stand.occurrences code number).0 has) in
    slice_get_within normal.bodies number body here

-- ---- doubted bodies

nothing_left : {x : ℕ} → Contains [] x → ⊥
nothing_left (k, low, at) = omega (arith, low)

-- all heads were looked at
pub sources_done : (normal : Normal) (steps : List Step) (number : ℕ) (it : Sources)
    → AreSourcesBut normal steps number [] it → AreSources normal steps it
sources_done normal steps number it are =
    sources_same normal steps steps number 0 [] [] it it are refl refl refl refl refl
    (λ lit is. is)
    (λ atom low head known. elim known [
      | inl here ↦ absurd (nothing_left here.1)
      | inr waits ↦ inr (inl waits)
    ])
    are.rest

-- another state of the hints
pub sources_hints : (normal : Normal) (steps : List Step) (old new : Sources)
    → AreSources normal steps old → new ≡ record old { hints = new.hints }
    → AreSources normal steps new
sources_hints normal steps old new are same =
    sources_same normal steps steps 0 0 [] [] old new are
    (ap (λ (it : Sources). it.bodies) same) (ap (λ (it : Sources). it.ranks) same)
    (ap (λ (it : Sources). it.next) same) (ap (λ (it : Sources). length it.lost.waits) same)
    (ap (λ (it : Sources). length it.doubted.waits) same) (λ lit is. is)
    (λ atom low head known. elim known [
      | inl here ↦ inl here
      | inr waits ↦
          inr
          (inl
          (subst (λ (waited : Waited). Waits waited (source_of old atom))
          (sym (ap (λ (it : Sources). it.doubted) same)) waits))
    ])
    (λ atom is_atom none. elim (are.rest atom is_atom none) [
      | inl is ↦ inl is
      | inr waits ↦
          inr
          (subst (λ (waited : Waited). Waits waited atom)
          (sym (ap (λ (it : Sources). it.lost) same)) waits)
    ])

pub hints_doubted : (old new : Sources) → new ≡ record old { hints = new.hints }
    → new.doubted ≡ old.doubted
hints_doubted old new same = ap (λ (it : Sources). it.doubted) same

work_less : (old new : Sources) → held new < held old
    → length new.doubted.waits ≡ length old.doubted.waits
    → new.doubted.left ≤ length new.doubted.waits → work new ≤ work old
work_less old new less count few =
    let bodies : ℕ = length old.doubted.waits in
    let more : (held new + 1) * (bodies + 1) ≤ held old * (bodies + 1) =
    mul-le (held new + 1) (bodies + 1) (held old) (bodies + 1) (omega (arith, less)) (omega arith)
    in
    let apart : (held new + 1) * (bodies + 1) ≡ held new * (bodies + 1) + (bodies + 1) =
    grind arith in
    let same : held new * (length new.doubted.waits + 1) ≡ held new * (bodies + 1) =
    ap (λ n. held new * (n + 1)) count in
    omega (arith, more, apart, same, count, few)

pub work_settled : (old new : Sources) → new.ranks ≡ old.ranks → new.next ≡ old.next
    → length new.doubted.waits ≡ length old.doubted.waits
    → new.doubted.left + 1 ≡ old.doubted.left → work new + 1 ≡ work old
work_settled old new ranks next count left =
    let same : held new ≡ held old =
    ap (λ v. held (record new { ranks = v })) ranks
    ∙ ap (λ n. held (record new { ranks = old.ranks; next = n })) next in
    let product : held new * (length new.doubted.waits + 1)
    ≡ held old * (length old.doubted.waits + 1) =
    ap (λ n. n * (length new.doubted.waits + 1)) same
    ∙ ap (λ n. held old * (n + 1)) count in
    omega (arith, product, left)

-- a head has another source, none, or one that stands
pub looks_stay : (normal : Normal) (steps : List Step) (number head : ℕ) (it : Sources)
    → (rank_of it head < it.next → source_of it head ≡ number
    → Stands normal steps it number head)
    → LooksAt normal steps number head it it
looks_stay normal steps number head it stands = record {
  kept = λ rest are. sources_next normal steps number head rest it are stands;
  few = λ few. few;
  nearer = λ few. omega arith;
}

-- its source was taken away
pub looks_drop : (normal : Normal) (steps : List Step) (places : Places) (number head : ℕ)
    (old new : Sources) → ArePlaces normal places → Drops places.occurrences head old new
    → rank_of old head < old.next → LooksAt normal steps number head old new
looks_drop normal steps places number head old new stand drops low = record {
  kept = λ rest are.
      sources_drop normal steps places number head rest old new stand are drops;
  few = drops.less.doubted.few;
  nearer = λ few.
      work_less old new (drops.nearer low) drops.less.doubted.count (drops.less.doubted.few few);
}

-- ---- lost atoms

-- an atom that has a source or is false is lost no more
pub sources_found : (normal : Normal) (steps : List Step) (atom : ℕ) (old new : Sources)
    → AreSources normal steps old → IsSettledAtom normal steps old atom
    → new.bodies ≡ old.bodies → new.ranks ≡ old.ranks → new.next ≡ old.next
    → new.doubted ≡ old.doubted → new.lost.waits ≡ set old.lost.waits atom false
    → AreSources normal steps new
sources_found normal steps atom old new are settled bodies ranks next doubted lost =
    sources_same normal steps steps 0 0 [] [] old new are bodies ranks next
    (ap length lost ∙ length-set old.lost.waits atom false)
    (ap (λ (waited : Waited). length waited.waits) doubted) (λ lit is. is)
    (λ one low head known. elim known [
      | inl here ↦ inl here
      | inr waits ↦
          inr
          (inl
          (subst (λ (waited : Waited). Waits waited (source_of old one)) (sym doubted) waits))
    ])
    (λ one is_atom none. elim (are.rest one is_atom none) [
      | inl is ↦ inl is
      | inr waits ↦ elim (cases_eq one atom) [
        | inl same ↦ elim (subst (IsSettledAtom normal steps old) (sym same) settled is_atom) [
          | inl low ↦ absurd (omega (arith, low, none, are.sized.next))
          | inr is ↦ inl is
        ]
        | inr other ↦
            inr
            (ap (λ (all : List Bool). get_or all one false) lost
            ∙ get_or-set_other old.lost.waits atom one false false other ∙ waits)
      ]
    ])

-- where no body is doubted and no atom lost, all that isn't false is founded
pub are_founded : (normal : Normal) (steps : List Step) (it : Sources) → AreSources normal steps it
    → All (λ waits. waits ≡ false) it.doubted.waits → All (λ waits. waits ≡ false) it.lost.waits
    → AreFounded normal steps
are_founded normal steps it are undoubted none atom is_atom possible = elim (are.ranked atom) [
  | inl low ↦ all_founded normal steps it are undoubted atom low
  | inr without ↦ elim (are.rest atom is_atom without) [
    | inl is ↦ absurd (possible is)
    | inr waits ↦ elim (cases_lt atom (length it.lost.waits)) [
      | inl within ↦
          absurd
          (both_ways (get_or it.lost.waits atom false) (none atom false within) waits)
      | inr past ↦
          absurd
          (both_ways (get_or it.lost.waits atom false)
          (get_or_past it.lost.waits atom false past) waits)
    ]
  ]
]

-- ---- atoms that may get a source

module _ (normal : Normal) (steps : List Step) (atom number : ℕ) (old new : Sources)
    (are : AreSources normal steps old) (head : IsHead normal number atom)
    (is_atom : IsAtomOf normal atom) (possible : ¬ IsFalse steps (positive atom))
    (fires : Fires normal steps (earlier old.next old.ranks.items) number)
    (may : MayGetSource atom number old new) where
  pub sources_may_get : AreSources normal steps new
  sources_may_get = elim may [
    | inl same ↦ subst (AreSources normal steps) (sym same) are
    | inr gets ↦
        sources_get normal steps atom number old new are head is_atom possible fires gets
  ]

  pub fires_may_get : Fires normal steps (earlier new.next new.ranks.items) number
  fires_may_get = elim may [
    | inl same ↦
        subst
        (λ (it : Sources). Fires normal steps (earlier it.next it.ranks.items) number) (sym same)
        fires
    | inr gets ↦
        fires_get normal steps atom number old new are head is_atom possible fires gets
  ]

  pub doubted_may_get : new.doubted ≡ old.doubted
  doubted_may_get = elim may [
    | inl same ↦ ap (λ (it : Sources). it.doubted) same
    | inr gets ↦ gets.doubted
  ]

-- an item that is read stands in its list
pub item_has : (lists : List (List ℕ)) (place : ℕ) (items : List ℕ) (at : ℕ)
    → items ≡ get_or lists place [] → at < length items → Has lists place (get_or items at 0)
item_has lists place items at is low =
    subst (λ (all : List ℕ). Contains all (get_or items at 0)) is
    (at, low, get_or_default items at (get_or items at 0) 0 low)
