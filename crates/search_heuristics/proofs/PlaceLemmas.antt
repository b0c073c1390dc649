-- Places among assumed literals stay right on a trail that grows and goes back.
use Rattle.std.proofs.Common.{◌≡◌, ℕ, ◌+◌, ◌≤◌, max, List, [], ◌∷◌, ◌++◌, length, take}
use Rattle.std.proofs.Common.{get_or, set, sym, ap, ◌∙◌, subst, inl, inr, arith, ⊎_elim, Bool}
use Rattle.std.specs.Prelude.{All, IfNone, nat_le, slice_index}
use Rattle.std.specs.Bool.{then_some}
use Rattle.std.proofs.Math.Dec.{ltb}
use Rattle.std.proofs.lemmas.Bool.{cases_eq, cases_lt, le-leb, lt-leb, le-ltb, lt-ltb}
use Rattle.std.proofs.lemmas.List.{get_or-set_same, get_or-set_other, set_past, get_or_past}
use Rattle.std.proofs.lemmas.List.{take_all}
use Rattle.std.proofs.lemmas.List.Elements.{All-head, All-nil, All-tail, filter-append}
use Rattle.clause_store.specs.declared.literal.Lit.{Lit}
use Rattle.clause_store.specs.declared.literal.Value.TheVariants.{Yes, Unset}
use Rattle.clause_store.specs.declared.step.Step.{Step}
use Rattle.clause_store.specs.Trail.{present_level, up_to, value_of}
use Rattle.clause_store.proofs.BackLemmas.{back_twice}
use Rattle.clause_store.proofs.ReasonLemmas.{up_to_all, up_to_front}
use Rattle.clause_store.proofs.lemmas.Trails.StillLemmas.{values_stay}
use Rattle.search_heuristics.specs.Places.{AreTrueBefore, AreTrueOn, BeginsAtZero}
use Rattle.search_heuristics.specs.Places.{OpensLevel}
use Rattle.search_heuristics.specs.PlaceLaws.{PlacesAfterBack, PlacesWithMore}

-- ---- true literals, and levels

true_stays : (steps added : List Step) (lit : Lit) → value_of steps lit ≡ Yes
    → value_of (steps ++ added) lit ≡ Yes
true_stays steps added lit is = (values_stay steps added lit (λ unset. set_too unset)).value ∙ is
  where
    set_too : value_of steps lit ≡ Unset → ⊥
    set_too unset = cc

-- true literals are true when more assignments come last
pub true_with_more : (steps added : List Step) (lits : List Lit) → AreTrueOn steps lits
    → AreTrueOn (steps ++ added) lits
true_with_more steps added lits are k d within =
    true_stays steps added (get_or lits k d) (are k d within)

present_of_both : (steps added : List Step)
    → present_level (steps ++ added) ≡ max (present_level steps) (present_level added)
present_of_both [] added = omega arith
present_of_both (step ∷ rest) added =
    let later : present_level (rest ++ added) ≡ max (present_level rest) (present_level added) =
    present_of_both rest added in
    omega arith

-- what is left after going back is of that level at most, and of no higher one than before
present_up_to : (level : ℕ) (steps : List Step)
    → (present_level (up_to level steps) ≤ level)
    × (present_level (up_to level steps) ≤ present_level steps)
present_up_to level [] = (omega arith, omega arith)
present_up_to level (step ∷ rest) =
    let later = present_up_to level rest in
    elim (cases_lt level step.level) [
      | inl higher ↦ rw (lt-leb step.level level higher)
          (omega (arith, later.0), omega (arith, later.1))
      | inr lower ↦ rw (le-leb step.level level lower)
          (omega (arith, later.0), omega (arith, later.1))
    ]

-- ---- the trail grows and goes back

present_of_same : (level : ℕ) (steps : List Step) → All (λ step. step.level ≡ level) steps
    → present_level steps ≤ level
present_of_same level [] same = omega arith
present_of_same level (step ∷ rest) same =
    let later : present_level rest ≤ level =
    present_of_same level rest (All-tail (λ s. s.level ≡ level) step rest same) in
    let first : step.level ≡ level = All-head (λ s. s.level ≡ level) step rest same in
    omega arith

pub places_with_more : PlacesWithMore
places_with_more assumed old new added places is same before =
    subst (λ steps. AreTrueBefore assumed steps places) (sym is)
    (record {
      known = λ level low.
          let most : present_level added ≤ present_level old =
          present_of_same (present_level old) added same in
          subst (λ s. AreTrueOn s (take (slice_index places level) assumed))
          (sym (filter-append (λ s. nat_le s.level level) old added))
          (true_with_more (up_to level old) (up_to level added)
          (take (slice_index places level) assumed)
          (before.known level (omega (arith, low, most, present_of_both old added))));
    })

pub places_after_back : PlacesAfterBack
places_after_back assumed old new level places is before =
    subst (λ steps. AreTrueBefore assumed steps places) (sym is)
    (record {
      known = λ at low.
          let present = present_up_to level old in
          let below : at ≤ level = omega (arith, low, present.0) in
          subst (λ s. AreTrueOn s (take (slice_index places at) assumed))
          (sym (back_twice at level old below))
          (before.known at (omega (arith, low, present.1)));
    })

-- ---- a place is kept

-- a place that was written, or 0 where there was no room
read_kept : (P : ℕ → Type 0) (places : List ℕ) (level place : ℕ) → P 0 → P place
    → P (slice_index (set places level place) level)
read_kept P places level place zero is =
    elim (cases_lt level (length places)) [
      | inl room ↦ subst P (sym (get_or-set_same places level place 0 room)) is
      | inr past ↦ subst P
          (sym (ap (λ ps. slice_index ps level) (set_past places level place past)
          ∙ get_or_past places level 0 past)) zero
    ]

none_true : (steps : List Step) (assumed : List Lit) → AreTrueOn steps (take 0 assumed)
none_true steps assumed = All-nil (λ lit. value_of steps lit ≡ Yes)

-- at level 0 none is known to be true
pub begins_at_zero : (places : List ℕ) → BeginsAtZero (set places 0 0)
begins_at_zero places assumed steps zero =
    record { known = λ level low. at level (omega (arith, low, zero)) }
  where
    at : (level : ℕ) → 0 ≡ level
        → AreTrueOn (up_to level steps) (take (slice_index (set places 0 0) level) assumed)
    at level first =
        subst (λ n. AreTrueOn (up_to n steps) (take (slice_index (set places 0 0) n) assumed)) first
        (read_kept (λ place. AreTrueOn (up_to 0 steps) (take place assumed)) places 0 0
        (none_true (up_to 0 steps) assumed) (none_true (up_to 0 steps) assumed))

-- at the present level the literals before another place are true
pub before_kept : (assumed : List Lit) (steps : List Step) (places : List ℕ) (place : ℕ)
    → AreTrueBefore assumed steps places → AreTrueOn steps (take place assumed)
    → AreTrueBefore assumed steps (set places (present_level steps) place)
before_kept assumed steps places place before are = record { known = at }
  where
    at : (level : ℕ) → level ≤ present_level steps
        → AreTrueOn (up_to level steps)
        (take (slice_index (set places (present_level steps) place) level) assumed)
    at level low =
        elim (cases_eq level (present_level steps)) [
          | inl present ↦
              let all : up_to level steps ≡ steps = up_to_all level steps (omega arith) in
              subst
              (λ n. AreTrueOn (up_to level steps)
              (take (slice_index (set places n place) level) assumed)) present
              (read_kept (λ p. AreTrueOn (up_to level steps) (take p assumed)) places level place
              (none_true (up_to level steps) assumed)
              (subst (λ s. AreTrueOn s (take place assumed)) (sym all) are))
          | inr other ↦
              subst (λ p. AreTrueOn (up_to level steps) (take p assumed))
              (sym (get_or-set_other places (present_level steps) level place 0 other))
              (before.known level low)
        ]

-- the place of the present level is right for all assignments
pub before_present : (assumed : List Lit) (steps : List Step) (places : List ℕ)
    → AreTrueBefore assumed steps places
    → AreTrueOn steps (take (slice_index places (present_level steps)) assumed)
before_present assumed steps places before =
    subst (λ s. AreTrueOn s (take (slice_index places (present_level steps)) assumed))
    (up_to_all (present_level steps) steps (omega arith))
    (before.known (present_level steps) (omega arith))

-- a new level begins with the place of the one below
pub opens_level : (steps : List Step) (places : List ℕ)
    → OpensLevel steps places
    (set places (present_level steps + 1) (slice_index places (present_level steps)))
opens_level steps places assumed decided above before = record { known = at }
  where
    at : (level : ℕ) → level ≤ present_level (steps ++ decided ∷ [])
        → AreTrueOn (up_to level (steps ++ decided ∷ []))
        (take
        (slice_index
        (set places (present_level steps + 1) (slice_index places (present_level steps))) level)
        assumed)
    at level low =
        let top : present_level (steps ++ decided ∷ [])
        ≡ max (present_level steps) (present_level (decided ∷ []))
        = present_of_both steps (decided ∷ []) in
        let place : ℕ = slice_index places (present_level steps) in
        elim (cases_eq level (present_level steps + 1)) [
          | inl new ↦
              subst
              (λ n. AreTrueOn (up_to level (steps ++ decided ∷ []))
              (take (slice_index (set places n place) level) assumed)) new
              (read_kept
              (λ p. AreTrueOn (up_to level (steps ++ decided ∷ [])) (take p assumed)) places level
              place (none_true (up_to level (steps ++ decided ∷ [])) assumed)
              (subst (λ s. AreTrueOn s (take place assumed))
              (sym (up_to_all level (steps ++ decided ∷ []) (omega (arith, top, above, new))))
              (true_with_more steps (decided ∷ []) (take place assumed)
              (before_present assumed steps places before))))
          | inr old ↦
              subst (λ p. AreTrueOn (up_to level (steps ++ decided ∷ [])) (take p assumed))
              (sym (get_or-set_other places (present_level steps + 1) level place 0 old))
              (subst (λ s. AreTrueOn s (take (slice_index places level) assumed))
              (sym (up_to_front level steps decided (omega (arith, top, above, low, old))))
              (before.known level (omega (arith, top, above, low, old))))
        ]

-- ---- the first literal that isn't true

-- where the place is past the literals all are true
pub all_true : (steps : List Step) (lits : List Lit) (at : ℕ) → length lits ≤ at
    → AreTrueOn steps (take at lits) → AreTrueOn steps lits
all_true steps lits at past are = subst (AreTrueOn steps) (take_all at lits past) are

-- where no place is next all literals are true
pub none_past : (steps : List Step) (lits : List Lit) (at : ℕ) → AreTrueOn steps (take at lits)
    → IfNone (then_some (ltb at (length lits)) at) (AreTrueOn steps lits)
none_past steps lits at are =
    ⊎_elim (λ before. subst goal (sym (lt-ltb at (length lits) before)) tt)
    (λ past. subst goal (sym (le-ltb at (length lits) past)) (all_true steps lits at past are))
    (cases_lt at (length lits))
  where
    goal : Bool → Type 0
    goal is = IfNone (then_some is at) (AreTrueOn steps lits)
