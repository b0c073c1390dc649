-- Which assignments are followed when a trail grows and when it goes back.
use Rattle.std.proofs.Common.{◌≡◌, ℕ, ◌<◌, ◌≤◌, min, List, [], ◌∷◌, ◌++◌, length, map, take, refl}
use Rattle.std.proofs.Common.{sym}
use Rattle.std.proofs.Common.{ap, ◌∙◌, subst, inl, inr, arith}
use Rattle.std.proofs.lemmas.Bool.{cases_lt, le-leb, lt-leb}
use Rattle.std.proofs.lemmas.List.{length-map, length-take, take-append-le, take-map, take-take}
use Rattle.std.proofs.lemmas.List.{take_all}
use Rattle.clause_store.specs.declared.step.Step.{Step}
use Rattle.clause_store.specs.Trail.{Assigned, IsTrail, present_level, up_to}
use Rattle.clause_store.specs.Standing.{Followed, AreFollowed, GoesBack, as_followed}
use Rattle.clause_store.specs.FollowedLaws.{FollowedWithMore, FollowedAfterBack}
use Rattle.clause_store.specs.FollowedLaws.{FollowedHasGoneBack}
use Rattle.clause_store.specs.FollowedLaws.{GoneBackFurther}
use Rattle.clause_store.proofs.BackLemmas.{back_twice, front_after_back}
use Rattle.clause_store.proofs.ReasonLemmas.{up_to_all}

-- no more assignments are followed than the trail has
pub followed_fit : (steps : List Step) (followed : List Followed) → AreFollowed steps followed
    → length followed ≤ length steps
followed_fit steps followed are =
    omega (
      arith,
      ap length are,
      length-map (take (length followed) steps) as_followed,
      length-take (length followed) steps,
    )

pub followed_with_more : FollowedWithMore
followed_with_more steps added followed are =
    are
    ∙ ap (map as_followed)
    (sym (take-append-le (length followed) steps added (followed_fit steps followed are)))

-- a part of a front is a front
take_twice : {X : Type 0} (few many : ℕ) (xs : List X)
    → take few (take many xs) ≡ take (min few many) xs
take_twice few many xs =
    elim (cases_lt many few) [
      | inl more ↦
          let less : min few many ≡ many = omega arith in
          rw less (take_all few (take many xs) (omega (arith, length-take many xs)))
      | inr within ↦
          let less : min few many ≡ few = omega arith in
          rw less (take-take few many xs within)
    ]

pub followed_after_back : FollowedAfterBack
followed_after_back trail followed gone =
    ap (take count) gone.were_followed ∙ take-map as_followed count (take many gone.earlier)
    ∙ ap (map as_followed)
    (take_twice count many gone.earlier ∙ ap (take (min count many)) whole
    ∙ take-append-le (min count many) trail.steps front.0 (omega arith)
    ∙ ap (λ n. take n trail.steps) (sym (length-take count followed)))
  where
    count : ℕ
    count = length trail.steps

    many : ℕ
    many = length followed

    front : (rest : List Step) × (gone.earlier ≡ up_to gone.level gone.earlier ++ rest)
    front = front_after_back (record trail { steps = gone.earlier }) gone.level gone.was_trail

    whole : gone.earlier ≡ trail.steps ++ front.0
    whole = front.1 ∙ ap (λ steps. steps ++ front.0) (sym gone.went_back)

pub followed_has_gone_back : FollowedHasGoneBack
followed_has_gone_back trail followed is are =
    record {
      earlier = trail.steps;
      level = present_level trail.steps;
      was_trail = is;
      were_followed = are;
      went_back = sym (up_to_all (present_level trail.steps) trail.steps (omega arith));
    }

-- all that is left is of a lower level
up_to_above : (one two : ℕ) (steps : List Step) → two < one
    → up_to one (up_to two steps) ≡ up_to two steps
up_to_above one two [] above = refl
up_to_above one two (step ∷ rest) above =
    elim (cases_lt two step.level) [
      | inl higher ↦ rw (lt-leb step.level two higher) (up_to_above one two rest above)
      | inr low ↦
          rw (le-leb step.level two low)
          (rw (le-leb step.level one (omega (arith, low, above)))
          (ap (λ later. step ∷ later) (up_to_above one two rest above)))
    ]

-- going back twice is going back to the lower of the two levels
up_to_twice : (one two : ℕ) (steps : List Step)
    → up_to one (up_to two steps) ≡ up_to (min one two) steps
up_to_twice one two steps =
    elim (cases_lt two one) [
      | inl above ↦
          let low : min one two ≡ two = omega arith in
          rw low (up_to_above one two steps above)
      | inr below ↦
          let low : min one two ≡ one = omega arith in
          rw low (back_twice one two steps below)
    ]

pub gone_back_further : GoneBackFurther
gone_back_further old new level followed gone back =
    record {
      earlier = gone.earlier;
      level = min level gone.level;
      was_trail =
          subst (λ trail. IsTrail (record { vars = trail.vars; steps = gone.earlier })) (sym back)
          gone.was_trail;
      were_followed = gone.were_followed;
      went_back =
          ap (λ trail. trail.steps) back ∙ ap (up_to level) gone.went_back
          ∙ up_to_twice level gone.level gone.earlier;
    }

-- whatever was followed before a trail went back has gone back
pub goes_back : (old new : Assigned) (level : ℕ) → IsTrail old
    → new ≡ record old { steps = up_to level old.steps } → GoesBack old new
goes_back old new level is back followed are =
    record {
      earlier = old.steps;
      level = level;
      was_trail =
          subst (λ trail. IsTrail (record { vars = trail.vars; steps = old.steps })) (sym back) is;
      were_followed = are;
      went_back = ap (λ trail. trail.steps) back;
    }
