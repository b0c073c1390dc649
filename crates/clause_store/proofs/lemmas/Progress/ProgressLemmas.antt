-- Progress rises with each turn of a search.
use Rattle.std.proofs.Common.{◌≡◌, ◌≢◌, ℕ, ◌+◌, ◌<◌, ◌≤◌, max, Bool, true, false}
use Rattle.std.proofs.Common.{List, [], ◌∷◌, ◌++◌, length, refl, sym, ap, ◌∙◌, subst}
use Rattle.std.proofs.Common.{inl, inr, arith, get_or, length-append}
use Rattle.std.specs.Prelude.{All}
use Rattle.std.proofs.lemmas.Bool.{cases_eq, cases_lt, eq-eqb, ne_eqb, le-leb, lt-leb, false≢true}
use Rattle.std.proofs.lemmas.List.{append-nil, get_or_append_left}
use Rattle.std.proofs.lemmas.List.Elements.{All-cons, All-nil, All-weaker, All-head, All-tail}
use Rattle.clause_store.specs.declared.step.Step.{Step}
use Rattle.clause_store.specs.Clause.{variable, IsOver}
use Rattle.clause_store.specs.Trail.{Assigned, IsTrail, RisesFrom, up_to, present_level}
use Rattle.clause_store.specs.Progress.{count_at, level_digit, progress, HasGoneOn}
use Rattle.clause_store.specs.ProgressLaws.{ProgressIsBounded, ProgressRises}
use Rattle.clause_store.specs.ProgressLaws.{ProgressRisesAfterBack, PresentAfterBack}
use Rattle.clause_store.proofs.BackLemmas.{rises_above}
use Rattle.clause_store.proofs.lemmas.Progress.CountLemmas.{numeral_less, numeral_small}
use Rattle.clause_store.proofs.lemmas.Progress.CountLemmas.{count_append, count_none}
use Rattle.clause_store.proofs.lemmas.Progress.CountLemmas.{count_first, count_few, count_up_to}
use Rattle.clause_store.proofs.StepLemmas.{end_level, trail_fits, level_fits, next_level-ge}
use Rattle.clause_store.proofs.StepLemmas.{next_level-le}

-- ---- digits

digit_count : (vars : ℕ) (conflict : Bool) (steps : List Step) (level : ℕ)
    → level ≢ present_level steps → level_digit vars conflict steps level ≡ count_at steps level
digit_count vars false steps level other = refl
digit_count vars true steps level other = rw (ne_eqb level (present_level steps) other) refl

digit_at_conflict : (vars : ℕ) (steps : List Step)
    → level_digit vars true steps (present_level steps) ≡ vars + 1
digit_at_conflict vars steps = rw (eq-eqb (present_level steps) (present_level steps) refl) refl

count_fits : (trail : Assigned) (level : ℕ) → IsTrail trail
    → count_at trail.steps level ≤ trail.vars
count_fits trail level is =
    let few : count_at trail.steps level ≤ length trail.steps = count_few trail.steps level in
    let fits : length trail.steps ≤ trail.vars = trail_fits trail is in
    omega arith

digit_above : (trail : Assigned) (conflict : Bool) (level : ℕ) → IsTrail trail
    → count_at trail.steps level ≤ level_digit trail.vars conflict trail.steps level
digit_above trail false level is = omega arith
digit_above trail true level is =
    let few : count_at trail.steps level ≤ trail.vars = count_fits trail level is in
    elim (cases_eq level (present_level trail.steps)) [
      | inl same ↦ rw (eq-eqb level (present_level trail.steps) same) (omega arith)
      | inr other ↦ rw (ne_eqb level (present_level trail.steps) other) (omega arith)
    ]

digit_small : (trail : Assigned) (conflict : Bool) (level : ℕ) → IsTrail trail
    → level_digit trail.vars conflict trail.steps level < trail.vars + 2
digit_small trail false level is =
    let few : count_at trail.steps level ≤ trail.vars = count_fits trail level is in omega arith
digit_small trail true level is =
    let few : count_at trail.steps level ≤ trail.vars = count_fits trail level is in
    elim (cases_eq level (present_level trail.steps)) [
      | inl same ↦ rw (eq-eqb level (present_level trail.steps) same) (omega arith)
      | inr other ↦ rw (ne_eqb level (present_level trail.steps) other) (omega arith)
    ]

pub progress_is_bounded : ProgressIsBounded
unfolding progress
progress_is_bounded trail conflict is =
    numeral_small (trail.vars + 2) (level_digit trail.vars conflict trail.steps) (trail.vars + 1)
    (λ level within. digit_small trail conflict level is)

-- ---- the first level that differs

-- a trail comes further where the levels below one count the same and this one counts more
further : (old new : Assigned) (old_conflict new_conflict : Bool) (level : ℕ) → IsTrail old
    → new.vars ≡ old.vars → level ≤ old.vars
    → ((low : ℕ) → low < level
    → level_digit old.vars old_conflict old.steps low
    ≡ level_digit old.vars new_conflict new.steps low)
    → level_digit old.vars old_conflict old.steps level
    < level_digit old.vars new_conflict new.steps level
    → progress old.vars old_conflict old.steps < progress new.vars new_conflict new.steps
unfolding progress
further old new old_conflict new_conflict level is vars within same more =
    subst (λ v. progress old.vars old_conflict old.steps < progress v new_conflict new.steps)
    (sym vars)
    (numeral_less (old.vars + 2) (level_digit old.vars old_conflict old.steps)
    (level_digit old.vars new_conflict new.steps) level (old.vars + 1) same more (omega arith)
    (λ place below. digit_small old old_conflict place is))

-- ---- what comes last

rises_rest : (start : ℕ) (steps added : List Step) → RisesFrom start (steps ++ added)
    → RisesFrom (end_level start steps) added
rises_rest start [] added rises = rises
rises_rest start (step ∷ steps) added rises = rises_rest step.level steps added rises.1

rises_to : (start : ℕ) (steps added : List Step) → RisesFrom start (steps ++ added)
    → RisesFrom start steps
rises_to start [] added rises = tt
rises_to start (step ∷ steps) added rises = (rises.0, rises_to step.level steps added rises.1)

-- a trail's front is a trail
front_is_trail : (old new : Assigned) (added : List Step) → IsTrail new → new.vars ≡ old.vars
    → new.steps ≡ old.steps ++ added → IsTrail old
front_is_trail old new added is vars steps =
    record {
      over =
          λ k d within. subst (λ s. IsOver old.vars s.lit) (at k d within)
          (subst (λ v. IsOver v (get_or (old.steps ++ added) k d).lit) vars
          (whole.over k d (omega (arith, within, length-append old.steps added))));
      once =
          λ i j d before within.
          let first : i < length old.steps = omega arith in
          subst (λ s. variable s.lit ≢ variable (get_or old.steps j d).lit) (at i d first)
          (subst (λ s. variable (get_or (old.steps ++ added) i d).lit ≢ variable s.lit)
          (at j d within)
          (whole.once i j d before (omega (arith, within, length-append old.steps added))));
      levels = rises_to 0 old.steps added whole.levels;
    }
  where
    at : (k : ℕ) (d : Step) → k < length old.steps
        → get_or (old.steps ++ added) k d ≡ get_or old.steps k d
    at k d within = get_or_append_left old.steps added d k within

    whole : IsTrail (record { vars = new.vars; steps = old.steps ++ added })
    whole = subst (λ s. IsTrail (record { vars = new.vars; steps = s })) steps is

present_append : (steps added : List Step)
    → present_level (steps ++ added) ≡ max (present_level steps) (present_level added)
present_append [] added = omega arith
present_append (step ∷ steps) added =
    let rest : present_level (steps ++ added) ≡ max (present_level steps) (present_level added) =
    present_append steps added in
    omega arith

-- assignments that come last count for no level below them
count_below : (steps added : List Step) (level low : ℕ) → All (λ s. level ≤ s.level) added
    → low < level → count_at (steps ++ added) low ≡ count_at steps low
count_below steps added level low above lower =
    let none : count_at added low ≡ 0 =
    count_none added low
    (All-weaker (λ s. level ≤ s.level) (λ s. s.level ≢ low) (λ s high same. omega arith) added
    above) in
    let all : count_at (steps ++ added) low ≡ count_at steps low + count_at added low =
    count_append steps added low in
    omega (arith, none, all)

-- and the first of them counts for its own
count_more : (steps rest : List Step) (step : Step)
    → count_at steps step.level < count_at (steps ++ step ∷ rest) step.level
count_more steps rest step =
    let some : 1 ≤ count_at (step ∷ rest) step.level = count_first step rest in
    let all : count_at (steps ++ step ∷ rest) step.level
    ≡ count_at steps step.level + count_at (step ∷ rest) step.level =
    count_append steps (step ∷ rest) step.level in
    omega (arith, some, all)

-- ---- turns

-- a conflict that is found where levels below it count as they did
found_conflict : (old new : Assigned) (old_conflict : Bool) → IsTrail old → IsTrail new
    → new.vars ≡ old.vars
    → level_digit old.vars old_conflict old.steps (present_level new.steps)
    ≡ count_at old.steps (present_level new.steps)
    → ((low : ℕ) → low < present_level new.steps
    → level_digit old.vars old_conflict old.steps low ≡ count_at new.steps low)
    → progress old.vars old_conflict old.steps < progress new.vars true new.steps
found_conflict old new old_conflict is_old is_new vars here below =
    let few : count_at old.steps (present_level new.steps) ≤ old.vars =
    count_fits old (present_level new.steps) is_old in
    let all : level_digit old.vars true new.steps (present_level new.steps) ≡ old.vars + 1 =
    digit_at_conflict old.vars new.steps in
    let fits : present_level new.steps ≤ new.vars = level_fits new is_new in
    further old new old_conflict true (present_level new.steps) is_old vars (omega (arith, vars))
    (λ low lower. below low lower
    ∙ sym (digit_count old.vars true new.steps low (λ same. omega arith)))
    (omega (arith, few, all, here))

-- assignments of a level and above it come last, whether a conflict is found or not
came_last : (old new : Assigned) (old_conflict new_conflict : Bool) (level : ℕ) → IsTrail old
    → IsTrail new → new.vars ≡ old.vars → level ≤ present_level new.steps
    → level_digit old.vars old_conflict old.steps level ≡ count_at old.steps level
    → count_at old.steps level < count_at new.steps level
    → ((low : ℕ) → low < level
    → level_digit old.vars old_conflict old.steps low ≡ count_at new.steps low)
    → progress old.vars old_conflict old.steps < progress new.vars new_conflict new.steps
came_last old new old_conflict new_conflict level is_old is_new vars within here more below =
    let fits : present_level new.steps ≤ new.vars = level_fits new is_new in
    let most : count_at new.steps level ≤ level_digit old.vars new_conflict new.steps level =
    subst (λ v. count_at new.steps level ≤ level_digit v new_conflict new.steps level) vars
    (digit_above new new_conflict level is_new) in
    further old new old_conflict new_conflict level is_old vars (omega (arith, vars))
    (λ low lower. below low lower
    ∙ sym (digit_count old.vars new_conflict new.steps low (λ same. omega (arith, within))))
    (omega (arith, here, more, most))

-- the present level is at least that of each assignment
present_of_first : (steps rest : List Step) (step : Step)
    → step.level ≤ present_level (steps ++ step ∷ rest)
present_of_first steps rest step =
    let all : present_level (steps ++ step ∷ rest)
    ≡ max (present_level steps) (present_level (step ∷ rest)) =
    present_append steps (step ∷ rest) in
    omega (arith, all)

rises : (old new : Assigned) (added : List Step) (conflict : Bool) → IsTrail old → IsTrail new
    → new.vars ≡ old.vars → new.steps ≡ old.steps ++ added → HasGoneOn added conflict
    → progress old.vars false old.steps < progress new.vars conflict new.steps
rises old new [] false is_old is_new vars steps gone =
    elim gone [ inl some ↦ absurd (omega (arith, some)) | inr found ↦ absurd (false≢true found) ]
rises old new [] true is_old is_new vars steps gone =
    found_conflict old new false is_old is_new vars refl
    (λ low lower. ap (λ s. count_at s low) (sym (steps ∙ append-nil old.steps)))
rises old new (step ∷ rest) conflict is_old is_new vars steps gone =
    let above : All (λ s. step.level ≤ s.level) (step ∷ rest) =
    All-cons (λ s. step.level ≤ s.level) step rest (omega arith)
    (rises_above step.level rest
    (rises_rest 0 old.steps (step ∷ rest)
    (subst (RisesFrom 0) steps is_new.levels)).1) in
    came_last old new false conflict step.level is_old is_new vars
    (subst (λ s. step.level ≤ present_level s) (sym steps)
    (present_of_first old.steps rest step)) refl
    (subst (λ s. count_at old.steps step.level < count_at s step.level) (sym steps)
    (count_more old.steps rest step))
    (λ low lower.
    sym
    (ap (λ s. count_at s low) steps
    ∙ count_below old.steps (step ∷ rest) step.level low above lower))

pub progress_rises : ProgressRises
progress_rises old new added conflict is vars steps gone =
    rises old new added conflict (front_is_trail old new added is vars steps) is vars steps gone

-- ---- going back

-- after going back the present level is not above the level
present_below : (level : ℕ) (steps added : List Step) → All (λ s. s.level ≡ level) added
    → present_level (up_to level steps ++ added) ≤ level
present_below level [] [] at = omega arith
present_below level [] (step ∷ rest) at =
    let first : step.level ≡ level = All-head (λ s. s.level ≡ level) step rest at in
    let later : present_level rest ≤ level =
    present_below level [] rest (All-tail (λ s. s.level ≡ level) step rest at) in
    omega (arith, first, later)
present_below level (step ∷ rest) added at =
    let later : present_level (up_to level rest ++ added) ≤ level =
    present_below level rest added at in
    elim (cases_lt level step.level) [
      | inl higher ↦ rw (lt-leb step.level level higher) later
      | inr lower ↦ rw (le-leb step.level level lower) (omega (arith, later, lower))
    ]

-- the levels below count as before
count_back : (level : ℕ) (steps added : List Step) (low : ℕ) → All (λ s. s.level ≡ level) added
    → low < level → count_at (up_to level steps ++ added) low ≡ count_at steps low
count_back level steps added low at lower =
    count_below (up_to level steps) added level low
    (All-weaker (λ s. s.level ≡ level) (λ s. level ≤ s.level) (λ s same. omega (arith, same)) added
    at) lower
    ∙ count_up_to level steps low (omega arith)

rises_back : (old new : Assigned) (level : ℕ) (added : List Step) (conflict : Bool) → IsTrail old
    → IsTrail new → new.vars ≡ old.vars → level < present_level old.steps
    → new.steps ≡ up_to level old.steps ++ added
    → All (λ step. step.level ≡ level) added → HasGoneOn added conflict
    → progress old.vars true old.steps < progress new.vars conflict new.steps
rises_back old new level [] false is_old is_new vars lower steps at gone =
    elim gone [ inl some ↦ absurd (omega (arith, some)) | inr found ↦ absurd (false≢true found) ]
rises_back old new level added true is_old is_new vars lower steps at gone =
    let within : present_level new.steps ≤ level =
    subst (λ s. present_level s ≤ level) (sym steps) (present_below level old.steps added at) in
    found_conflict old new true is_old is_new vars
    (digit_count old.vars true old.steps (present_level new.steps) (λ same. omega arith))
    (λ low below.
    digit_count old.vars true old.steps low (λ same. omega arith)
    ∙ sym
    (ap (λ s. count_at s low) steps ∙ count_back level old.steps added low at (omega arith)))
rises_back old new level (step ∷ rest) false is_old is_new vars lower steps at gone =
    let first : step.level ≡ level = All-head (λ s. s.level ≡ level) step rest at in
    let more : count_at (up_to level old.steps) step.level
    < count_at (up_to level old.steps ++ step ∷ rest) step.level =
    count_more (up_to level old.steps) rest step in
    let kept : count_at (up_to level old.steps) step.level ≡ count_at old.steps step.level =
    count_up_to level old.steps step.level (omega (arith, first)) in
    came_last old new true false step.level is_old is_new vars
    (subst (λ s. step.level ≤ present_level s) (sym steps)
    (present_of_first (up_to level old.steps) rest step))
    (digit_count old.vars true old.steps step.level (λ same. omega (arith, first, lower)))
    (subst (λ s. count_at old.steps step.level < count_at s step.level) (sym steps)
    (omega (arith, more, kept)))
    (λ low below.
    digit_count old.vars true old.steps low (λ same. omega (arith, first, lower))
    ∙ sym
    (ap (λ s. count_at s low) steps
    ∙ count_back level old.steps (step ∷ rest) low at (omega (arith, first))))

pub progress_rises_after_back : ProgressRisesAfterBack
progress_rises_after_back old new level added conflict is_old is_new vars lower steps at gone =
    rises_back old new level added conflict is_old is_new vars lower steps at gone

-- the level itself is still there
level_stays : (start level : ℕ) (steps : List Step) → RisesFrom start steps → start ≤ level
    → level ≤ max start (present_level steps)
    → level ≤ max start (present_level (up_to level steps))
level_stays start level [] rising low within = within
level_stays start level (step ∷ rest) rising low within =
    let next : step.level ≤ start + 1 =
    subst (λ n. n ≤ start + 1) (sym rising.0) (next_level-le start step.reason) in
    let least : start ≤ step.level =
    subst (λ n. start ≤ n) (sym rising.0) (next_level-ge start step.reason) in
    elim (cases_lt level step.level) [
      | inl higher ↦ rw (lt-leb step.level level higher) (omega arith)
      | inr lower ↦
          let later : level ≤ max step.level (present_level (up_to level rest)) =
          level_stays step.level level rest rising.1 lower (omega (arith, within, least)) in
          rw (le-leb step.level level lower) (omega (arith, later))
    ]

pub present_after_back : PresentAfterBack
present_after_back trail level is within =
    let high : level ≤ max 0 (present_level (up_to level trail.steps)) =
    level_stays 0 level trail.steps is.levels (omega arith) (omega (arith, within)) in
    let low : present_level (up_to level trail.steps ++ []) ≤ level =
    present_below level trail.steps [] (All-nil (λ s. s.level ≡ level)) in
    let same : present_level (up_to level trail.steps ++ [])
    ≡ present_level (up_to level trail.steps)
    = ap present_level (append-nil (up_to level trail.steps)) in
    omega (arith, high, low, same)
