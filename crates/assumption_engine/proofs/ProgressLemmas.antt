-- The weight of a trail: it grows when assignments come last, and when the trail goes back to a
-- level and gets an assignment more there.
use Rattle.std.proofs.Common.{◌≡◌, ℕ, suc, ◌+◌, ◌-◌, ◌*◌, ◌^◌, ◌<◌, ◌≤◌, List, [], ◌∷◌, ◌++◌}
use Rattle.std.proofs.Common.{Bool, true, false, cond, length, refl, sym, ap, ◌∙◌, subst}
use Rattle.std.proofs.Common.{arith}
use Rattle.std.specs.Prelude.{nat_le, sum_by}
use Rattle.std.proofs.Math.Nat.{pow-suc, one-le-pow, pow-le-pow_right, mul-le-mul_right}
use Rattle.std.proofs.lemmas.Bool.{leb-false}
use Rattle.std.proofs.lemmas.List.Sums.{sum_by-append, sum_by-cons}
use Rattle.clause_store.specs.declared.step.Step.{Step}
use Rattle.clause_store.specs.Trail.{Assigned, IsTrail, present_level, up_to}
use Rattle.clause_store.proofs.StepLemmas.{level_fits, trail_fits}
use Rattle.assumption_engine.specs.Progress.{weight}

-- what one assignment weighs
abbrev step_weight : ℕ → Step → ℕ
step_weight vars step = (vars + 1) ^ (vars - step.level)

abbrev weights : ℕ → List Step → ℕ
weights vars steps = sum_by (step_weight vars) steps

step_weighs : (vars : ℕ) (step : Step) → 1 ≤ step_weight vars step
step_weighs vars step =
    let some : 0 < vars + 1 = omega arith in one-le-pow (vars - step.level) (vars + 1) some

-- an assignment of a lower level weighs more
heavier : (vars low : ℕ) (step : Step) → step.level ≤ low
    → (vars + 1) ^ (vars - low) ≤ step_weight vars step
heavier vars low step level =
    let some : 0 < vars + 1 = omega arith in
    let fewer : vars - low ≤ vars - step.level = omega arith in
    pow-le-pow_right {n = vars + 1} some fewer

lighter : (vars low : ℕ) (step : Step) → low ≤ step.level
    → step_weight vars step ≤ (vars + 1) ^ (vars - low)
lighter vars low step level =
    let some : 0 < vars + 1 = omega arith in
    let fewer : vars - step.level ≤ vars - low = omega arith in
    pow-le-pow_right {n = vars + 1} some fewer

-- ---- all weights are bounded

weights_within : (vars : ℕ) (steps : List Step)
    → weights vars steps ≤ length steps * (vars + 1) ^ vars
weights_within vars [] = omega arith
weights_within vars (step ∷ rest) =
    let all : vars - 0 ≡ vars = omega arith in
    let first : step_weight vars step ≤ (vars + 1) ^ vars =
    subst (λ n. step_weight vars step ≤ (vars + 1) ^ n) all (lighter vars 0 step (omega arith)) in
    let later : weights vars rest ≤ length rest * (vars + 1) ^ vars = weights_within vars rest in
    rw (sum_by-cons (step_weight vars) step rest) (grind arith)

pub weight_within : (trail : Assigned) → IsTrail trail
    → weight trail ≤ trail.vars * (trail.vars + 1) ^ trail.vars
weight_within trail is =
    let all : weight trail ≤ length trail.steps * (trail.vars + 1) ^ trail.vars =
    weights_within trail.vars trail.steps in
    let few : length trail.steps ≤ trail.vars = trail_fits trail is in
    let more : length trail.steps * (trail.vars + 1) ^ trail.vars
    ≤ trail.vars * (trail.vars + 1) ^ trail.vars =
    mul-le-mul_right ((trail.vars + 1) ^ trail.vars) few in
    omega arith

-- ---- assignments come last

pub weight_longer : (old new : Assigned) (step : Step) (rest : List Step) → new.vars ≡ old.vars
    → new.steps ≡ old.steps ++ step ∷ rest → weight old < weight new
weight_longer old new step rest vars steps =
    let some : 1 ≤ step_weight old.vars step = step_weighs old.vars step in
    let first = sum_by-cons (step_weight old.vars) step rest in
    let all = sum_by-append (step_weight old.vars) old.steps (step ∷ rest) in
    let is : weight new ≡ weights old.vars (old.steps ++ step ∷ rest) =
    ap (λ n. weights n new.steps) vars ∙ ap (weights old.vars) steps in
    omega (arith, some, first, all, is)

pub weight_no_less : (old new : Assigned) (added : List Step) → new.vars ≡ old.vars
    → new.steps ≡ old.steps ++ added → weight old ≤ weight new
weight_no_less old new added vars steps =
    let all = sum_by-append (step_weight old.vars) old.steps added in
    let is : weight new ≡ weights old.vars (old.steps ++ added) =
    ap (λ n. weights n new.steps) vars ∙ ap (weights old.vars) steps in
    omega (arith, all, is)

-- ---- the trail goes back

-- what goes weighs at most as much as so many assignments of the next level
what_goes : (vars level : ℕ) (steps : List Step)
    → weights vars steps
    ≤ weights vars (up_to level steps) + length steps * (vars + 1) ^ (vars - suc level)
what_goes vars level [] = omega arith
what_goes vars level (step ∷ rest) =
    let later : weights vars rest ≤ weights vars (up_to level rest)
    + length rest * (vars + 1) ^ (vars - suc level) = what_goes vars level rest in
    rw (sum_by-cons (step_weight vars) step rest) (go (nat_le step.level level) refl later)
  where
    go : (b : Bool) → nat_le step.level level ≡ b
        → weights vars rest ≤ weights vars (up_to level rest)
        + length rest * (vars + 1) ^ (vars - suc level)
        → step_weight vars step + weights vars rest
        ≤ weights vars (cond b (step ∷ up_to level rest) (up_to level rest))
        + suc (length rest) * (vars + 1) ^ (vars - suc level)
    go true is later =
        rw (sum_by-cons (step_weight vars) step (up_to level rest)) (grind arith)
    go false is later =
        let high : suc level ≤ step.level = leb-false step.level level is in
        let light : step_weight vars step ≤ (vars + 1) ^ (vars - suc level) =
        lighter vars (suc level) step high in
        grind arith

pub weight_after_back : (old new : Assigned) (level : ℕ) (step : Step) (rest : List Step)
    → IsTrail old → level < present_level old.steps → new.vars ≡ old.vars
    → new.steps ≡ up_to level old.steps ++ step ∷ rest → step.level ≤ level
    → weight old < weight new
weight_after_back old new level step rest is below vars steps low =
    let few : length old.steps ≤ old.vars = trail_fits old is in
    let fits : present_level old.steps ≤ old.vars = level_fits old is in
    let goes = what_goes old.vars level old.steps in
    let next : suc (old.vars - suc level) ≡ old.vars - level = omega arith in
    let power : (old.vars + 1) ^ (old.vars - level)
    ≡ (old.vars + 1) ^ (old.vars - suc level) * (old.vars + 1) =
    ap (λ n. (old.vars + 1) ^ n) (sym next) ∙ pow-suc (old.vars + 1) (old.vars - suc level) in
    let some : 1 ≤ (old.vars + 1) ^ (old.vars - suc level) =
    one-le-pow (old.vars - suc level) (old.vars + 1) (omega arith) in
    let heavy : (old.vars + 1) ^ (old.vars - level) ≤ step_weight old.vars step =
    heavier old.vars level step low in
    let first = sum_by-cons (step_weight old.vars) step rest in
    let all = sum_by-append (step_weight old.vars) (up_to level old.steps) (step ∷ rest) in
    let new_is : weight new ≡ weights old.vars (up_to level old.steps ++ step ∷ rest) =
    ap (λ n. weights n new.steps) vars ∙ ap (weights old.vars) steps in
    let many : length old.steps * (old.vars + 1) ^ (old.vars - suc level)
    ≤ old.vars * (old.vars + 1) ^ (old.vars - suc level) =
    mul-le-mul_right ((old.vars + 1) ^ (old.vars - suc level)) few in
    grind (arith, power, some, heavy, first, all, new_is, many, goes)
