-- Reasons stay reasons when assignments come last and go from there, and what going back leaves.
use Rattle.std.proofs.Common.{◌≡◌, ℕ, zero, suc, ◌<◌, ◌≤◌, cond, List, [], ◌∷◌, ◌++◌, length, take}
use Rattle.std.proofs.Common.{Some, None, refl, sym, ap, ◌∙◌, subst, inl, inr, arith, length-append}
use Rattle.std.specs.Prelude.{nat_le, slice_get}
use Rattle.std.proofs.lemmas.Bool.{cases_lt, le-leb, lt-leb}
use Rattle.std.proofs.lemmas.List.{take-append-le, append-nil}
use Rattle.std.proofs.Math.Seq.{take-append_seam}
use Rattle.std.proofs.lemmas.List.Elements.{filter-append}
use Rattle.std.proofs.lemmas.Option.{same_Some, slice_get_within}
use Rattle.clause_store.specs.declared.literal.Lit.{Lit}
use Rattle.clause_store.specs.declared.literal.ClauseRef.{ClauseRef}
use Rattle.clause_store.specs.declared.step.Step.{Step}
use Rattle.clause_store.specs.Trail.{present_level, IsReasonFor, IsTrailOf, StaysTrail, up_to}
use Rattle.clause_store.specs.Arrays.{IsWithoutLast}
use Rattle.clause_store.proofs.TrailLemmas.{slice_get-append}

slice_get-front : {X : Type 0} (xs ys : List X) (k : ℕ) → k < length xs
    → slice_get (xs ++ ys) k ≡ slice_get xs k
slice_get-front [] ys k within = absurd (omega (arith, within))
slice_get-front (x ∷ xs) ys zero within = refl
slice_get-front (x ∷ xs) ys (suc k) within = slice_get-front xs ys k (omega (arith, within))

pub slice_get-seam : {X : Type 0} (xs : List X) (y : X)
    → slice_get (xs ++ y ∷ []) (length xs) ≡ Some y
slice_get-seam [] y = refl
slice_get-seam (x ∷ xs) y = slice_get-seam xs y

-- an assignment comes last: its reason, if it has one, forced it
pub trail_of_push : (clauses : List (List Lit)) (steps : List Step) (step : Step)
    → IsTrailOf steps clauses
    → ((why : ClauseRef) → step.reason ≡ Some why → IsReasonFor clauses steps step.lit why)
    → IsTrailOf (steps ++ step ∷ []) clauses
trail_of_push clauses steps step of new at found why here forced =
    elim (cases_lt at (length steps)) [
      | inl before ↦
          let low : at ≤ length steps = omega arith in
          subst (λ earlier. IsReasonFor clauses earlier found.lit why)
          (sym (take-append-le at steps (step ∷ []) low))
          (of at found why (sym (slice_get-front steps (step ∷ []) at before) ∙ here) forced)
      | inr after ↦
          let within : at < length (steps ++ step ∷ []) =
          slice_get_within (steps ++ step ∷ []) at found here in
          let last : at ≡ length steps = omega (arith, length-append steps (step ∷ [])) in
          let is : step ≡ found =
          same_Some step found
          (sym (slice_get-seam steps step) ∙ ap (slice_get (steps ++ step ∷ [])) (sym last)
          ∙ here) in
          subst (λ s. IsReasonFor clauses (take at (steps ++ step ∷ [])) s.lit why) is
          (subst (λ earlier. IsReasonFor clauses earlier step.lit why)
          (sym
          (ap (λ n. take n (steps ++ step ∷ [])) last ∙ take-append_seam steps (step ∷ [])))
          (new why (ap (λ s. s.reason) is ∙ forced)))
    ]

-- a decision has none
pub stays_decision : (steps : List Step) (step : Step) → step.reason ≡ None
    → StaysTrail steps (steps ++ step ∷ [])
stays_decision steps step none clauses of =
    trail_of_push clauses steps step of (λ why is. absurd (cc))

-- the last assignment goes
pub stays_front : (steps : List Step) (step : Step) → StaysTrail (steps ++ step ∷ []) steps
stays_front steps step clauses of at found why here forced =
    let within : at < length steps = slice_get_within steps at found here in
    let low : at ≤ length steps = omega arith in
    subst (λ earlier. IsReasonFor clauses earlier found.lit why)
    (take-append-le at steps (step ∷ []) low)
    (of at found why (slice_get-append steps (step ∷ []) at found here) forced)

-- ---- going back

-- where no level is higher all stay
pub up_to_all : (level : ℕ) (steps : List Step) → present_level steps ≤ level
    → up_to level steps ≡ steps
up_to_all level [] below = refl
up_to_all level (step ∷ rest) below =
    rw (le-leb step.level level (omega arith))
    (ap (λ s. step ∷ s) (up_to_all level rest (omega arith)))

-- a last assignment of a higher level goes
pub up_to_front : (level : ℕ) (steps : List Step) (step : Step) → level < step.level
    → up_to level (steps ++ step ∷ []) ≡ up_to level steps
up_to_front level steps step above =
    filter-append (λ s. nat_le s.level level) steps (step ∷ [])
    ∙ ap (λ b. up_to level steps ++ cond b (step ∷ []) []) (lt-leb step.level level above)
    ∙ append-nil (up_to level steps)

-- what is left on the way: the same up to the level, which is still there
pub record IsOnTheWay (level : ℕ) (start now : List Step) : Type 0 where
  pub kept : up_to level now ≡ up_to level start
  pub reached : level ≤ present_level now
  pub stays : StaysTrail start now

pub way_begins : (level : ℕ) (start : List Step) → level ≤ present_level start
    → IsOnTheWay level start start
way_begins level start below = record { kept = refl; reached = below; stays = λ clauses of. of }

pub way_goes_on : (level : ℕ) (start now next : List Step) → IsOnTheWay level start now
    → level < present_level now → IsWithoutLast now next → IsOnTheWay level start next
way_goes_on level start now next way above less =
    let higher : level < less.last.level = omega (arith, less.present, above) in
    record {
      kept =
          sym (up_to_front level next less.last higher) ∙ ap (up_to level) (sym less.steps)
          ∙ way.kept;
      reached = omega (arith, less.before);
      stays =
          λ clauses of. stays_front next less.last clauses
          (subst (λ s. IsTrailOf s clauses) less.steps (way.stays clauses of));
    }
