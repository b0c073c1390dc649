-- Which decisions come first, and which of them make an assumed literal false.
use Rattle.std.proofs.Common.{◌≡◌, ◌≢◌, ◌⊎◌, ℕ, zero, suc, ◌<◌, ◌≤◌, ◌+◌, List, [], ◌∷◌, ◌++◌}
use Rattle.std.proofs.Common.{length, take, drop, get_or, Some, None, refl, sym, ap, ◌∙◌, subst}
use Rattle.std.proofs.Common.{inl, inr, arith, append_assoc, length-append}
use Rattle.std.specs.Prelude.{All, Contains, slice_get, IsSome}
use Rattle.std.proofs.lemmas.Bool.{cases_lt, false≢true}
use Rattle.std.proofs.lemmas.List.{take-append-le, take-append-drop, append-nil}
use Rattle.std.proofs.Math.Seq.{take-append_seam}
use Rattle.std.proofs.lemmas.List.Elements.{All-contains, All-head, All-tail}
use Rattle.std.proofs.lemmas.Option.{get_or_from_slice_get, same_Some, slice_get_within}
use Rattle.clause_store.specs.declared.literal.Lit.{Lit}
use Rattle.clause_store.specs.declared.literal.Value.{Value}
use Rattle.clause_store.specs.declared.literal.Value.TheVariants.{Yes, No, Unset}
use Rattle.clause_store.specs.declared.step.Step.{Step}
use Rattle.clause_store.specs.Standing.{IsFalse}
use Rattle.clause_store.specs.Trail.{Assigned, IsTrail, RisesFrom, next_level, present_level, up_to}
use Rattle.clause_store.specs.Trail.{value_of}
use Rattle.clause_store.proofs.BackLemmas.{front_after_back}
use Rattle.clause_store.proofs.ReasonLemmas.{slice_get-seam}
use Rattle.clause_store.proofs.TrailLemmas.{slice_get-append}
use Rattle.clause_store.proofs.lemmas.Trails.StillLemmas.{values_stay}
use Rattle.propagator.specs.Fixpoint.{Extends}
use Rattle.search_state.specs.Assumed.{AreAssumedFirst, AreTrue, IsNotTrueAt}

-- a trail of level 0 has no decision
none_decided : (start : ℕ) (steps : List Step) (at : ℕ) (step : Step) → RisesFrom start steps
    → present_level steps ≡ 0 → slice_get steps at ≡ Some step → step.reason ≡ None → ⊥
none_decided start [] at step rises level here decided = absurd (cc)
none_decided start (first ∷ rest) zero step rises level here decided =
    let same : first ≡ step = same_Some first step here in
    let high : first.level ≡ start + 1 =
    rises.0 ∙ ap (next_level start) (ap (λ s. s.reason) same ∙ decided) in
    absurd (omega arith)
none_decided start (first ∷ rest) (suc at) step rises level here decided =
    none_decided first.level rest at step rises.1 (omega arith) here decided

-- so the assumed literals come first
pub first_at_start : (assumed : List Lit) (trail : Assigned) → IsTrail trail
    → present_level trail.steps ≡ 0 → AreAssumedFirst assumed trail.steps
first_at_start assumed trail is level at step here decided =
    absurd (none_decided 0 trail.steps at step is.levels level here decided)

-- a front of the assignments
first_of_front : (assumed : List Lit) (front rest : List Step)
    → AreAssumedFirst assumed (front ++ rest) → AreAssumedFirst assumed front
first_of_front assumed front rest first at step here decided =
    let within : at < length front = slice_get_within front at step here in
    let low : at ≤ length front = omega arith in
    subst (λ before. Contains assumed step.lit ⊎ AreTrue before assumed)
    (take-append-le at front rest low)
    (first at step (slice_get-append front rest at step here) decided)

-- what stands before the last one
front_at : (steps : List Step) (last : Step) (at : ℕ) (step : Step) → at < length steps
    → slice_get (steps ++ last ∷ []) at ≡ Some step → slice_get steps at ≡ Some step
front_at [] last at step within here = absurd (omega (arith, within))
front_at (x ∷ steps) last zero step within here = here
front_at (x ∷ steps) last (suc at) step within here =
    front_at steps last at step (omega (arith, within)) here

-- an assignment comes last
pub first_push : (assumed : List Lit) (steps : List Step) (last : Step)
    → AreAssumedFirst assumed steps
    → (last.reason ≡ None → Contains assumed last.lit ⊎ AreTrue steps assumed)
    → AreAssumedFirst assumed (steps ++ last ∷ [])
first_push assumed steps last first new at step here decided =
    elim (cases_lt at (length steps)) [
      | inl before ↦
          let low : at ≤ length steps = omega arith in
          subst (λ earlier. Contains assumed step.lit ⊎ AreTrue earlier assumed)
          (sym (take-append-le at steps (last ∷ []) low))
          (first at step (front_at steps last at step before here) decided)
      | inr after ↦
          let within : at < length (steps ++ last ∷ []) =
          slice_get_within (steps ++ last ∷ []) at step here in
          let end : at ≡ length steps = omega (arith, length-append steps (last ∷ [])) in
          let is : last ≡ step =
          same_Some last step
          (sym (slice_get-seam steps last) ∙ ap (slice_get (steps ++ last ∷ [])) (sym end)
          ∙ here) in
          subst (λ s. Contains assumed s.lit ⊎ AreTrue (take at (steps ++ last ∷ [])) assumed) is
          (subst (λ earlier. Contains assumed last.lit ⊎ AreTrue earlier assumed)
          (sym (ap (λ n. take n (steps ++ last ∷ [])) end ∙ take-append_seam steps (last ∷ [])))
          (new (ap (λ s. s.reason) is ∙ decided)))
    ]

-- forced assignments come last
first_with_forced : (assumed : List Lit) (steps added : List Step) → AreAssumedFirst assumed steps
    → All (λ step. IsSome step.reason) added → AreAssumedFirst assumed (steps ++ added)
first_with_forced assumed steps [] first forced =
    subst (AreAssumedFirst assumed) (sym (append-nil steps)) first
first_with_forced assumed steps (step ∷ rest) first forced =
    subst (AreAssumedFirst assumed) (append_assoc steps (step ∷ []) rest)
    (first_with_forced assumed (steps ++ step ∷ []) rest
    (first_push assumed steps step first
    (λ none. absurd
    (false≢true (subst IsSome none (All-head (λ s. IsSome s.reason) step rest forced)))))
    (All-tail (λ s. IsSome s.reason) step rest forced))

-- after going back
pub first_after_back : (assumed : List Lit) (trail : Assigned) (level : ℕ) → IsTrail trail
    → AreAssumedFirst assumed trail.steps → AreAssumedFirst assumed (up_to level trail.steps)
first_after_back assumed trail level is first =
    let front = front_after_back trail level is in
    first_of_front assumed (up_to level trail.steps) front.0
    (subst (AreAssumedFirst assumed) front.1 first)

-- after propagation
pub first_extended : (assumed : List Lit) (old new : Assigned) → Extends old new
    → AreAssumedFirst assumed old.steps → AreAssumedFirst assumed new.steps
first_extended assumed old new is first =
    subst (AreAssumedFirst assumed) (sym is.steps)
    (first_with_forced assumed old.steps is.added first is.forced)

-- ---- assumed literals that aren't true

-- the literal that was read isn't true
pub not_true : (steps : List Step) (assumed : List Lit) (at : ℕ) (d : Lit)
    → IsNotTrueAt steps assumed at → value_of steps (get_or assumed at d) ≢ Yes
not_true steps assumed at d next =
    subst (λ lit. value_of steps lit ≢ Yes)
    (sym (get_or_from_slice_get assumed at next.lit d next.there)) next.not_true

-- a literal that is neither true nor unset is false
pub is_no : (value : Value) → value ≢ Yes → value ≢ Unset → value ≡ No
is_no Yes not_yes not_unset = absurd (not_yes refl)
is_no No not_yes not_unset = refl
is_no Unset not_yes not_unset = absurd (not_unset refl)

-- what was true is true
true_later : (n : ℕ) (steps : List Step) (lit : Lit) → value_of (take n steps) lit ≡ Yes
    → value_of steps lit ≡ Yes
true_later n steps lit is =
    subst (λ all. value_of all lit ≡ Yes) (take-append-drop n steps)
    ((values_stay (take n steps) (drop n steps) lit (λ unset. yes_and_unset unset)).value ∙ is)
  where
    yes_and_unset : value_of (take n steps) lit ≡ Unset → ⊥
    yes_and_unset unset = cc

-- where an assumed literal is false, decisions are assumed literals
pub decided_assumed : (assumed : List Lit) (steps : List Step) (refused : Lit) (at : ℕ)
    (step : Step) → AreAssumedFirst assumed steps → Contains assumed refused
    → IsFalse steps refused → slice_get steps at ≡ Some step → step.reason ≡ None
    → Contains assumed step.lit
decided_assumed assumed steps refused at step first here wrong named decided =
    elim (first at step named decided) [
      | inl among ↦ among
      | inr all_true ↦
          let was : value_of (take at steps) refused ≡ Yes =
          All-contains (λ l. value_of (take at steps) l ≡ Yes) assumed refused all_true here in
          let is_yes = true_later at steps refused was in absurd (cc)
    ]
