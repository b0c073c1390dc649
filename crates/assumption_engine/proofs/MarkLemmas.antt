-- Marks at variables that stand unnegated in clauses, and the literals that are chosen by them.
use Rattle.std.proofs.Common.{◌≡◌, ◌≢◌, ◌<◌, ◌+◌, ◌%◌, ℕ, suc, Bool, true, false}
use Rattle.std.proofs.Common.{List, [], ◌∷◌, ◌++◌, length, get_or, replicate, set, take, sym}
use Rattle.std.proofs.Common.{ap, ◌∙◌, subst, inl, inr, arith}
use Rattle.std.specs.Prelude.{Contains}
use Rattle.std.proofs.Math.Seq.{take-suc}
use Rattle.std.proofs.lemmas.Bool.{cases_eq, cases_lt, eqb-false, false≢true}
use Rattle.std.proofs.lemmas.List.{get_or-replicate, get_or-set_other, get_or_past}
use Rattle.std.proofs.lemmas.List.{length-replicate}
use Rattle.std.proofs.lemmas.List.Elements.{Contains-append_left}
use Rattle.std.proofs.lemmas.List.Elements.{Contains-append_right, Contains-push}
use Rattle.clause_store.specs.declared.literal.Lit.{Lit}
use Rattle.clause_store.specs.declared.literal.Value.TheVariants.{Unset}
use Rattle.clause_store.specs.declared.step.Step.{Step}
use Rattle.clause_store.specs.Clause.{is_negated, variable}
use Rattle.clause_store.specs.Clause.{IsOver}
use Rattle.clause_store.specs.Trail.{Assigned, step_of, value_by, value_of}
use Rattle.clause_store.proofs.LiteralLemmas.{any_from, has_first, lit_of_code}
use Rattle.clause_store.proofs.StepLemmas.{step_of_unset}
use Rattle.search_state.specs.State.{Searched}
use Rattle.assumption_engine.specs.Theory.{Meaning}
use Rattle.assumption_engine.specs.Task.{IsAssuming, IsChoice, IsTask, MayDecide, MustRefuse}
use Rattle.assumption_engine.specs.declared.task.Task.{Task}
use Rattle.assumption_engine.specs.declared.task.Task.TheVariants.{Learn, Take, Refuse, Decide}
use Rattle.assumption_engine.specs.declared.task.Task.TheVariants.{Check}
use Rattle.assumption_engine.specs.Sided.{positive}
use Rattle.assumption_engine.specs.Marks.{AreMarkedIn, MarksOne, MarksOnly}
use Rattle.assumption_engine.proofs.SidedLemmas.{stands_later}

-- one element more is taken
pub taken_next : {X : Type 0} (xs : List X) (at : ℕ) (d : X) → at < length xs
    → take (at + 1) xs ≡ take at xs ++ get_or xs at d ∷ []
taken_next xs at d within =
    let next : at + 1 ≡ suc at = omega arith in
    ap (λ n. take n xs) next ∙ take-suc xs at d within

-- at first nothing is marked
pub none_marked : (marks : List Bool) (count : ℕ) → marks ≡ replicate count false
    → AreMarkedIn [] marks
none_marked marks count is =
    record {
      stands =
          λ var marked. absurd
          (false≢true
          (sym (none count var) ∙ subst (λ all. get_or all var false ≡ true) is marked));
    }
  where
    none : (n var : ℕ) → get_or (replicate n false) var false ≡ false
    none n var =
        elim (cases_lt var n) [
          | inl within ↦ get_or-replicate n var false false within
          | inr past ↦
              get_or_past (replicate n false) var false
              (omega (arith, past, length-replicate n false))
        ]

-- one variable is marked
pub marks_set : (marks : List Bool) (var : ℕ) → MarksOne var marks (set marks var true)
marks_set marks var =
    record {
      from =
          λ other marked. elim (cases_eq other var) [
            | inl same ↦ inr same
            | inr differ ↦ inl (sym (get_or-set_other marks var other true false differ) ∙ marked)
          ];
    }

-- an unnegated literal is that of its variable
pub unnegated_is_positive : (lit : Lit) → is_negated lit ≡ false → lit ≡ positive (variable lit)
unnegated_is_positive lit is =
    let even : lit.0 % 2 ≢ 1 = eqb-false (lit.0 % 2) 1 is in
    lit_of_code lit (positive (variable lit)) (omega arith)

-- so only the unnegated literal of a variable is marked
pub marks_unnegated : (lit : Lit) (old new : List Bool) → is_negated lit ≡ false
    → MarksOne (variable lit) old new → MarksOnly (lit ∷ []) old new
marks_unnegated lit old new unnegated one =
    record {
      from =
          λ var marked. elim (one.from var marked) [
            | inl before ↦ inl before
            | inr same ↦ inr
                (subst (λ var. Contains (lit ∷ []) (positive var)) (sym same)
                (subst (Contains (lit ∷ [])) (unnegated_is_positive lit unnegated)
                (has_first lit [])))
          ];
    }

-- one literal after the others
pub marks_next : (clause : List Lit) (at : ℕ) (d : Lit) (old now new : List Bool)
    → at < length clause → MarksOnly (take at clause) old now
    → MarksOnly (get_or clause at d ∷ []) now new → MarksOnly (take (at + 1) clause) old new
marks_next clause at d old now new within early late =
    let more : take (at + 1) clause ≡ take at clause ++ get_or clause at d ∷ [] =
    taken_next clause at d within in
    subst (λ part. MarksOnly part old new) (sym more)
    (record {
      from =
          λ var marked. elim (late.from var marked) [
            | inl before ↦ elim (early.from var before) [
              | inl first ↦ inl first
              | inr here ↦ inr
                  (Contains-append_left (take at clause) (get_or clause at d ∷ []) (positive var)
                  here)
            ]
            | inr here ↦ inr
                (Contains-append_right (take at clause) (get_or clause at d ∷ []) (positive var)
                here)
          ];
    })

-- a clause came
pub marked_with : (clauses : List (List Lit)) (clause : List Lit) (old new : List Bool)
    → AreMarkedIn clauses old → MarksOnly clause old new
    → AreMarkedIn (clauses ++ clause ∷ []) new
marked_with clauses clause old new are only =
    record {
      stands =
          λ var marked. elim (only.from var marked) [
            | inl before ↦ stands_later clauses clause (positive var) (are.stands var before)
            | inr here ↦
                any_from (λ c. Contains c (positive var)) (clauses ++ clause ∷ []) clause
                (Contains-push clauses clause) here
          ];
    }

-- the opposite of an unset literal is unset
pub unset_with_variable : (steps : List Step) (one two : Lit) → variable one ≡ variable two
    → value_of steps two ≡ Unset → value_of steps one ≡ Unset
unset_with_variable steps one two same unset =
    ap (λ o. value_by o one) (ap (step_of steps) same ∙ step_of_unset steps two unset)

-- ---- the next task

-- what is chosen is a task
pub task_of_choice : (meaning : Meaning) (assumed : List Lit) (state : Searched)
    (given : List Lit) (task : Task) → IsChoice state.clauses assumed state.trail task
    → IsTask meaning assumed state given task
task_of_choice meaning assumed state given (Learn at) is = absurd is
task_of_choice meaning assumed state given Take is = absurd is
task_of_choice meaning assumed state given (Refuse lit) is = is
task_of_choice meaning assumed state given (Decide lit) is = is
task_of_choice meaning assumed state given Check is = is

-- an assumed literal that is made true or refused is one
pub choice_of_assuming : (clauses : List (List Lit)) (assumed : List Lit) (trail : Assigned)
    (lit : Lit) (task : Task) → Contains assumed lit → IsOver trail.vars lit
    → IsAssuming trail.steps lit task → IsChoice clauses assumed trail task
choice_of_assuming clauses assumed trail lit (Learn at) here over is = absurd is
choice_of_assuming clauses assumed trail lit Take here over is = absurd is
choice_of_assuming clauses assumed trail lit (Refuse other) here over is =
    subst (MustRefuse assumed trail.steps) (sym is.0) (record { among = here; is_false = is.1 })
choice_of_assuming clauses assumed trail lit (Decide other) here over is =
    subst (MayDecide clauses assumed trail) (sym is.0)
    (record { over = over; unset = is.1; turn = inl here })
choice_of_assuming clauses assumed trail lit Check here over is = absurd is
