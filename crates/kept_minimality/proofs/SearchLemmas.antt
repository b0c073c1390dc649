-- A kept search that was asked for a set.
use Rattle.std.proofs.Common.{◌≡◌, ◌≢◌, ◌≤◌, ◌+◌, ◌*◌, ℕ, Bool, false, List, [], length, sym}
use Rattle.std.proofs.Common.{◌-◌, true, ap, ◌∙◌, subst, arith, ⊎_elim}
use Rattle.std.specs.Prelude.{All, Result, Ok, Err, IfOk}
use Rattle.std.proofs.lemmas.Bool.{both_ways, cases_Bool}
use Rattle.ground_program.specs.Meaning.{IsSetOver}
use Rattle.clause_store.specs.declared.literal.Lit.{Lit}
use Rattle.clause_store.specs.Clause.{IsOver}
use Rattle.clause_store.specs.Counted.{Counted}
use Rattle.clause_store.specs.Trail.{Assigned}
use Rattle.normal_program.specs.declared.normal.Normal.{Normal}
use Rattle.normal_program.specs.Limit.{IsNormal}
use Rattle.normal_program.specs.Normal.{greatest_body_var}
use Rattle.assumption_engine.specs.declared.answer.Answer.{Answer}
use Rattle.assumption_engine.specs.declared.answer.Answer.TheVariants.{NoMemory as WantsMemory}
use Rattle.assumption_engine.specs.declared.engine.Engine.{Engine}
use Rattle.assumption_engine.specs.Answer.{HasEnded, IsAnswer, IsCountedRight}
use Rattle.assumption_engine.specs.Engine.{GoesOn, IsRight}
use Rattle.assumption_engine.specs.Theory.{MeansTheSame}
use Rattle.assumption_engine.proofs.SameLemmas.{same_itself, same_then}
use Rattle.minimality_test.specs.declared.answer.Minimality.{Minimality}
use Rattle.minimality_test.specs.Minimality.{HasAnswered}
use Rattle.kept_minimality.specs.Asking.{assumed_for, read_as}
use Rattle.kept_minimality.specs.Kept.{IsKept, IsOpened}
use Rattle.kept_minimality.specs.Pairing.{meaning_of, Paired}
use Rattle.kept_minimality.proofs.AnswerLemmas.{answer_same, pair_size, read_right}
use Rattle.kept_minimality.proofs.AssumedLemmas.{assumed_over}

-- an engine that was opened
pub opened_kept : (normal pair : Normal) (engine : Engine Paired) → IsNormal normal
    → IsOpened normal pair engine → IsKept normal engine
opened_kept normal pair engine is opened = record {
  is_normal = is;
  pair = pair;
  pairs = opened.pairs;
  same =
      subst (λ it. MeansTheSame (meaning_of pair) (meaning_of it)) (sym opened.same)
      (same_itself (meaning_of pair));
  defined = opened.defined;
  right = λ alive. opened.right;
  vars = λ alive. opened.vars;
}

module _ (normal : Normal) (old new : Engine Paired) (kept : IsKept normal old) (set : List Bool)
    (over : IsSetOver normal.atoms set) where
  -- the atoms of the whole and of the part are variables
  room : (vars : ℕ) → vars ≡ greatest_body_var kept.pair → 2 * normal.atoms ≤ vars
  room vars is =
      omega (arith, is, pair_size normal kept.pair kept.pairs set over)

  -- what is assumed is over them
  pub may_assume : (assumed : List Lit) → assumed ≡ assumed_for set → old.dead ≡ false
      → All (IsOver old.state.trail.vars) assumed
  may_assume assumed is alive =
      subst (All (IsOver old.state.trail.vars)) (sym is)
      (assumed_over old.state.trail.vars set
      (omega (arith, over.positions, room old.state.trail.vars (kept.vars alive))))

  module _ (before after : Counted) (answer : Answer)
      (stays_dead : old.dead ≡ true → answer ≡ WantsMemory)
      (dead : answer ≡ WantsMemory → new.dead ≡ true) where
    -- memory hadn't run out before
    alive_before : new.dead ≡ false → old.dead ≡ false
    alive_before alive =
        ⊎_elim (λ gone. absurd (both_ways new.dead alive (dead (stays_dead gone))))
        (λ lives. lives) (cases_Bool old.dead)

    vars_after : (assumed : List Lit)
        → (new.dead ≡ false
        → GoesOn (meaning_of old.theory.pair) assumed old.state new.state before after)
        → new.dead ≡ false → new.state.trail.vars ≡ greatest_body_var kept.pair
    vars_after assumed on alive = (on alive).vars ∙ kept.vars (alive_before alive)

    -- it is kept
    pub kept_on : (assumed : List Lit)
        → MeansTheSame (meaning_of old.theory.pair) (meaning_of new.theory.pair)
        → new.defined ≡ old.defined
        → (new.dead ≡ false
        → IsRight (meaning_of new.theory.pair) new.theory.followed new.state new.defined)
        → (new.dead ≡ false
        → GoesOn (meaning_of old.theory.pair) assumed old.state new.state before after)
        → IsKept normal new
    kept_on assumed same defined right on = record {
      is_normal = kept.is_normal;
      pair = kept.pair;
      pairs = kept.pairs;
      same =
          same_then (meaning_of kept.pair) (meaning_of old.theory.pair)
          (meaning_of new.theory.pair) kept.same same;
      defined = defined ∙ kept.defined;
      right = right;
      vars = vars_after assumed on;
    }

  module _ (before after : Counted) (answer : Answer) (unused : before.units ≡ [])
      (limit : ℕ) (whole : limit ≡ before.limit) (kept_limit : after.limit ≡ before.limit)
      (assumed : List Lit) (is_assumed : assumed ≡ assumed_for set)
      (ended : answer ≢ WantsMemory
      → HasEnded (meaning_of old.theory.pair) old.defined assumed
      (length before.units + limit) new.state after answer) where
    says : answer ≢ WantsMemory
        → IsAnswer (meaning_of kept.pair) [] (assumed_for set) after.limit new.state.trail answer
    says lives =
        subst
        (λ lits. IsAnswer (meaning_of kept.pair) [] lits after.limit new.state.trail answer)
        is_assumed
        (answer_same (meaning_of kept.pair) (meaning_of old.theory.pair) assumed after.limit
        new.state.trail kept.same answer
        (subst
        (λ defined. IsAnswer (meaning_of old.theory.pair) defined assumed after.limit
        new.state.trail answer) kept.defined (ended lives).says))

    counted : answer ≢ WantsMemory → IsCountedRight after.limit after answer
    counted lives =
        let none : length before.units ≡ 0 = ap length unused in
        let stop : length before.units + limit ≡ after.limit =
        omega (arith, none, whole, kept_limit) in
        subst (λ n. IsCountedRight n after answer) stop (ended lives).counted

    -- what is read from it
    pub answered : {E : Type 0} (trail : Assigned) → trail ≡ new.state.trail → (atoms : ℕ)
        → atoms ≡ length set - 1 → (result : Result Minimality E)
        → IfOk result (λ it. it ≡ read_as atoms trail answer)
        → IfOk result (HasAnswered normal set after)
    answered trail same atoms few (Err e) is = tt
    answered trail same atoms few (Ok it) is =
        let count : atoms ≡ normal.atoms = omega (arith, few, over.positions) in
        subst (HasAnswered normal set after)
        (sym
        (is ∙ ap (λ n. read_as n trail answer) count
        ∙ ap (λ t. read_as normal.atoms t answer) same))
        (read_right normal kept.pair kept.pairs set over new.state.trail after answer says counted)
