-- A conflict at the level to which a search goes back for it.
use Rattle.std.proofs.Common.{◌≡◌, ℕ, ◌<◌, ◌≤◌, List, [], ◌∷◌, get_or, Some, sym, ap, ◌∙◌, subst}
use Rattle.std.proofs.Common.{inl, inr, arith}
use Rattle.std.specs.Prelude.{All, Any, Bool, Contains, slice_get}
use Rattle.std.proofs.lemmas.Bool.{cases_lt}
use Rattle.std.proofs.lemmas.List.Elements.{All-cons, All-nil, All-head, All-tail, All-weaker}
use Rattle.std.proofs.lemmas.List.Elements.{All-contains}
use Rattle.std.proofs.lemmas.Option.{same_Some}
use Rattle.clause_store.specs.declared.literal.Lit.{Lit}
use Rattle.clause_store.specs.declared.literal.ClauseRef.{ClauseRef}
use Rattle.clause_store.specs.declared.step.Step.{Step}
use Rattle.clause_store.specs.Clause.{variable, HoldsIn, Meets}
use Rattle.clause_store.specs.Standing.{IsFalse, IsConflict}
use Rattle.clause_store.specs.Trail.{Assigned, IsTrail, IsTrailOf, value_by, present_level, up_to}
use Rattle.clause_store.proofs.BackLemmas.{step_of_up_to}
use Rattle.clause_store.proofs.LiteralLemmas.{any_from, has_first, has_later}
use Rattle.clause_store.proofs.lemmas.Trails.ZeroLemmas.{false_at_zero}
use Rattle.conflict_learning.specs.Analysis.{HasPresent, level_at, greatest_level}
use Rattle.conflict_learning.proofs.AssignedLemmas.{here_at, refuter, level_found, below_present}
use Rattle.conflict_learning.proofs.LearnedLemmas.{conflict_false}

-- ---- levels

-- a false literal is of the present level at most
false_below : (steps : List Step) (lit : Lit) → IsFalse steps lit
    → level_at steps lit ≤ present_level steps
false_below steps lit wrong =
    let by = refuter steps lit wrong in
    let level : level_at steps lit ≡ by.step.level = (level_found steps lit by.step by.found).0 in
    let low : by.step.level ≤ present_level steps =
    All-contains (λ s. s.level ≤ present_level steps) steps by.step (below_present steps)
    by.here in
    omega arith

-- so for all of a clause
pub greatest_below_present : (steps : List Step) (lits : List Lit) → All (IsFalse steps) lits
    → greatest_level steps lits ≤ present_level steps
greatest_below_present steps [] wrong = omega arith
greatest_below_present steps (lit ∷ rest) wrong =
    let first : level_at steps lit ≤ present_level steps =
    false_below steps lit (All-head (IsFalse steps) lit rest wrong) in
    let later : greatest_level steps rest ≤ present_level steps =
    greatest_below_present steps rest (All-tail (IsFalse steps) lit rest wrong) in
    omega arith

-- no literal is of a greater level than the greatest
pub each_below : (steps : List Step) (lits : List Lit)
    → All (λ lit. level_at steps lit ≤ greatest_level steps lits) lits
each_below steps [] = All-nil (λ lit. level_at steps lit ≤ greatest_level steps [])
each_below steps (lit ∷ rest) =
    All-cons (λ l. level_at steps l ≤ greatest_level steps (lit ∷ rest)) lit rest (omega arith)
    (All-weaker (λ l. level_at steps l ≤ greatest_level steps rest)
    (λ l. level_at steps l ≤ greatest_level steps (lit ∷ rest)) (λ l low. omega arith) rest
    (each_below steps rest))

-- and some literal is of it
pub record IsOfGreatest (steps : List Step) (lits : List Lit) : Type 0 where
  pub lit : Lit
  pub here : Contains lits lit
  pub level : level_at steps lit ≡ greatest_level steps lits

pub greatest_there : (steps : List Step) (lits : List Lit) → 0 < greatest_level steps lits
    → IsOfGreatest steps lits
greatest_there steps [] above = absurd (omega arith)
greatest_there steps (lit ∷ rest) above =
    elim (cases_lt (level_at steps lit) (greatest_level steps rest)) [
      | inl lower ↦
          let later = greatest_there steps rest (omega arith) in
          record {
            lit = later.lit;
            here = has_later lit later.lit rest later.here;
            level =
                omega (arith, later.level);
          }
      | inr higher ↦ record { lit = lit; here = has_first lit rest; level = omega arith }
    ]

-- ---- the conflict after going back

-- a false literal of a level that stays is false still, and of its level
pub record IsStillFalse (old new : List Step) (lit : Lit) : Type 0 where
  pub is_false : IsFalse new lit
  pub level : level_at new lit ≡ level_at old lit

pub still_false : (level : ℕ) (steps : List Step) (lit : Lit) → IsFalse steps lit
    → level_at steps lit ≤ level → IsStillFalse steps (up_to level steps) lit
still_false level steps lit wrong low =
    let by = refuter steps lit wrong in
    let at : level_at steps lit ≡ by.step.level = (level_found steps lit by.step by.found).0 in
    let kept = step_of_up_to level steps (variable lit) by.step by.found (omega arith) in
    record {
      is_false = ap (λ o. value_by o lit) (kept ∙ sym by.found) ∙ wrong;
      level = (level_found (up_to level steps) lit by.step kept).0 ∙ sym at;
    }

-- a false clause is a conflict of the present level
pub record IsPresentConflict (clauses : List (List Lit)) (steps : List Step) (at : ClauseRef) :
    Type 0 where
  pub conflict : IsConflict clauses steps at
  pub present : HasPresent clauses steps at

-- so it is, back at the greatest level of its literals
pub conflict_there : (clauses there : List (List Lit)) (old new : List Step) (at : ClauseRef)
    (lits : List Lit) (level : ℕ) → IsConflict clauses old at → slice_get clauses at.0 ≡ Some lits
    → level ≡ greatest_level old lits → 0 < level → there ≡ clauses → new ≡ up_to level old
    → present_level new ≡ level → IsPresentConflict there new at
conflict_there clauses there old new at lits level is named greatest above same back present =
    subst (λ all. IsPresentConflict all new at) (sym same)
    (subst (λ steps. IsPresentConflict clauses steps at) (sym back)
    (record {
      conflict =
          record {
            clause = lits;
            named = named;
            is_false =
                λ k d within. (still k d within).is_false;
          };
      present = λ clause here.
          subst (Any (λ lit. level_at (up_to level old) lit ≡ present_level (up_to level old)))
          (same_Some lits clause (sym named ∙ here))
          (any_from (λ lit. level_at (up_to level old) lit ≡ present_level (up_to level old)) lits
          one.lit one.here
          ((All-contains (IsStillFalse old (up_to level old)) lits one.lit still one.here).level
          ∙ one.level ∙ sym greatest ∙ sym present ∙ ap present_level back));
    }))
  where
    still : All (IsStillFalse old (up_to level old)) lits
    still k d within =
        let low : level_at old (get_or lits k d) ≤ greatest_level old lits =
        each_below old lits k d within in
        still_false level old (get_or lits k d)
        (conflict_false clauses old at lits is named k d within) (omega arith)

    one : IsOfGreatest old lits
    one = greatest_there old lits (omega arith)

-- the clause of a conflict is of the present level at most
pub level_within : (clauses : List (List Lit)) (steps : List Step) (at : ClauseRef)
    (lits : List Lit) (level : ℕ) → IsConflict clauses steps at → slice_get clauses at.0 ≡ Some lits
    → level ≡ greatest_level steps lits → level ≤ present_level steps
level_within clauses steps at lits level is named greatest =
    let low = greatest_below_present steps lits (conflict_false clauses steps at lits is named) in
    omega arith

-- ---- a conflict of level 0

-- all literals of a clause of level 0 are of it
all_ground : (steps : List Step) (lits : List Lit) → greatest_level steps lits ≡ 0
    → All (λ lit. level_at steps lit ≡ 0) lits
all_ground steps [] level = All-nil (λ lit. level_at steps lit ≡ 0)
all_ground steps (lit ∷ rest) level =
    All-cons (λ l. level_at steps l ≡ 0) lit rest (omega arith)
    (all_ground steps rest (omega arith))

-- where a clause is false at level 0, the clauses can't be met
pub none_met : (clauses : List (List Lit)) (trail : Assigned) (at : ClauseRef) (lits : List Lit)
    → IsTrail trail → IsTrailOf trail.steps clauses → IsConflict clauses trail.steps at
    → slice_get clauses at.0 ≡ Some lits → greatest_level trail.steps lits ≡ 0
    → (values : List Bool) → Meets values clauses → ⊥
none_met clauses trail at lits is of conflict named level values meets =
    false_at_zero trail clauses lits values is of
    (λ k d within.
    (still_false 0 trail.steps (get_or lits k d) (wrong k d within)
    (omega (arith, all_ground trail.steps lits level k d within))).is_false)
    (All-contains (HoldsIn values) clauses lits meets (here_at clauses at.0 lits named)) meets
  where
    wrong : All (IsFalse trail.steps) lits
    wrong = conflict_false clauses trail.steps at lits conflict named
