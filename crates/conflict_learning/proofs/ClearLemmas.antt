-- Marks are taken away, and after a walk none is left.
use Rattle.std.proofs.Common.{◌≡◌, ◌≢◌, ℕ, ◌-◌, ◌<◌, Bool, false, List, [], ◌∷◌, ◌++◌, length, set}
use Rattle.std.proofs.Common.{take, drop, get_or, sym, ap, ◌∙◌, subst, inl, inr, arith}
use Rattle.std.proofs.Common.{get_or-set_same, get_or-set_other}
use Rattle.std.specs.Prelude.{All, Any, Contains}
use Rattle.std.proofs.lemmas.Bool.{cases_Bool, cases_eq, false≢true}
use Rattle.std.proofs.Math.Seq.{take-append_seam, take-length}
use Rattle.std.proofs.lemmas.List.{length-set, length-drop, take-append-drop}
use Rattle.std.proofs.lemmas.List.Elements.{All-contains, All-push, Contains-append_cases}
use Rattle.clause_store.specs.declared.literal.Lit.{Lit}
use Rattle.clause_store.specs.Clause.{variable, negation}
use Rattle.clause_store.specs.Trail.{Assigned}
use Rattle.clause_store.proofs.LiteralLemmas.{variable-negation}
use Rattle.conflict_learning.specs.Marks.{HasNoMark, is_marked, IsMarked, is_open}
use Rattle.conflict_learning.specs.Walk.{IsProgress}
use Rattle.conflict_learning.proofs.MarkLemmas.{none_counted}
use Rattle.conflict_learning.proofs.GivenLemmas.{open_from}

-- what was written over a whole table is read back
pub read_back : (n : ℕ) (new rest : List Bool) → length new ≡ n → take n (new ++ rest) ≡ new
read_back n new rest long = ap (λ m. take m (new ++ rest)) (sym long) ∙ take-append_seam new rest

-- ---- marks go

pub gone : (marks : List Bool) (var : ℕ) → var < length marks
    → is_marked (set marks var false) var ≡ false
gone marks var within = get_or-set_same marks var false false within

-- marks only go
pub gone_before : (marks : List Bool) (var other : ℕ) → var < length marks
    → IsMarked (set marks var false) other → IsMarked marks other
gone_before marks var other within marked =
    elim (cases_eq other var) [
      | inl same ↦ absurd
          (false≢true
          (sym
          (subst (λ v. is_marked (set marks var false) v ≡ false) (sym same)
          (gone marks var within)) ∙ marked))
      | inr differs ↦ sym (get_or-set_other marks var other false false differs) ∙ marked
    ]

-- what isn't marked stays so
pub gone_stays : (marks : List Bool) (var other : ℕ) → var < length marks
    → is_marked marks other ≡ false → is_marked (set marks var false) other ≡ false
gone_stays marks var other within unmarked =
    elim (cases_eq other var) [
      | inl same ↦ subst (λ v. is_marked (set marks var false) v ≡ false) (sym same)
          (gone marks var within)
      | inr differs ↦ get_or-set_other marks var other false false differs ∙ unmarked
    ]

-- the marks of the elements' variables went, and none came
pub record IsUnmarking {X : Type 0} (var_of : X → ℕ) (old new : List Bool) (xs : List X) :
    Type 0 where
  pub sized : length new ≡ length old
  pub fewer : (var : ℕ) → IsMarked new var → IsMarked old var
  pub gone : All (λ x. is_marked new (var_of x) ≡ false) xs

pub unmarking_more : {X : Type 0} (var_of : X → ℕ) (old marks : List Bool) (xs : List X) (x : X)
    → IsUnmarking var_of old marks xs → var_of x < length old
    → IsUnmarking var_of old (set marks (var_of x) false) (xs ++ x ∷ [])
unmarking_more var_of old marks xs x is within =
    let inside : var_of x < length marks = omega (arith, is.sized, within) in
    record {
      sized = length-set marks (var_of x) false ∙ is.sized;
      fewer = λ var marked. is.fewer var (gone_before marks (var_of x) var inside marked);
      gone = All-push (λ y. is_marked (set marks (var_of x) false) (var_of y) ≡ false) xs x
          (λ k d within'. gone_stays marks (var_of x) (var_of (get_or xs k d)) inside
          (is.gone k d within')) (gone marks (var_of x) inside);
    }

-- ---- after a walk

-- the passed assignments as the code takes them
pub all_behind : {X : Type 0} (xs : List X) (at : ℕ)
    → take (length xs - at) (drop at xs) ≡ drop at xs
all_behind xs at =
    ap (λ n. take n (drop at xs)) (sym (length-drop at xs)) ∙ take-length (drop at xs)

-- a mark that is left is of no passed assignment and of no literal of the clause
pub record IsLeft (trail : Assigned) (marks : List Bool) (clause : List Lit) (at var : ℕ) :
    Type 0 where
  pub before : IsMarked marks var
  pub passed : All (λ step. variable step.lit ≢ var) (drop at trail.steps)
  pub literals : All (λ lit. variable lit ≢ var) clause

-- none is, where none is open
pub none_left : (trail : Assigned) (marks : List Bool) (clause : List Lit)
    (level unresolved at var : ℕ) → IsProgress trail marks clause level unresolved at
    → unresolved ≡ 0
    → IsLeft trail marks clause at var → ⊥
none_left trail marks clause level unresolved at var way none left =
    go (way.assigned var left.before)
  where
    go : Any (λ step. variable step.lit ≡ var) trail.steps → ⊥
    go (k, step, within, is, same) =
        let marked : IsMarked marks (variable step.lit) =
        subst (IsMarked marks) (sym same) left.before in
        elim (cases_eq step.level level) [
          | inl present ↦
              elim
              (Contains-append_cases (take at trail.steps) (drop at trail.steps) step
              (subst (λ steps. Contains steps step) (sym (take-append-drop at trail.steps))
              (k, within, is))) [
                | inl waiting ↦
                    absurd
                    (false≢true
                    (sym
                    (All-contains (λ s. is_open marks level s ≡ false)
                    (take at trail.steps) step
                    (none_counted (is_open marks level) (take at trail.steps)
                    (sym way.counted ∙ none)) waiting)
                    ∙ open_from marks level step marked present))
                | inr passed ↦ All-contains (λ s. variable s.lit ≢ var) (drop at trail.steps) step
                    left.passed passed same
              ]
          | inr other ↦
              All-contains (λ lit. variable lit ≢ var) clause (negation step.lit) left.literals
              (All-contains
              (λ s. IsMarked marks (variable s.lit) → s.level ≢ level
              → Contains clause (negation s.lit)) trail.steps step way.kept (k, within, is)
              marked other)
              (variable-negation step.lit ∙ same)
        ]

-- so where the marks of the passed assignments went, and then those of the clause, none is left
pub none_marked : (trail : Assigned) (marks one two : List Bool) (clause : List Lit)
    (level unresolved at : ℕ) → IsProgress trail marks clause level unresolved at → unresolved ≡ 0
    → ((var : ℕ) → IsMarked one var → IsMarked marks var)
    → All (λ step. is_marked one (variable step.lit) ≡ false) (drop at trail.steps)
    → ((var : ℕ) → IsMarked two var → IsMarked one var)
    → All (λ lit. is_marked two (variable lit) ≡ false) clause → HasNoMark two
none_marked trail marks one two clause level unresolved at way none first passed second literals
    var =
    elim (cases_Bool (is_marked two var)) [
      | inl marked ↦
          absurd (none_left trail marks clause level unresolved at var way none
          (record {
            before = first var (second var marked);
            passed =
                λ k d inside same. false≢true
                (sym (passed k d inside) ∙ subst (IsMarked one) (sym same) (second var marked));
            literals =
                λ k d inside same. false≢true
                (sym (literals k d inside) ∙ subst (IsMarked two) (sym same) marked);
          }))
      | inr unmarked ↦ unmarked
    ]
