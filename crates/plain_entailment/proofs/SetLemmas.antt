-- What holds for each set that begins with some values, atom by atom.
use Rattle.std.proofs.Common.{◌≡◌, ◌≢◌, ◌+◌, Bool, true, false, List, [], ◌∷◌, ◌++◌, length, Result}
use Rattle.std.proofs.Common.{Ok, Err, IfOk, arith, sym, ap, ◌∙◌, subst, true≢false, append_assoc}
use Rattle.std.proofs.Common.{append-nil, length-append}
use Rattle.std.specs.Prelude.{◌↔◌, IsTrue}
use Rattle.clause_store.specs.declared.literal.Lit.{Lit}
use Rattle.normal_program.specs.declared.normal.Normal.{Normal}
use Rattle.normal_program.specs.Clauses.{IsEntailed}
use Rattle.plain_entailment.specs.Search.{HoldsForSet, HoldsFrom}

module _ (normal : Normal) (disjunctions : List (List Lit)) (clause : List Lit) where
  -- a set that has all its values is the one that begins with them
  when_full : (start : List Bool) → length start ≡ normal.atoms + 1
      → HoldsForSet normal disjunctions clause start
      → HoldsFrom normal disjunctions clause start
  when_full start full holds [] =
      subst (HoldsForSet normal disjunctions clause) (sym (append-nil start)) holds
  when_full start full holds (bit ∷ rest) = λ answer.
      let positions : length (start ++ bit ∷ rest) ≡ normal.atoms + 1 = answer.over.positions in
      absurd (omega (arith, positions, full, length-append start (bit ∷ rest)))

  -- what holds for all sets that begin with some values holds for those with one more value
  with_bit : (start longer : List Bool) (bit : Bool) → longer ≡ start ++ bit ∷ []
      → HoldsFrom normal disjunctions clause start → HoldsFrom normal disjunctions clause longer
  with_bit start longer bit is every =
      subst (HoldsFrom normal disjunctions clause) (sym is)
      (λ rest. subst (HoldsForSet normal disjunctions clause)
      (sym (append_assoc start (bit ∷ []) rest)) (every (bit ∷ rest)))

  -- a set that lacks values goes on with either one
  either_bit : (start without taken : List Bool) → length start ≢ normal.atoms + 1
      → without ≡ start ++ false ∷ []
      → taken ≡ start ++ true ∷ [] → HoldsFrom normal disjunctions clause without
      → HoldsFrom normal disjunctions clause taken → HoldsFrom normal disjunctions clause start
  either_bit start without taken short without_is taken_is out in_it [] = λ answer.
      let positions : length (start ++ []) ≡ normal.atoms + 1 = answer.over.positions in
      absurd (short (ap length (sym (append-nil start)) ∙ positions))
  either_bit start without taken short without_is taken_is out in_it (false ∷ rest) =
      subst (HoldsForSet normal disjunctions clause) (append_assoc start (false ∷ []) rest)
      (subst (HoldsFrom normal disjunctions clause) without_is out rest)
  either_bit start without taken short without_is taken_is out in_it (true ∷ rest) =
      subst (HoldsForSet normal disjunctions clause) (append_assoc start (true ∷ []) rest)
      (subst (HoldsFrom normal disjunctions clause) taken_is in_it rest)

  -- what the search answers for a whole set
  pub full_exactly : {E : Type 0} (result : Result Bool E) (start : List Bool)
      → length start ≡ normal.atoms + 1
      → IfOk result (λ said. IsTrue said ↔ HoldsForSet normal disjunctions clause start)
      → IfOk result (λ said. IsTrue said ↔ HoldsFrom normal disjunctions clause start)
  full_exactly (Ok said) start full is = (
    λ told. when_full start full (is.0 told),
    λ every. is.1 (subst (HoldsForSet normal disjunctions clause) (append-nil start) (every [])),
  )
  full_exactly (Err cause) start full is = tt

  -- what it answers where the clause fails without the next atom
  pub without_fails : (start without : List Bool) (said : Bool) → without ≡ start ++ false ∷ []
      → said ≡ false
      → (IsTrue said ↔ HoldsFrom normal disjunctions clause without)
      → (IsTrue false ↔ HoldsFrom normal disjunctions clause start)
  without_fails start without said is fails holds = (
    λ never. absurd (true≢false (sym never)),
    λ every. sym fails ∙ holds.1 (with_bit start without false is every),
  )

  -- what it answers where it doesn't
  pub taken_exactly : {E : Type 0} (result : Result Bool E) (start without taken : List Bool)
      (said : Bool)
      → length start ≢ normal.atoms + 1 → without ≡ start ++ false ∷ [] → taken ≡ start ++ true ∷ []
      → said ≡ true
      → (IsTrue said ↔ HoldsFrom normal disjunctions clause without)
      → IfOk result (λ last. IsTrue last ↔ HoldsFrom normal disjunctions clause taken)
      → IfOk result (λ last. IsTrue last ↔ HoldsFrom normal disjunctions clause start)
  taken_exactly (Ok last) start without taken said short without_is taken_is holds one two = (
    λ told. either_bit start without taken short without_is taken_is (one.0 holds) (two.0 told),
    λ every. two.1 (with_bit start taken true taken_is every),
  )
  taken_exactly (Err cause) start without taken said short without_is taken_is holds one two = tt

  -- what holds for all sets that begin with no value holds for all sets
  entailed_exactly : {E : Type 0} (result : Result Bool E)
      → IfOk result (λ said. IsTrue said ↔ HoldsFrom normal disjunctions clause [])
      → IfOk result (λ said. IsTrue said ↔ IsEntailed normal disjunctions clause)
  entailed_exactly (Ok said) is = (
    λ told set chosen answer fits. is.0 told set answer chosen fits,
    λ entailed. is.1 (λ set answer chosen fits. entailed set chosen answer fits),
  )
  entailed_exactly (Err cause) is = tt

-- the same of lists that were read
pub read_exactly : {E : Type 0} (result : Result Bool E) (normal : Normal)
    (read disjunctions : List (List Lit))
    (read_clause clause : List Lit) (start : List Bool) → read ≡ disjunctions → read_clause ≡ clause
    → start ≡ []
    → IfOk result (λ said. IsTrue said ↔ HoldsFrom normal read read_clause start)
    → IfOk result (λ said. IsTrue said ↔ IsEntailed normal disjunctions clause)
read_exactly result normal read disjunctions read_clause clause start same same_clause empty is =
    let P : List Bool → Type 0 =
    λ some. IfOk result (λ said. IsTrue said ↔ HoldsFrom normal read read_clause some) in
    let Q : List Lit → Type 0 =
    λ some. IfOk result (λ said. IsTrue said ↔ HoldsFrom normal read some []) in
    let R : List (List Lit) → Type 0 =
    λ some. IfOk result (λ said. IsTrue said ↔ HoldsFrom normal some clause []) in
    entailed_exactly normal disjunctions clause result
    (subst R same (subst Q same_clause (subst P empty is)))
