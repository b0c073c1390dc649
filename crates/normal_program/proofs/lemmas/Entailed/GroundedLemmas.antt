-- What is refuted from entailed clauses and local ones is entailed.
use Rattle.std.proofs.Common.{Bool, List, [], ◌∷◌, ◌++◌, Option, None, Some, IfNone, All, ⊎_elim}
use Rattle.std.proofs.lemmas.List.Elements.{All-nil, All-cons, All-append}
use Rattle.clause_store.specs.declared.literal.Lit.{Lit}
use Rattle.clause_store.specs.Clause.{HoldsIn}
use Rattle.clause_store.specs.History.{RefutedWith, AreRefutedWith}
use Rattle.clause_store.proofs.EntailmentLemmas.{refuted_follows}
use Rattle.normal_program.specs.declared.normal.Normal.{Normal}
use Rattle.normal_program.specs.declared.spent.SpentTest.{SpentTest}
use Rattle.normal_program.specs.Normal.{extension}
use Rattle.normal_program.specs.Clauses.{base_clauses, IsEntailed}
use Rattle.normal_program.specs.Limit.{IsNormal}
use Rattle.normal_program.specs.Loop.{IsLocal}
use Rattle.normal_program.specs.Range.{IsInRange}
use Rattle.normal_program.specs.Spent.{IsGrounded}
use Rattle.normal_program.proofs.RangeLemmas.{IsNormal-in_range}
use Rattle.normal_program.proofs.lemmas.Base.EntailedLemmas.{base_clauses-entailed}
use Rattle.normal_program.proofs.lemmas.Entailed.ChoiceLemmas.{body_clause-entailed}
use Rattle.normal_program.proofs.lemmas.Entailed.LoopLemmas.{loop_clause-entailed}

-- a local clause is entailed
pub local-entailed : (normal : Normal) → IsInRange normal → (clause : List Lit)
    (disjunctions : List (List Lit)) → IsLocal normal clause
    → IsEntailed normal disjunctions clause
local-entailed normal in_range clause disjunctions local =
    ⊎_elim
    (λ loop. loop_clause-entailed normal in_range loop.0 clause disjunctions loop.1)
    (λ follows. body_clause-entailed normal in_range clause disjunctions follows)
    local

module _ (normal : Normal) (in_range : IsInRange normal) (disjunctions : List (List Lit)) where
  -- a clause that is refuted from entailed clauses and local ones is entailed
  one-refuted : (clauses : List (List Lit)) (unit : List Lit)
      → All (IsEntailed normal disjunctions) clauses
      → RefutedWith (IsLocal normal) clauses unit → IsEntailed normal disjunctions unit
  one-refuted clauses unit entailed refuted set chosen answer are_chosen =
      let values = extension normal set set ++ chosen in
      refuted_follows (clauses ++ refuted.0) unit refuted.2 values
      (All-append (HoldsIn values) clauses refuted.0
      (λ k d h. entailed k d h set chosen answer are_chosen)
      (λ k d h. local-entailed normal in_range _ disjunctions (refuted.1 k d h) set chosen answer
      are_chosen))

  -- so are all that are refuted one after another
  pub refuted-entailed : (clauses units : List (List Lit))
      → All (IsEntailed normal disjunctions) clauses
      → AreRefutedWith (IsLocal normal) clauses units
      → All (IsEntailed normal disjunctions) units
  refuted-entailed clauses [] entailed refuted = All-nil (IsEntailed normal disjunctions)
  refuted-entailed clauses (unit ∷ rest) entailed refuted =
      let one = one-refuted clauses unit entailed refuted.0 in
      All-cons (IsEntailed normal disjunctions) unit rest one
      (refuted-entailed (clauses ++ unit ∷ []) rest
      (All-append (IsEntailed normal disjunctions) clauses (unit ∷ []) entailed
      (All-cons (IsEntailed normal disjunctions) unit [] one
      (All-nil (IsEntailed normal disjunctions)))) refuted.1)

-- the units of a grounded test are entailed
pub grounded-entailed : (normal : Normal) (test : SpentTest) → IsNormal normal
    → IsGrounded normal test → IfNone test.inside (All (IsEntailed normal []) test.units)
grounded-entailed normal test is grounded = by test.inside grounded
  where
    by : (inside : Option (List Bool))
        → IfNone inside (AreRefutedWith (IsLocal normal) (base_clauses normal) test.units)
        → IfNone inside (All (IsEntailed normal []) test.units)
    by None refuted =
        refuted-entailed normal (IsNormal-in_range normal is) [] (base_clauses normal) test.units
        (base_clauses-entailed normal is) refuted
    by (Some set) refuted = refuted
