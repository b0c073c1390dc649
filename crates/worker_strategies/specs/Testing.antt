-- What tests do to a tester.
use Rattle.std.specs.Prelude.{◌≡◌, ◌<◌, ◌⊎◌, false, List, [], ◌++◌, length, All, Contains}
use Rattle.std.specs.Prelude.{IfSome, Option, None, Some}
use Rattle.clause_store.specs.declared.literal.Lit.{Lit}
use Rattle.clause_store.specs.Counted.{Counted}
use Rattle.clause_store.specs.Entailment.{AreUnits}
use Rattle.clause_store.specs.History.{counted_clauses}
use Rattle.normal_program.specs.declared.normal.Normal.{Normal}
use Rattle.normal_program.specs.Clauses.{base_clauses, IsEntailed}
use Rattle.normal_program.specs.Spent.{selector_clauses}
use Rattle.coherence_test.specs.Selectors.{AreUsed, IsInUse}
use Rattle.coherence_test.specs.Testing.{HasAdded, Testing, opened, selectors, used_by}

-- what tests of a disjunction, or of none, did to their tester: clauses were added, and those of
-- them that were counted are entailed with the disjunctions, have of selectors only the negations
-- of some in use, and are worth counting beside the clauses of selectors too
pub record HasTested (any : Option (List Lit)) (old new : Testing) (before after : Counted) :
    Type 0 where
  pub added : HasAdded old.normal new.disjunctions old.clauses new.clauses before after
  pub entailed : All (IsEntailed old.normal new.disjunctions) (counted_clauses added.added)
  pub in_use :
      All (All (IsInUse old.normal (used_by any new.disjunctions))) (counted_clauses added.added)
  pub beside :
      AreUnits (old.clauses ++ selector_clauses old.normal new.disjunctions)
      (counted_clauses added.added)
  pub uses : AreUsed old.disjunctions any new.disjunctions
  pub alive : new.dead ≡ false
  pub same : new.normal ≡ old.normal

-- a list of clauses begins with these
pub record IsFrontOf (front all : List (List Lit)) : Type 0 where
  pub rest : List (List Lit)
  pub is : all ≡ front ++ rest

-- a living tester of the normal form, which began with its base clauses
pub record IsTesterOf (normal : Normal) (tester : Testing) : Type 0 where
  pub same : tester.normal ≡ normal
  pub alive : tester.dead ≡ false
  pub base : IsFrontOf (base_clauses normal) tester.clauses

-- the tester that is there, or else one that was opened
abbrev pub or_opened : Normal → Option Testing → Testing
or_opened normal None = opened normal
or_opened normal (Some tester) = tester

-- a test that began when its tester had these clauses, and what it counted since
pub record IsTestOf (normal : Normal) (any : Option (List Lit)) (begin : List (List Lit))
    (tester : Testing) (counted : Counted) : Type 0 where
  pub start : Testing
  pub of : start.normal ≡ normal
  pub clauses : start.clauses ≡ begin
  pub tested :
      HasTested any start tester (record { limit = counted.limit; units = [] }) counted

-- a selector is there for a disjunction, if there is one: it is in use, or one is left
abbrev pub HasRoomFor : Testing → Option (List Lit) → Type 0
HasRoomFor tester any =
    IfSome any
    (λ lits. Contains tester.disjunctions lits
    ⊎ (length tester.disjunctions < selectors tester.normal))
