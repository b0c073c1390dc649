-- What a test asks, and what its answers say.
use Rattle.std.specs.Prelude.{◌≡◌, ◌≤◌, ℕ, Bool, List, All, Contains, IfSome, IsSome, IsTrue, length}
use Rattle.std.specs.Prelude.{⊤}
use Rattle.clause_store.specs.declared.literal.Lit.{Lit}
use Rattle.clause_store.specs.Clause.{HoldsIn, IsTrueIn, variable}
use Rattle.clause_store.specs.Counted.{Counted}
use Rattle.normal_program.specs.declared.normal.Normal.{Normal}
use Rattle.normal_program.specs.Normal.{IsAnswerSetN, extension, greatest_body_var}
use Rattle.assumption_engine.specs.Answer.{IsBelow, IsSliceOver}
use Rattle.coherence_test.specs.AnswerSets.{IsSpentWithin}
use Rattle.coherence_test.specs.declared.asked.Asked.{Asked}
use Rattle.coherence_test.specs.declared.asked.Core.{Core}
use Rattle.coherence_test.specs.declared.asked.Tested.{Tested}
use Rattle.coherence_test.specs.declared.asked.Tested.TheVariants.{Found, Core as Refuted, Spent}
use Rattle.coherence_test.specs.declared.asked.Tested.TheVariants.{SpentInside, Paused, NoMemory}

-- no answer set makes a literal true, if it is one of an atom or a body
abbrev pub IsRefuted : Normal → Lit → Type 0
IsRefuted normal lit =
    (set : List Bool) → IsAnswerSetN normal set → variable lit ≤ greatest_body_var normal
    → ¬ IsTrueIn (extension normal set set) lit

-- an answer set meets what is asked: its extension makes each assumed literal true and, where there
-- is a disjunction, one literal of it
pub record Answers (normal : Normal) (asked : Asked) (set : List Bool) : Type 0 where
  pub answers : IsAnswerSetN normal set
  pub assumed : All (IsTrueIn (extension normal set set)) asked.assume
  pub some : IfSome asked.any (HoldsIn (extension normal set set))

-- an answer set meets a core
pub record MeetsCore (normal : Normal) (asked : Asked) (core : Core) (set : List Bool) : Type 0
  where
    pub answers : IsAnswerSetN normal set
    pub lits : All (IsTrueIn (extension normal set set)) core.lits
    pub any : IsTrue core.any → IfSome asked.any (HoldsIn (extension normal set set))

-- a core is a part of what was asked that no answer set meets
pub record IsCoreFor (normal : Normal) (asked : Asked) (core : Core) : Type 0 where
  pub among : All (Contains asked.assume) core.lits
  pub asks : IsTrue core.any → IsSome asked.any
  pub unmet : (set : List Bool) → ¬ MeetsCore normal asked core set

-- a set meets what is asked, and the test whether it is minimal is spent
pub record IsSpentFor (normal : Normal) (asked : Asked) (set : List Bool)
    (units : List (List Lit)) : Type 0 where
  pub within : IsSpentWithin normal set units
  pub assumed : All (IsTrueIn (extension normal set set)) asked.assume
  pub some : IfSome asked.any (HoldsIn (extension normal set set))

-- what each answer says
abbrev pub IsTested : Normal → Asked → Tested → Type 0
IsTested normal asked (Found set) = Answers normal asked set
IsTested normal asked (Refuted core) = IsCoreFor normal asked core
IsTested normal asked Spent = ⊤
IsTested normal asked (SpentInside set units) = IsSpentFor normal asked set units
IsTested normal asked Paused = ⊤
IsTested normal asked NoMemory = ⊤

-- how many clauses were counted where each answer comes but want of memory, `stop` being as many as
-- one call may; and that a test inside a set is spent with as many units as the limit
abbrev pub IsTestedAt : ℕ → Counted → Tested → Type 0
IsTestedAt stop after (Found set) = IsBelow stop after
IsTestedAt stop after (Refuted core) = IsBelow stop after
IsTestedAt stop after Spent = length after.units ≡ after.limit
IsTestedAt stop after (SpentInside set units) =
    IsBelow stop after × (length units ≡ after.limit)
IsTestedAt stop after Paused = IsSliceOver stop after
IsTestedAt stop after NoMemory = ⊥
