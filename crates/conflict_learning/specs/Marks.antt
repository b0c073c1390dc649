-- Marked variables, and which assignments wait to be resolved. No public clause cites this module.
use Rattle.std.specs.Prelude.{◌≡◌, ℕ, Bool, false, ◌&&◌, ◌==◌, List, slice_index_or, All, IsTrue}
use Rattle.clause_store.specs.declared.literal.Lit.{Lit}
use Rattle.clause_store.specs.declared.literal.Var.{Var}
use Rattle.clause_store.specs.declared.step.Step.{Step}
use Rattle.clause_store.specs.Clause.{variable, IsOver}
use Rattle.conflict_learning.specs.Analysis.{IsVariable}

-- whether a variable is marked
abbrev pub is_marked : List Bool → ℕ → Bool
is_marked marks var = slice_index_or marks var false

-- a variable is marked
abbrev pub IsMarked : List Bool → ℕ → Type 0
IsMarked marks var = IsTrue (is_marked marks var)

-- no variable is marked
abbrev pub HasNoMark : List Bool → Type 0
HasNoMark marks = (var : ℕ) → is_marked marks var ≡ false

-- whether an assignment is marked and of a level
abbrev pub is_open : List Bool → ℕ → Step → Bool
is_open marks level step = is_marked marks (variable step.lit) && (step.level == level)

-- variables in the range of the literals were listed
abbrev pub ListsVariables : List Lit → List Var → List Var → Type 0
ListsVariables lits old new =
    (vars : ℕ) → All (IsOver vars) lits → All (IsVariable vars) old → All (IsVariable vars) new
