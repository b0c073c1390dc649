-- A clause while it is built. No public clause cites this module.
use Rattle.std.specs.Prelude.{◌≡◌, ◌≢◌, ◌≤◌, ℕ, Bool, false, if◌then◌else◌, List, [], ◌∷◌, ◌++◌}
use Rattle.std.specs.Prelude.{All}
use Rattle.std.specs.Prelude.{AllPairs, length, slice_index_or}
use Rattle.clause_store.specs.declared.literal.Lit.{Lit}
use Rattle.clause_store.specs.Clause.{variable}
use Rattle.normal_program.specs.Clauses.{has_lit, is_tautology}
use Rattle.completion.specs.Filling.{coded}

-- whether a code is marked; past the end of the table none is
abbrev pub is_marked : List Bool → ℕ → Bool
is_marked marks code = slice_index_or marks code false

-- the marked codes are those of the literals, each of which stands once and has a variable
pub record IsDraft (marks : List Bool) (lits : List Lit) : Type 0 where
  pub marked : (code : ℕ) → is_marked marks code ≡ has_lit lits (coded code)
  pub once : AllPairs (λ one two. one ≢ two) lits
  pub no_zero : All (λ lit. 1 ≤ variable lit) lits

-- a literal put last, unless it is there
abbrev pub with_lit : List Lit → Lit → List Lit
with_lit lits lit = if has_lit lits lit then lits else lits ++ lit ∷ []

-- what a draft comes to: its clause, unless that is a tautology
abbrev pub finished : List Lit → List (List Lit)
finished lits = if is_tautology lits then [] else lits ∷ []

-- the marks of literals are taken away
pub record Unmarks (old new : List Bool) (lits : List Lit) : Type 0 where
  pub size : length new ≡ length old
  pub each :
      (code : ℕ) → is_marked new code
      ≡ (if has_lit lits (coded code) then false else is_marked old code)
