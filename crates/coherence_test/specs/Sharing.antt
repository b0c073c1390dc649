-- Which of the clauses that were counted a tester hands on.
use Rattle.std.specs.Prelude.{◌≡◌, ◌≤◌, ◌&&◌, ℕ, nat_le, Bool, List, [], ◌++◌, filter, length, All}
use Rattle.std.specs.List.{AllZip, list_all}
use Rattle.clause_store.specs.declared.literal.Lit.{Lit}
use Rattle.clause_store.specs.declared.theory_says.Short.{Short}
use Rattle.clause_store.specs.Clause.{IsClause, IsOver, variable}
use Rattle.clause_store.specs.Counted.{Counted}
use Rattle.normal_program.specs.declared.normal.Normal.{Normal}
use Rattle.normal_program.specs.Normal.{greatest_body_var}
use Rattle.normal_program.specs.Clauses.{IsEntailed}
use Rattle.short_clauses.specs.Shareable.{IsShareable}
use Rattle.short_clauses.specs.Short.{IsShortOf}
use Rattle.coherence_test.specs.Searching.{is_low}

-- whether a clause has one to three literals, and none has a variable above the greatest of a body
abbrev pub is_told : ℕ → List Lit → Bool
is_told greatest clause =
    nat_le 1 (length clause) && nat_le (length clause) 3 && list_all (is_low greatest) clause

-- what that means
pub record IsTold (greatest : ℕ) (clause : List Lit) : Type 0 where
  pub some : 1 ≤ length clause
  pub few : length clause ≤ 3
  pub low : All (λ lit. variable lit ≤ greatest) clause

-- the short clauses of those that are to be told, in order, came last
pub record AreNoted (normal : Normal) (units : List (List Lit)) (old new : List Short) : Type 0
  where
    pub shorts : List Short
    pub left : new ≡ old ++ shorts
    pub are : AllZip IsShortOf (filter (is_told (greatest_body_var normal)) units) shorts

-- so it is for what was counted
pub record HasNoted (normal : Normal) (before after : Counted) (old new : List Short) : Type 0
  where
    pub units : List (List Lit)
    pub counts : after.units ≡ before.units ++ units
    pub noted : AreNoted normal units old new

-- what a clause that was counted is: where it has no selector, it holds in every answer set
pub record IsTellable (normal : Normal) (clause : List Lit) : Type 0 where
  pub is_clause : IsClause clause
  pub entailed : All (IsOver (greatest_body_var normal)) clause → IsEntailed normal [] clause

-- all of these may be told
abbrev pub AreShareable : Normal → List Short → Type 0
AreShareable normal shorts = All (IsShareable normal) shorts
