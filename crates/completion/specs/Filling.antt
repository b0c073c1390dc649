-- How a store is filled. Only `GainsFirst` stands in a public clause.
use Rattle.std.specs.Prelude.{◌≡◌, ◌≤◌, ◌<◌, ◌^◌, ℕ, nat_eq, List, ◌++◌, map, filter, flat_map}
use Rattle.std.specs.Prelude.{Result, MatchResult}
use Rattle.clause_store.specs.declared.literal.Lit.{Lit}
use Rattle.normal_program.specs.declared.normal.NormalRule.{NormalRule}
use Rattle.normal_program.specs.declared.normal.Normal.{Normal}
use Rattle.normal_program.specs.Normal.{body_var}
use Rattle.normal_program.specs.Clauses.{positive}

-- the store gained these clauses at its end
abbrev pub Gains : List (List Lit) → List (List Lit) → List (List Lit) → Type 0
Gains old new clauses = new ≡ old ++ clauses

-- the store gained the first of these clauses, or none
pub record GainsFirst (old new clauses : List (List Lit)) : Type 0 where
  pub done : List (List Lit)
  pub rest : List (List Lit)
  pub all : clauses ≡ done ++ rest
  pub gained : new ≡ old ++ done

-- a call adds these clauses, or after want of memory the first of them
abbrev pub Adds : {T E : Type 0} → Result T E → List (List Lit) → List (List Lit) → List (List Lit)
    → Type 0
Adds result old new clauses =
    MatchResult result (λ _. Gains old new clauses) (λ _. GainsFirst old new clauses)

-- the literal of a code
abbrev pub coded : ℕ → Lit
coded code = record { 0 = code }

-- a number that has literals as a variable
pub record IsVar (var : ℕ) : Type 0 where
  pub first : 1 ≤ var
  pub last : var < 2 ^ 31

-- the bodies of the rules for an atom, once for each time that it stands among their heads
abbrev pub supports_of : Normal → List NormalRule → ℕ → List Lit
supports_of normal rules atom =
    flat_map
    (λ rule. map (λ head. positive (body_var normal rule.body))
    (filter (λ head. nat_eq head atom) rule.heads))
    rules
