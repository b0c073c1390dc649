-- Selectors: variables that stand for 'some of these literals is true'.
use Rattle.std.specs.Prelude.{◌+◌, ◌*◌, ◌++◌, ℕ, List, [], ◌∷◌}
use Rattle.clause_store.specs.declared.literal.Lit.{Lit}

-- the clause of a selector: some literal of `any` is true, or the selector is false
abbrev pub selector_clause : ℕ → List Lit → List Lit
selector_clause selector any = any ++ record { 0 = 2 * selector + 1 } ∷ []
