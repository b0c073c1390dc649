-- Which candidates a clause names, and tables of literals.
use Rattle.std.specs.Prelude.{◌≡◌, ◌≤◌, ◌<◌, ◌+◌, ◌*◌, ◌==◌, ◌&&◌, ◌∷◌, ◌++◌, [], ℕ, Bool, false}
use Rattle.std.specs.Prelude.{List, length, not}
use Rattle.std.specs.Prelude.{fold, if◌then◌else◌, map, slice_index_or}
use Rattle.ground_program.specs.declared.program.Mode.{Mode}
use Rattle.ground_program.specs.declared.program.Named.{Named}
use Rattle.clause_store.specs.declared.literal.Lit.{Lit}
use Rattle.normal_program.specs.declared.normal.Normal.{Normal}
use Rattle.normal_program.specs.Normal.{greatest_body_var}
use Rattle.worker_jobs.specs.Job.{test_literal}
use Rattle.worker_strategies.specs.Disjunction.{has_literal}

-- the candidates with one more, where its test literal is in a clause and is that of none so far
abbrev pub with_named : List Named → Mode → List Lit → List ℕ → ℕ → List ℕ
with_named names mode clause named cand =
    if has_literal clause (test_literal names mode cand)
    && not (has_literal (map (test_literal names mode) named) (test_literal names mode cand))
    then named ++ cand ∷ []
    else named

-- the candidates whose test literals are in a clause, the first one for each literal
abbrev pub named_of : List Named → Mode → List Lit → List ℕ → List ℕ
named_of names mode clause cands = fold (with_named names mode clause) [] cands

-- whether a candidate has the test literal of another
abbrev pub has_same_literal : List Named → Mode → ℕ → ℕ → Bool
has_same_literal names mode one cand =
    (test_literal names mode cand).0 == (test_literal names mode one).0

-- a table marks just the codes of these literals
abbrev pub AreMarked : List Bool → List Lit → Type 0
AreMarked met lits =
    (lit : Lit) → lit.0 < length met → slice_index_or met lit.0 false ≡ has_literal lits lit

-- a table has a place for each literal of atoms and bodies
abbrev pub HasPlaces : Normal → List Bool → Type 0
HasPlaces normal marks = 2 * greatest_body_var normal + 2 ≤ length marks

-- whether a clause has the literal, and none of these candidates has it as its test literal
abbrev pub is_open : List Named → Mode → List Lit → List ℕ → Lit → Bool
is_open names mode clause named lit =
    has_literal clause lit && not (has_literal (map (test_literal names mode) named) lit)

-- a table marks just the codes of those literals
abbrev pub AreOpen : List Named → Mode → List Lit → List Bool → List ℕ → Type 0
AreOpen names mode clause marks named =
    (lit : Lit) → lit.0 < length marks
    → slice_index_or marks lit.0 false ≡ is_open names mode clause named lit
