-- How the sums of kept bodies follow the assignments. No public clause cites this module.
use Rattle.std.specs.Prelude.{◌≡◌, ◌<◌, ◌+◌, ◌-◌, ◌^◌, ◌==◌, ℕ, Bool, true, false}
use Rattle.std.specs.Prelude.{if◌then◌else◌, List, [], ◌∷◌, length, map, get_or, slice_get}
use Rattle.std.specs.Prelude.{Some, None, AllPairs, sum_by, ◌≢◌}
use Rattle.clause_store.specs.declared.literal.Lit.{Lit}
use Rattle.clause_store.specs.declared.step.Step.{Step}
use Rattle.clause_store.specs.Clause.{variable, negation}
use Rattle.normal_program.specs.Clauses.{positive, negative}
use Rattle.weight_propagator.specs.declared.row.Term.{Term}
use Rattle.weight_propagator.specs.declared.row.Row.{Row}
use Rattle.weight_propagator.specs.declared.side.Side.{Side}
use Rattle.weight_propagator.specs.declared.side.Side.TheVariants.{Reached, Missed}
use Rattle.weight_propagator.specs.declared.occurrences.Occurrence.{Occurrence}
use Rattle.weight_propagator.specs.declared.tally.Tally.{Tally}
use Rattle.weight_propagator.specs.declared.tally.Way.{Way}
use Rattle.weight_propagator.specs.declared.tally.Way.TheVariants.{Comes, Leaves}
use Rattle.weight_propagator.specs.Rows.{RowGives, taken_sum}

-- ---- where literals stand

-- the literals on which a kept body depends: its own, and those of its variable, which weigh
-- nothing
abbrev pub looked_at : Row → List Term
looked_at row =
    record { lit = positive row.var.0; weight = 0 }
    ∷ record { lit = negative row.var.0; weight = 0 } ∷ row.terms

-- a sum over the occurrences in one body, of any measure of their weights
abbrev pub row_sum : (ℕ → ℕ) → ℕ → List Occurrence → ℕ
row_sum measure row entries =
    sum_by (λ (one : Occurrence). if one.row == row then measure one.weight else 0) entries

-- a sum over the places of the literal with this code
abbrev pub code_sum : (ℕ → ℕ) → ℕ → List Term → ℕ
code_sum measure code terms =
    sum_by (λ (term : Term). if term.lit.0 == code then measure term.weight else 0) terms

-- in each body the literal of each code occurs as often, and with the same weights
abbrev pub AreOccurrencesIn : List (List Term) → List (List Occurrence) → Type 0
AreOccurrencesIn bodies lists =
    (code : ℕ) (measure : ℕ → ℕ) (row : ℕ)
    → row_sum measure row (get_or lists code []) ≡ code_sum measure code (get_or bodies row [])

abbrev pub AreOccurrences : List Row → List (List Occurrence) → Type 0
AreOccurrences rows lists = AreOccurrencesIn (map looked_at rows) lists

-- some literals of one body were entered
abbrev pub AreEntered : ℕ → List Term → List (List Occurrence) → List (List Occurrence) → Type 0
AreEntered number terms old new =
    (code : ℕ) (measure : ℕ → ℕ) (row : ℕ)
    → row_sum measure row (get_or new code [])
    ≡ row_sum measure row (get_or old code [])
    + (if number == row then code_sum measure code terms else 0)

-- ---- sums

-- the literal that comes on a side where one becomes true
abbrev pub shown : Side → Lit → Lit
shown Reached lit = lit
shown Missed lit = negation lit

-- what the literals on a side weigh
abbrev pub on_sum : Side → List Step → List Term → ℕ
on_sum side steps terms = taken_sum side steps None terms

-- a weight came to a sum, where that fits 64 bits, or left it
abbrev pub IsMoved : Way → ℕ → ℕ → ℕ → Type 0
IsMoved Comes weight old new = old + weight < 2 ^ 64 → new ≡ old + weight
IsMoved Leaves weight old new = new ≡ old - weight

-- what a measure of weights counts
abbrev pub itself : ℕ → ℕ
itself weight = weight

abbrev pub one_each : ℕ → ℕ
one_each weight = 1

-- the weights of occurrences came to the sums of their bodies, or left them
pub record AreMoved (way : Way) (entries : List Occurrence) (old new : List ℕ) : Type 0 where
  pub same : length new ≡ length old
  pub each :
      (at : ℕ) → at < length old
      → IsMoved way (row_sum itself at entries) (get_or old at 0) (get_or new at 0)

-- the bodies of occurrences wait, and those that waited
pub record AreMarked (entries : List Occurrence) (old new : List Bool) : Type 0 where
  pub same : length new ≡ length old
  pub rest :
      (row : ℕ) → get_or new row true ≡ false
      → (get_or old row true ≡ false) × (row_sum one_each row entries ≡ 0)

-- the sums of the bodies of a literal's and its negation's occurrences were changed
pub record HasTurned (way : Way) (yes no : List Occurrence) (old new : Tally) : Type 0 where
  pub reached : AreMoved way yes old.reached.items new.reached.items
  pub missed : AreMoved way no old.missed.items new.missed.items
  pub same : length new.waiting.waits ≡ length old.waiting.waits
  pub rest :
      (row : ℕ) → get_or new.waiting.waits row true ≡ false
      → (get_or old.waiting.waits row true ≡ false) × (row_sum one_each row yes ≡ 0)
      × (row_sum one_each row no ≡ 0)

-- there is a sum of each side and a mark for each body
pub record IsSizedFor (count : ℕ) (tally : Tally) : Type 0 where
  pub reached : length tally.reached.items ≡ count
  pub missed : length tally.missed.items ≡ count
  pub waits : length tally.waiting.waits ≡ count

-- the sums of one side
pub record AreSums (side : Side) (steps : List Step) (rows : List Row) (sums : List ℕ) :
    Type 0 where
  pub same : length sums ≡ length rows
  pub each :
      (at : ℕ) (row : Row) → slice_get rows at ≡ Some row
      → get_or sums at 0 ≡ on_sum side steps row.terms

-- a body that doesn't wait gives no clause
pub record AreSettled (steps : List Step) (rows : List Row) (waits : List Bool) : Type 0 where
  pub same : length waits ≡ length rows
  pub each :
      (at : ℕ) (row : Row) → slice_get rows at ≡ Some row → get_or waits at true ≡ false
      → ¬ RowGives steps row

-- the sums and the waiting bodies are those of these assignments
pub record IsInStep (rows : List Row) (steps : List Step) (tally : Tally) : Type 0 where
  pub reached : AreSums Reached steps rows tally.reached.items
  pub missed : AreSums Missed steps rows tally.missed.items
  pub settled : AreSettled steps rows tally.waiting.waits

-- no variable is assigned twice
abbrev pub AreApart : List Step → Type 0
AreApart steps = AllPairs (λ one two. variable one.lit ≢ variable two.lit) steps
