-- How a weight body is kept: its variable, its literals by their codes, and its bound, lowered by
-- what a set gives its negative literals. No public clause cites this module.
use Rattle.std.specs.Prelude.{◌≡◌, ◌≢◌, ◌≤◌, ◌<◌, ◌+◌, ◌-◌, ◌^◌, ◌⊎◌, ◌==◌, ◌||◌, ℕ, Bool, true}
use Rattle.std.specs.Prelude.{false, not, if◌then◌else◌, List, ◌++◌, map, filter, All, Any}
use Rattle.std.specs.Prelude.{AllPairs, Option, None, Some, slice_get, sum_by, length}
use Rattle.std.specs.Prelude.{IfSome, is_some, IsPermutation}
use Rattle.ground_program.specs.declared.program.AtomLit.{AtomLit}
use Rattle.ground_program.specs.Meaning.{has, IsSetOver}
use Rattle.clause_store.specs.declared.literal.Lit.{Lit}
use Rattle.clause_store.specs.declared.literal.Value.{Value}
use Rattle.clause_store.specs.declared.literal.Value.TheVariants.{Yes, No, Unset}
use Rattle.clause_store.specs.declared.step.Step.{Step}
use Rattle.clause_store.specs.declared.theory_says.Says.{Says}
use Rattle.clause_store.specs.declared.theory_says.Says.TheVariants.{Quiet, Clause as Given}
use Rattle.clause_store.specs.Clause.{variable, negation, truth, makes_true, HoldsIn, IsOver}
use Rattle.clause_store.specs.Clause.{HasNoVariableTwice}
use Rattle.clause_store.specs.Trail.{Assigned, value_of}
use Rattle.normal_program.specs.declared.normal.Part.{Part}
use Rattle.normal_program.specs.declared.normal.BodyOf.{BodyOf}
use Rattle.normal_program.specs.declared.normal.Normal.{Normal}
use Rattle.normal_program.specs.Body.{IsWeightBody}
use Rattle.normal_program.specs.Normal.{body_var}
use Rattle.normal_program.specs.Limit.{IsNormal}
use Rattle.normal_program.specs.Clauses.{positive, negative, literal_of}
use Rattle.weight_propagator.specs.declared.row.Term.{Term}
use Rattle.weight_propagator.specs.declared.row.Row.{Row}
use Rattle.weight_propagator.specs.declared.side.Side.{Side}
use Rattle.weight_propagator.specs.declared.side.Side.TheVariants.{Reached, Missed}
use Rattle.weight_propagator.specs.declared.look.Case.{Case}
use Rattle.weight_propagator.specs.declared.look.Case.TheVariants.{Nothing, Cause}
use Rattle.weight_propagator.specs.Gives.{GivesBy, true_sum, open_sum}
use Rattle.weight_propagator.specs.Weighed.{IsFalseButOne}

-- the value and the weight of a literal that is kept
abbrev pub term_value : List Step → Term → Value
term_value steps term = value_of steps term.lit

abbrev pub term_weight : Term → ℕ
term_weight term = term.weight

-- what all literals weigh
abbrev pub all_sum : List Term → ℕ
all_sum terms = sum_by term_weight terms

-- what the true ones weigh, and those that aren't false
abbrev pub yes_sum : List Step → List Term → ℕ
yes_sum steps terms = true_sum (term_value steps) term_weight terms

abbrev pub not_no_sum : List Step → List Term → ℕ
not_no_sum steps terms = open_sum (term_value steps) term_weight terms

-- a kept body gives a clause
abbrev pub RowGives : List Step → Row → Type 0
RowGives steps row =
    GivesBy (term_value steps) term_weight row.terms row.bound (value_of steps (positive row.var.0))

-- the numbers of a kept body are far from wrapping
pub record IsSized (row : Row) : Type 0 where
  pub var : row.var.0 < 2 ^ 31
  pub bound : row.bound < 2 ^ 62
  pub few : all_sum row.terms < 2 ^ 62
  pub full : row.full ≡ all_sum row.terms

-- none weighs more than one before it
abbrev pub IsDescending : List Term → Type 0
IsDescending terms = AllPairs (λ one two. two.weight ≤ one.weight) terms

-- what is true of each kept body: no literal twice, greater weights first, no literal of its
-- variable, and all of them in range
pub record IsRow (vars : ℕ) (row : Row) : Type 0 where
  pub distinct : AllPairs (λ one two. one.lit ≢ two.lit) row.terms
  pub descending : IsDescending row.terms
  pub apart : All (λ term. variable term.lit ≢ row.var.0) row.terms
  pub over : All (λ term. IsOver vars term.lit) row.terms
  pub first : 1 ≤ row.var.0
  pub last : row.var.0 ≤ vars
  pub sized : IsSized row

-- whether a value is the one that a side asks for
abbrev pub is_on : Side → Value → Bool
is_on Reached Yes = true
is_on Reached No = false
is_on Reached Unset = false
is_on Missed Yes = false
is_on Missed No = true
is_on Missed Unset = false

-- the literal that is false where a literal is on the side
abbrev pub denial : Side → Lit → Lit
denial Reached lit = negation lit
denial Missed lit = lit

-- what follows for the variable
abbrev pub head : Side → Row → Lit
head Reached row = positive row.var.0
head Missed row = negative row.var.0

-- whether a literal is the one that is taken although it is unset
abbrev pub is_extra : Option Lit → Lit → Bool
is_extra None lit = false
is_extra (Some extra) lit = extra.0 == lit.0

-- whether a literal is taken for a reason
abbrev pub is_taken : Side → List Step → Option Lit → Term → Bool
is_taken side steps extra term = is_on side (value_of steps term.lit) || is_extra extra term.lit

-- what those weigh that are taken
abbrev pub taken_sum : Side → List Step → Option Lit → List Term → ℕ
taken_sum side steps extra terms =
    sum_by (λ term. if is_taken side steps extra term then term.weight else 0) terms

-- what those weigh that an assignment puts on the side
abbrev pub side_weight : Side → List Bool → Term → ℕ
side_weight Reached values term = if makes_true values term.lit then term.weight else 0
side_weight Missed values term = if makes_true values term.lit then 0 else term.weight

abbrev pub side_sum : Side → List Bool → List Term → ℕ
side_sum side values terms = sum_by (side_weight side values) terms

-- how much on a side decides the variable
abbrev pub goal_of : Side → Row → ℕ
goal_of Reached row = row.bound
goal_of Missed row = (all_sum row.terms + 1) - row.bound

-- all literals of a clause are false in an assignment
abbrev pub AreFalseIn : List Bool → List Lit → Type 0
AreFalseIn values clause = All (λ lit. makes_true values lit ≡ false) clause

-- denials of taken literals were put last; where all of them are false, that much is on the side
pub record IsReason (side : Side) (steps : List Step) (extra : Option Lit) (terms : List Term)
    (goal : ℕ) (old new : List Lit) : Type 0 where
  pub added : List Lit
  pub appended : new ≡ old ++ added
  pub taken :
      All
      (λ lit. Any
      (λ term. (is_taken side steps extra term ≡ true) × (lit ≡ denial side term.lit)) terms)
      added
  pub enough : (values : List Bool) → AreFalseIn values added → goal ≤ side_sum side values terms
  pub once : HasNoVariableTwice added

-- why a body gives a clause: of one side enough is taken, and what follows isn't true
pub record IsCause (steps : List Step) (row : Row) (side : Side) (extra : Option Lit) :
    Type 0 where
  pub gives : RowGives steps row
  pub enough : goal_of side row ≤ taken_sum side steps extra row.terms
  pub standing : (extra ≡ None) × (value_of steps (head side row) ≢ Yes)
      ⊎ ((lit : Lit) × (extra ≡ Some lit) × (value_of steps lit ≡ Unset)
      × (value_of steps (head side row) ≡ No))

-- what is found of a body
abbrev pub IsCase : List Step → Row → Case → Type 0
IsCase steps row Nothing = ¬ RowGives steps row
IsCase steps row (Cause side extra) = IsCause steps row side extra

-- the variable means that the weights of the true literals reach the bound
pub record MeansRow (values : List Bool) (row : Row) : Type 0 where
  pub holds : row.bound ≤ side_sum Reached values row.terms → truth values row.var.0 ≡ true
  pub fails : side_sum Reached values row.terms < row.bound → truth values row.var.0 ≡ false

-- a clause that a kept body gives
pub record IsGivenBy (row : Row) (trail : Assigned) (clause : List Lit) : Type 0 where
  pub gives : RowGives trail.steps row
  pub follows : (values : List Bool) → MeansRow values row → HoldsIn values clause
  pub only :
      All
      (λ lit. (variable lit ≡ row.var.0)
      ⊎ Any (λ term. variable lit ≡ variable term.lit) row.terms)
      clause
  pub standing : IsFalseButOne trail clause
  pub once : HasNoVariableTwice clause
  pub over : All (IsOver trail.vars) clause

-- what is answered of a kept body, with the clause that is written
abbrev pub IsLooked : Row → Assigned → List Lit → Says → Type 0
IsLooked row trail clause Quiet = ¬ RowGives trail.steps row
IsLooked row trail clause Given = IsGivenBy row trail clause

-- what a set makes of a literal of a body: nothing where the trail judges it
abbrev pub judged : Option (List Bool) → AtomLit → Option Bool
judged None lit = None
judged (Some set) lit = if lit.negated then Some (not (has set lit.atom)) else None

-- whether a literal is judged by the trail
abbrev pub is_kept : Option (List Bool) → Part → Bool
is_kept inside part = not (is_some (judged inside part.lit))

-- the weight of a literal that a set makes true
abbrev pub weight_if : Option Bool → ℕ → ℕ
weight_if None weight = 0
weight_if (Some true) weight = weight
weight_if (Some false) weight = 0

abbrev pub given_weight : Option (List Bool) → Part → ℕ
given_weight inside part = weight_if (judged inside part.lit) part.weight

-- a literal as it is kept
abbrev pub term_of : Part → Term
term_of part = record { lit = literal_of part.lit; weight = part.weight }

-- the literals that are kept, and the bound
abbrev pub kept_terms : Option (List Bool) → List Part → List Term
kept_terms inside parts = map term_of (filter (is_kept inside) parts)

abbrev pub given_sum : Option (List Bool) → List Part → ℕ
given_sum inside parts = sum_by (given_weight inside) parts

-- a body with this variable is kept so
pub record IsRowFor (inside : Option (List Bool)) (body : BodyOf) (number : ℕ) (row : Row) : Type 0
  where
    pub var : row.var.0 ≡ number
    pub bound : row.bound ≡ body.bound - given_sum inside body.parts
    pub terms : IsPermutation (kept_terms inside body.parts) row.terms
    pub descending : IsDescending row.terms
    pub full : row.full ≡ all_sum row.terms

-- a kept body is the weight body of this number
pub record IsRowOf (inside : Option (List Bool)) (normal : Normal) (number : ℕ) (body : BodyOf)
    (row : Row) : Type 0 where
  pub here : slice_get normal.bodies number ≡ Some body
  pub weight : IsWeightBody body
  pub kept : IsRowFor inside body (body_var normal number) row

-- a kept body is one of the normal form
pub record IsRowIn (inside : Option (List Bool)) (normal : Normal) (row : Row) : Type 0 where
  pub number : ℕ
  pub body : BodyOf
  pub is : IsRowOf inside normal number body row

-- just the weight bodies before a number are kept
pub record AreRowsTo (inside : Option (List Bool)) (normal : Normal) (to : ℕ) (rows : List Row) :
    Type 0 where
  pub few : length rows ≤ to
  pub each : All (IsRowIn inside normal) rows
  pub complete :
      (number : ℕ) (body : BodyOf) → number < to → slice_get normal.bodies number ≡ Some body
      → IsWeightBody body → Any (IsRowOf inside normal number body) rows

-- just the weight bodies are kept, of a normal form that a set is over
pub record AreRows (inside : Option (List Bool)) (normal : Normal) (rows : List Row) : Type 0 where
  pub normal_form : IsNormal normal
  pub over : IfSome inside (IsSetOver normal.atoms)
  pub all : AreRowsTo inside normal (length normal.bodies) rows
