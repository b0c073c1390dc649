-- The consequences of a program, and pairs of bounds on them.
use Rattle.std.specs.Prelude.{◌≡◌, ◌≤◌, ◌-◌, ℕ, Bool, false, List, length, slice_index_or, IsTrue}
use Rattle.std.specs.Option.{option_map_or}
use Rattle.std.specs.Prelude.{slice_get}
use Rattle.ground_program.specs.declared.program.Mode.{Mode}
use Rattle.ground_program.specs.declared.program.Mode.TheVariants.{Cautious, Brave}
use Rattle.ground_program.specs.declared.program.Named.{Named}
use Rattle.ground_program.specs.declared.program.Program.{Program}
use Rattle.ground_program.specs.declared.pair.Pair.{Pair}
use Rattle.ground_program.specs.Meaning.{IsAnswerSet, IsIn}

-- a candidate is a place of the symbol table, from 1
pub record IsCandidate (names : List Named) (cand : ℕ) : Type 0 where
  pub first : 1 ≤ cand
  pub last : cand ≤ length names

-- the atom of a candidate
abbrev pub atom_of : List Named → ℕ → ℕ
atom_of names cand = option_map_or (λ named. named.atom) (slice_get names (cand - 1)) 0

-- a candidate is a consequence: true in every answer set, or in some answer set
abbrev pub IsConsequence : Program → Mode → ℕ → Type 0
IsConsequence program Cautious cand =
    (set : List Bool) → IsAnswerSet program set → IsIn set (atom_of program.names cand)
IsConsequence program Brave cand =
    (set : List Bool) × IsAnswerSet program set × IsIn set (atom_of program.names cand)

-- an answer set shows a candidate: out in cautious mode, in in brave mode
abbrev pub Shows : List Named → Mode → List Bool → ℕ → Type 0
Shows names Cautious set cand = ¬ IsIn set (atom_of names cand)
Shows names Brave set cand = IsIn set (atom_of names cand)

-- a list of a pair has the candidate
abbrev pub HasCandidate : List Bool → ℕ → Type 0
HasCandidate bits cand = IsTrue (slice_index_or bits (cand - 1) false)

-- a pair has a truth value for each of so many candidates
pub record IsPairOver (candidates : ℕ) (pair : Pair) : Type 0 where
  pub lower : length pair.lower ≡ candidates
  pub upper : length pair.upper ≡ candidates

-- the consequences lie between the two bounds
pub record Encloses (program : Program) (mode : Mode) (pair : Pair) : Type 0 where
  pub over : IsPairOver (length program.names) pair
  pub lower : (cand : ℕ) → IsCandidate program.names cand → HasCandidate pair.lower cand
      → IsConsequence program mode cand
  pub upper : (cand : ℕ) → IsCandidate program.names cand → IsConsequence program mode cand
      → HasCandidate pair.upper cand

-- a pair lies within another
pub record IsWithin (narrow wide : Pair) : Type 0 where
  pub lower : (cand : ℕ) → HasCandidate wide.lower cand → HasCandidate narrow.lower cand
  pub upper : (cand : ℕ) → HasCandidate narrow.upper cand → HasCandidate wide.upper cand
