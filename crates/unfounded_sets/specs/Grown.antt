-- Sets of atoms that literals shut. No public clause cites this module.
use Rattle.std.specs.Prelude.{◌≡◌, ◌<◌, ◌+◌, ◌*◌, ◌⊎◌, ◌||◌, ℕ, Bool, List, if◌then◌else◌}
use Rattle.std.specs.Prelude.{length, All, Contains, sum_by, slice_get, IsSomeAnd}
use Rattle.ground_program.specs.Meaning.{has, IsIn, IsPart}
use Rattle.clause_store.specs.declared.literal.Lit.{Lit}
use Rattle.clause_store.specs.declared.step.Step.{Step}
use Rattle.clause_store.specs.Clause.{IsOver}
use Rattle.clause_store.specs.Standing.{IsFalse}
use Rattle.normal_program.specs.declared.normal.Part.{Part}
use Rattle.normal_program.specs.declared.normal.Normal.{Normal}
use Rattle.normal_program.specs.Normal.{body_var, greatest_body_var}
use Rattle.normal_program.specs.Clauses.{positive, literal_of}
use Rattle.normal_program.specs.Loop.{IsAtomOf}
use Rattle.unfounded_sets.specs.declared.grown.Grown.{Grown}
use Rattle.unfounded_sets.specs.Founding.{is_false}
use Rattle.unfounded_sets.specs.Members.{Marked}
use Rattle.unfounded_sets.specs.Placed.{IsHead}
use Rattle.unfounded_sets.specs.Wanted.{is_over}

-- the literal of a code
abbrev pub coded : ℕ → Lit
coded code = record { 0 = code }

-- what a literal adds that is neither over a set nor among some literals, and one that is neither
-- false nor over the set
abbrev pub apart_of : List Bool → List Bool → Part → ℕ
apart_of set lits it =
    if has lits (literal_of it.lit).0 || is_over set it.lit then 0 else it.weight

abbrev pub possible_of : List Step → List Bool → Part → ℕ
possible_of steps set it =
    if is_false steps (literal_of it.lit) || is_over set it.lit then 0 else it.weight

-- the weight of those that are neither over a set nor among some literals
abbrev pub weight_apart : List Bool → List Bool → List Part → ℕ
weight_apart set lits parts = sum_by (apart_of set lits) parts

-- literals shut a body: its variable is among them, or those that are neither over the set nor
-- among them stay below its bound
abbrev pub IsShut : Normal → List Bool → List Bool → ℕ → Type 0
IsShut normal set lits number =
    IsIn lits (positive (body_var normal number)).0
    ⊎ IsSomeAnd (slice_get normal.bodies number)
    (λ body. weight_apart set lits body.parts < body.bound)

-- they shut the bodies of the rules for an atom
abbrev pub IsShutFor : Normal → List Bool → List Bool → ℕ → Type 0
IsShutFor normal set lits atom =
    (number : ℕ) → IsHead normal number atom → IsShut normal set lits number

-- atoms of a normal form
pub record AreAtoms (normal : Normal) (atoms : Marked) : Type 0 where
  pub size : length atoms.marks ≡ normal.atoms + 1
  pub are : All (IsAtomOf normal) atoms.list

-- literals over its atoms and bodies
pub record AreLits (normal : Normal) (lits : Marked) : Type 0 where
  pub size : length lits.marks ≡ 2 * greatest_body_var normal + 2
  pub over : All (λ code. IsOver (greatest_body_var normal) (coded code)) lits.list

-- such literals were added
pub record AddsLits (normal : Normal) (old new : Marked) : Type 0 where
  pub lits : AreLits normal new
  pub more : IsPart old.marks new.marks

-- literals that shut all atoms of a set
pub record IsGrown (normal : Normal) (it : Grown) : Type 0 where
  pub atoms : AreAtoms normal it.atoms
  pub lits : AreLits normal it.lits
  pub shut : All (IsShutFor normal it.atoms.marks it.lits.marks) it.atoms.list

-- an atom of the set that isn't false
pub record IsOpenIn (steps : List Step) (list : List ℕ) (atom : ℕ) : Type 0 where
  pub among : Contains list atom
  pub possible : ¬ IsFalse steps (positive atom)
