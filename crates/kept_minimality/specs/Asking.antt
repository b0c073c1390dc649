-- How a kept search is asked for a set, and how its answers are read.
use Rattle.std.specs.Prelude.{◌-◌, ◌+◌, ℕ, Bool, false, if◌then◌else◌, List, ◌∷◌, length, map, take}
use Rattle.std.specs.Prelude.{drop}
use Rattle.std.specs.List.{range_with_len}
use Rattle.ground_program.specs.Meaning.{has}
use Rattle.clause_store.specs.declared.literal.Lit.{Lit}
use Rattle.clause_store.specs.Trail.{Assigned, values_of}
use Rattle.normal_program.specs.Clauses.{positive, negative}
use Rattle.assumption_engine.specs.declared.answer.Answer.{Answer}
use Rattle.assumption_engine.specs.declared.answer.Answer.TheVariants.{Model, Core, SpentInside}
use Rattle.assumption_engine.specs.declared.answer.Answer.TheVariants.{Paused, Spent as UsedUp}
use Rattle.assumption_engine.specs.declared.answer.Answer.TheVariants.{NoMemory as WantsMemory}
use Rattle.minimality_test.specs.declared.answer.Minimality.{Minimality}
use Rattle.minimality_test.specs.declared.answer.Minimality.TheVariants.{Minimal, Smaller, Spent}
use Rattle.minimality_test.specs.declared.answer.Minimality.TheVariants.{NoMemory}

-- an atom where it is in the set, else its negation
abbrev pub literal_in : List Bool → ℕ → Lit
literal_in set atom = if has set atom then positive atom else negative atom

-- what is assumed for a set: each atom as it is in the set, so that the whole of a pair is the set
abbrev pub assumed_for : List Bool → List Lit
assumed_for set = map (literal_in set) (range_with_len 1 (length set - 1))

-- the part on a trail: the atoms behind those of the whole
abbrev pub part_of : ℕ → Assigned → List Bool
part_of atoms trail = false ∷ take atoms (drop (atoms + 1) (values_of trail))

-- what the answers of the engine say of the set
abbrev pub read_as : ℕ → Assigned → Answer → Minimality
read_as atoms trail Model = Smaller (part_of atoms trail)
read_as atoms trail (Core core) = Minimal
read_as atoms trail UsedUp = Spent
read_as atoms trail (SpentInside set units) = Spent
read_as atoms trail Paused = Spent
read_as atoms trail WantsMemory = NoMemory
