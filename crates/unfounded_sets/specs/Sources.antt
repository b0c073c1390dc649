-- Sources of founded atoms: which there are, and how they follow the assignments. No public clause
-- cites this module.
use Rattle.std.specs.Prelude.{◌≡◌, ◌≤◌, ◌<◌, ◌+◌, ◌*◌, ◌⊎◌, ℕ, Bool, true, false, nat_lt}
use Rattle.std.specs.Prelude.{List, [], ◌∷◌, map, length, get_or, set, slice_get}
use Rattle.std.specs.Prelude.{All, Contains, IsSomeAnd, sum_by}
use Rattle.ground_program.specs.Meaning.{IsIn}
use Rattle.clause_store.specs.declared.literal.Lit.{Lit}
use Rattle.clause_store.specs.declared.step.Step.{Step}
use Rattle.clause_store.specs.Standing.{IsFalse}
use Rattle.normal_program.specs.declared.normal.Normal.{Normal}
use Rattle.normal_program.specs.Normal.{body_var}
use Rattle.normal_program.specs.Clauses.{positive, negative}
use Rattle.normal_program.specs.Loop.{IsAtomOf}
use Rattle.unfounded_sets.specs.declared.sources.Sources.{Sources}
use Rattle.unfounded_sets.specs.declared.sources.TheConstants.{NO_RANK}
use Rattle.unfounded_sets.specs.Founding.{founding_weight}
use Rattle.unfounded_sets.specs.Placed.{IsHead}
use Rattle.unfounded_sets.specs.Waits.{Waited, one_if}

-- ---- which there are

-- whether each atom has a rank below this one
abbrev pub earlier : ℕ → List ℕ → List Bool
earlier rank ranks = map (λ one. nat_lt one rank) ranks

-- a body fires with a set: its variable isn't false, and the weights of the literals that count
-- reach the bound
pub record Fires (normal : Normal) (steps : List Step) (set : List Bool) (number : ℕ) : Type 0 where
  pub possible : ¬ IsFalse steps (positive (body_var normal number))
  pub enough :
      IsSomeAnd (slice_get normal.bodies number)
      (λ body. body.bound ≤ founding_weight steps set body.parts)

abbrev pub rank_of : Sources → ℕ → ℕ
rank_of it atom = get_or it.ranks.items atom NO_RANK

abbrev pub source_of : Sources → ℕ → ℕ
source_of it atom = get_or it.bodies.items atom 0

abbrev pub Waits : Waited → ℕ → Type 0
Waits waited number = get_or waited.waits number false ≡ true

-- an atom that isn't false is founded by a body and atoms of smaller ranks
pub record Stands (normal : Normal) (steps : List Step) (it : Sources) (number atom : ℕ) : Type 0
  where
    pub possible : ¬ IsFalse steps (positive atom)
    pub fires : Fires normal steps (earlier (rank_of it atom) it.ranks.items) number

-- the source of an atom is a rule for it and stands, unless its body is doubted, or is this one and
-- the atom is still to be looked at
pub record HasSource (normal : Normal) (steps : List Step) (number : ℕ) (left : List ℕ)
    (it : Sources) (atom : ℕ) : Type 0 where
  pub head : IsHead normal (source_of it atom) atom
  pub stands :
      ((source_of it atom ≡ number) × Contains left atom)
      ⊎ (Waits it.doubted (source_of it atom)
      ⊎ Stands normal steps it (source_of it atom) atom)

-- there is a place for each atom and each body
pub record AreSized (normal : Normal) (it : Sources) : Type 0 where
  pub bodies : length it.bodies.items ≡ normal.atoms + 1
  pub ranks : length it.ranks.items ≡ normal.atoms + 1
  pub lost : length it.lost.waits ≡ normal.atoms + 1
  pub doubted : length it.doubted.waits ≡ length normal.bodies
  pub next : it.next ≤ NO_RANK

-- each atom with a rank has such a source, and each other one is false or lost
pub record AreSourcesBut (normal : Normal) (steps : List Step) (number : ℕ) (left : List ℕ)
    (it : Sources) : Type 0 where
  pub sized : AreSized normal it
  pub ranked : (atom : ℕ) → (rank_of it atom < it.next) ⊎ (rank_of it atom ≡ NO_RANK)
  pub each : (atom : ℕ) → rank_of it atom < it.next → HasSource normal steps number left it atom
  pub rest : (atom : ℕ) → IsAtomOf normal atom → rank_of it atom ≡ NO_RANK
      → IsFalse steps (positive atom) ⊎ Waits it.lost atom

-- each atom with a rank has a source that stands, unless its body is doubted
abbrev pub AreSources : Normal → List Step → Sources → Type 0
AreSources normal steps it = AreSourcesBut normal steps 0 [] it

-- ---- how they change

-- numbers wait from now on
pub record AreMarked (numbers : List ℕ) (old new : Waited) : Type 0 where
  pub count : length new.waits ≡ length old.waits
  pub more : (number : ℕ) → Waits old number → Waits new number
  pub all : All (λ number. number < length old.waits → Waits new number) numbers
  pub few : old.left ≤ length old.waits → new.left ≤ length new.waits

-- all of these atoms wait
abbrev pub AreAllLost : ℕ → Waited → Type 0
AreAllLost atoms waited = (atom : ℕ) → 1 ≤ atom → atom ≤ atoms → Waits waited atom

-- where an atom has a source, the bodies in which it stands are doubted from now on
abbrev pub IsDoubtedAround : List (List ℕ) → Sources → Sources → ℕ → Type 0
IsDoubtedAround occurrences old new atom =
    rank_of old atom < old.next
    → All (λ number. number < length old.doubted.waits → Waits new.doubted number)
    (get_or occurrences (2 * atom) [])

-- an atom has no source any more: it is lost, and the bodies in which it stands are doubted
pub record IsDropped (occurrences : List (List ℕ)) (old new : Sources) (atom : ℕ) : Type 0 where
  pub gone : rank_of new atom ≡ NO_RANK
  pub lost : Waits new.lost atom
  pub doubted : IsDoubtedAround occurrences old new atom

-- no more than some sources were taken away so
pub record AreLess (occurrences : List (List ℕ)) (old new : Sources) : Type 0 where
  pub bodies : new.bodies ≡ old.bodies
  pub next : new.next ≡ old.next
  pub places : length new.ranks.items ≡ length old.ranks.items
  pub doubted : AreMarked [] old.doubted new.doubted
  pub lost : AreMarked [] old.lost new.lost
  pub ranks : (atom : ℕ) → (rank_of new atom ≡ rank_of old atom)
      ⊎ IsDropped occurrences old new atom

-- how many atoms have a source, and what is at most to be done until no body is doubted
abbrev pub held : Sources → ℕ
held it = sum_by (λ rank. one_if (nat_lt rank it.next)) it.ranks.items

abbrev pub work : Sources → ℕ
work it = held it * (length it.doubted.waits + 1) + it.doubted.left

-- the source of one atom was taken away
pub record Drops (occurrences : List (List ℕ)) (atom : ℕ) (old new : Sources) : Type 0 where
  pub less : AreLess occurrences old new
  pub gone : rank_of new atom ≡ NO_RANK
  pub nearer : rank_of old atom < old.next → held new < held old

-- a literal is false from now on: an atom has no source any more, or the bodies with a negative
-- literal are doubted, or the body of a variable is
pub record IsDenied (occurrences : List (List ℕ)) (lit : Lit) (old new : Sources) : Type 0 where
  pub less : AreLess occurrences old new
  pub gone : (atom : ℕ) → atom < length old.ranks.items → lit ≡ positive atom
      → rank_of new atom ≡ NO_RANK
  pub among : (atom : ℕ) → atom < length old.ranks.items → lit ≡ negative atom
      → All (λ number. number < length old.doubted.waits → Waits new.doubted number)
      (get_or occurrences lit.0 [])
  pub body : (number : ℕ) → number < length old.doubted.waits
      → lit ≡ positive (length old.ranks.items + number) → Waits new.doubted number

-- a literal is false no more: the atom that it is of may be lost
pub record IsReleased (lit : Lit) (old new : Sources) : Type 0 where
  pub same : new ≡ record old { lost = new.lost }
  pub lost : AreMarked [] old.lost new.lost
  pub here : (atom : ℕ) → atom < length old.ranks.items → lit ≡ positive atom
      → Waits new.lost atom

-- an atom without a source got one
pub record GetsSource (atom number : ℕ) (old new : Sources) : Type 0 where
  pub absent : ¬ (rank_of old atom < old.next)
  pub room : old.next < NO_RANK
  pub bodies : new.bodies.items ≡ set old.bodies.items atom number
  pub ranks : new.ranks.items ≡ set old.ranks.items atom old.next
  pub next : new.next ≡ old.next + 1
  pub doubted : new.doubted ≡ old.doubted
  pub lost : new.lost ≡ old.lost

abbrev pub MayGetSource : ℕ → ℕ → Sources → Sources → Type 0
MayGetSource atom number old new = (new ≡ old) ⊎ GetsSource atom number old new

-- an atom of a body was looked at
pub record LooksAt (normal : Normal) (steps : List Step) (number head : ℕ) (old new : Sources) :
    Type 0 where
  pub kept :
      (rest : List ℕ) → AreSourcesBut normal steps number (head ∷ rest) old
      → AreSourcesBut normal steps number rest new
  pub few : old.doubted.left ≤ length old.doubted.waits
      → new.doubted.left ≤ length new.doubted.waits
  pub nearer : old.doubted.left ≤ length old.doubted.waits → work new ≤ work old

-- it has a source or is false
abbrev pub IsSettledAtom : Normal → List Step → Sources → ℕ → Type 0
IsSettledAtom normal steps it atom =
    IsAtomOf normal atom → (rank_of it atom < it.next) ⊎ IsFalse steps (positive atom)

-- each atom of the set has a rank
abbrev pub HasRanked : Sources → List Bool → Type 0
HasRanked it set = (atom : ℕ) → IsIn set atom → rank_of it atom < it.next
