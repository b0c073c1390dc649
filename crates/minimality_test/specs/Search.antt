-- The search among the parts of a set, as it is opened and as its answers are read.
use Rattle.std.specs.Prelude.{◌≡◌, ◌≤◌, Bool, false, List, [], ⊤}
use Rattle.clause_store.specs.declared.literal.Lit.{Lit}
use Rattle.normal_program.specs.declared.normal.Normal.{Normal}
use Rattle.normal_program.specs.Limit.{IsNormal}
use Rattle.normal_program.specs.Normal.{greatest_body_var}
use Rattle.normal_program.specs.Spent.{inner_clauses}
use Rattle.clause_store.specs.Counted.{Counted}
use Rattle.clause_store.specs.Trail.{Assigned, values_of}
use Rattle.normal_program.specs.Models.{set_of}
use Rattle.assumption_engine.specs.declared.answer.Answer.{Answer}
use Rattle.assumption_engine.specs.declared.answer.Answer.TheVariants.{Model, Core, SpentInside}
use Rattle.assumption_engine.specs.declared.answer.Answer.TheVariants.{Paused, Spent as UsedUp}
use Rattle.assumption_engine.specs.declared.answer.Answer.TheVariants.{NoMemory as WantsMemory}
use Rattle.minimality_test.specs.declared.answer.Minimality.{Minimality}
use Rattle.minimality_test.specs.declared.answer.Minimality.TheVariants.{Minimal, Smaller, Spent}
use Rattle.minimality_test.specs.declared.answer.Minimality.TheVariants.{NoMemory}
use Rattle.assumption_engine.specs.Answer.{IsAnswer, IsCountedRight}
use Rattle.assumption_engine.specs.Engine.{IsRight}
use Rattle.search_state.specs.State.{Searched}
use Rattle.minimality_test.specs.Minimality.{HasCountedWithin}
use Rattle.minimality_test.specs.Parts.{PartsOf, meaning_of}

-- an engine over atoms and bodies has the clauses for the parts of a set and their theory, and
-- is right
pub record IsSearch (theory : PartsOf) (state : Searched) (defined : List (List Lit))
    (dead : Bool) : Type 0 where
  pub normal_form : IsNormal theory.normal
  pub vars : state.trail.vars ≡ greatest_body_var theory.normal
  pub clauses : state.clauses ≡ inner_clauses theory.normal theory.set
  pub none : defined ≡ []
  pub right : IsRight (meaning_of theory.normal theory.set) theory.followed state defined
  pub alive : dead ≡ false

-- what it has shown when it answers
pub record IsSearched (theory : PartsOf) (new : Searched) (before after : Counted)
    (answer : Answer) : Type 0 where
  pub says :
      IsAnswer (meaning_of theory.normal theory.set) [] [] after.limit new.trail answer
  pub counted : IsCountedRight after.limit after answer
  pub within : HasCountedWithin theory.normal theory.set before after
  pub range : greatest_body_var theory.normal ≤ new.trail.vars

-- the answers that may come: a slice isn't over before the budget is used up, and the theory has no
-- spent check
abbrev pub MayCome : Answer → Type 0
MayCome Model = ⊤
MayCome (Core core) = ⊤
MayCome UsedUp = ⊤
MayCome (SpentInside set units) = ⊥
MayCome Paused = ⊥
MayCome WantsMemory = ⊤

-- what they say of the set
abbrev pub read_as : Normal → Assigned → Answer → Minimality
read_as normal trail Model = Smaller (set_of normal (values_of trail))
read_as normal trail (Core core) = Minimal
read_as normal trail UsedUp = Spent
read_as normal trail (SpentInside set units) = Spent
read_as normal trail Paused = Spent
read_as normal trail WantsMemory = NoMemory
