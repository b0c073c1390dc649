-- What the answers to an offer say, and what was reported.
use Rattle.std.specs.Prelude.{◌≡◌, Bool, List, length, ⊤}
use Rattle.ground_program.specs.declared.program.Program.{Program}
use Rattle.ground_program.specs.Meaning.{IsAnswerSet}
use Rattle.ground_program.specs.Models.{IsModel, BreaksFirst}
use Rattle.clause_store.specs.declared.literal.Lit.{Lit}
use Rattle.clause_store.specs.Counted.{Counted}
use Rattle.normal_program.specs.declared.normal.Normal.{Normal}
use Rattle.minimality_test.specs.Minimality.{IsSmallerThan, HasCountedWithin}
use Rattle.bounds_board.specs.Board.{mode_of, seen_of}
use Rattle.bounds_board.specs.Reports.{HoldsSet}
use Rattle.client_reads.specs.Client.{Watch}
use Rattle.client_reads.specs.declared.offered.Offered.{Offered}
use Rattle.client_reads.specs.declared.offered.Offered.TheVariants.{Taken, Broken, Smaller, Spent}
use Rattle.client_reads.specs.declared.offered.Offered.TheVariants.{NoMemory}

-- an answer set was found to be one
pub record IsTaken (program : Program) (normal : Normal) (set : List Bool)
    (before after : Counted) : Type 0 where
  pub answer : IsAnswerSet program set
  pub counted : HasCountedWithin normal set before after

-- a model isn't minimal: a proper subset keeps the rules of its reduct
pub record IsSmaller (program : Program) (normal : Normal) (set part : List Bool)
    (before after : Counted) : Type 0 where
  pub model : IsModel program set
  pub smaller : IsSmallerThan normal set part
  pub counted : HasCountedWithin normal set before after

-- a budget was used up on a model, and these are the clauses that it counted
pub record IsSpent (program : Program) (normal : Normal) (set : List Bool)
    (told : List (List Lit)) (before after : Counted) : Type 0 where
  pub model : IsModel program set
  pub units : told ≡ after.units
  pub all : length told ≡ before.limit
  pub counted : HasCountedWithin normal set before after

-- what each answer says. Broken comes just where the set is no model
abbrev pub HasOffered : Program → Normal → List Bool → Counted → Counted → Offered → Type 0
HasOffered program normal set before after Taken = IsTaken program normal set before after
HasOffered program normal set before after (Broken broken) =
    BreaksFirst program set broken × (after ≡ before)
HasOffered program normal set before after (Smaller part) =
    IsSmaller program normal set part before after
HasOffered program normal set before after (Spent units) =
    IsSpent program normal set units before after
HasOffered program normal set before after NoMemory = IsModel program set

-- what was reported: at Taken the seat holds what the set shows, and otherwise nothing was
abbrev pub HasReported : Watch → Watch → List Bool → Offered → Type 0
HasReported old new set Taken =
    HoldsSet old.normal (mode_of old.board) set (seen_of new.seat)
HasReported old new set (Broken broken) = new ≡ old
HasReported old new set (Smaller part) = new ≡ old
HasReported old new set (Spent units) = new ≡ old
HasReported old new set NoMemory = new ≡ old

-- the answer has these units, or it is want of memory
abbrev pub TellsUnits : List (List Lit) → Offered → Type 0
TellsUnits units Taken = ⊥
TellsUnits units (Broken broken) = ⊥
TellsUnits units (Smaller part) = ⊥
TellsUnits units (Spent told) = told ≡ units
TellsUnits units NoMemory = ⊤
