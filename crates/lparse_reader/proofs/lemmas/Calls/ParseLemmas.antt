-- What an answer of a reading says of programs.
use Rattle.std.proofs.Common.{◌≡◌, ℕ, ◌≤◌, List, length, Option, Some, None, Result, Ok, Err, sym}
use Rattle.std.proofs.Common.{subst, ◌∙◌}
use Rattle.std.specs.Prelude.{IfOk, IfSome}
use Rattle.ground_program.specs.declared.program.Program.{Program}
use Rattle.lparse_reader.specs.declared.fault.Fault.{Fault}
use Rattle.lparse_reader.specs.declared.fault.ReadError.{ReadError}
use Rattle.lparse_reader.specs.declared.fault.ReadError.TheVariants.{Text, TooLong, ReadFault}
use Rattle.lparse_reader.specs.declared.fault.ReadError.TheVariants.{NoMemory}
use Rattle.lparse_reader.specs.Reading.{program_at}
use Rattle.lparse_reader.specs.Refusal.{IsReadAnswer, IsProgramUnlessNoMemory}
use Rattle.lparse_reader.specs.Refusal.{IsProgramUnlessSource}
use Rattle.lparse_reader.specs.Pieces.{Reads}
use Rattle.lparse_reader.proofs.lemmas.Pieces.WholePieces.{reads_program, program_again}

pub answer_reads : (bytes : List ℕ) (result : Result Program ReadError) → length bytes ≤ 67108864
    → IsReadAnswer bytes result (program_at bytes) → IfOk result (Reads bytes)
answer_reads bytes (Ok program) few answer = reads_program bytes program few answer
answer_reads bytes (Err error) few answer = tt

-- a reading gives one program
pub some_program : (p q : Program) (read : Result Program Fault) → read ≡ Ok p → read ≡ Ok q → p ≡ q
some_program p q read first second = ok_is p q (sym first ∙ second)
  where
    done : Program → Result Program Fault
    done p = Ok p

    ok_is : (p q : Program) → done p ≡ done q → p ≡ q
    ok_is p q e = cc

-- a reading that gives a fault gives no program
pub no_fault : (fault : Fault) (program : Program) (read : Result Program Fault) → read ≡ Err fault
    → read ≡ Ok program → ⊥
no_fault fault program read first second = let wrong = sym first ∙ second in cc

pub answer_all_read : (bytes : List ℕ) (result : Result Program ReadError) (program : Program)
    → IsReadAnswer bytes result (program_at bytes) → Reads bytes program
    → IsProgramUnlessNoMemory result program
answer_all_read bytes (Ok found) program answer reads =
    some_program found program (program_at bytes) answer (program_again bytes program reads)
answer_all_read bytes (Err NoMemory) program answer reads = tt
answer_all_read bytes (Err TooLong) program answer reads = answer
answer_all_read bytes (Err ReadFault) program answer reads = answer
answer_all_read bytes (Err (Text why line value)) program answer reads =
    no_fault answer.0 program (program_at bytes) answer.1 (program_again bytes program reads)

source_program : (result : Result Program ReadError) (program : Program)
    → IsProgramUnlessNoMemory result program → IsProgramUnlessSource result program
source_program (Ok found) program h = h
source_program (Err NoMemory) program h = h
source_program (Err TooLong) program h = h
source_program (Err ReadFault) program h = tt
source_program (Err (Text why line value)) program h = h

-- the bytes that a source told are those that were parsed
pub source_all_read : (left : Option (List ℕ)) (bytes : List ℕ) (result : Result Program ReadError)
    → IfSome left (λ told. bytes ≡ told)
    → ((program : Program) → Reads bytes program → IsProgramUnlessNoMemory result program)
    → IfSome left
    (λ told. (program : Program) → length told ≤ 67108864 → Reads told program
    → IsProgramUnlessSource result program)
source_all_read None bytes result same all = tt
source_all_read (Some told) bytes result same all =
    λ program few reads. source_program result program
    (all program (subst (λ (b : List ℕ). Reads b program) (sym same) reads))
