-- Each text has one outcome: its reading from left to right is a program or a fault.
use Rattle.std.proofs.Common.{◌≡◌, ◌≤◌, ℕ, List, length, Result, Ok, Err, refl, sym, ap, ◌∙◌, inl}
use Rattle.std.proofs.Common.{inr, arith}
use Rattle.ground_program.specs.declared.program.Program.{Program}
use Rattle.lparse_reader.specs.declared.fault.TextFault.{TextFault}
use Rattle.lparse_reader.specs.declared.fault.TextFault.TheVariants.{EndOfInput}
use Rattle.lparse_reader.specs.declared.fault.Fault.{Fault}
use Rattle.lparse_reader.specs.declared.fault.Fault.TheVariants.{Ended, At}
use Rattle.lparse_reader.specs.declared.fault.ReadError.TheVariants.{Text}
use Rattle.lparse_reader.specs.Tokens.{line_at}
use Rattle.lparse_reader.specs.Reading.{program_at}
use Rattle.lparse_reader.specs.Refusal.{told}
use Rattle.lparse_reader.specs.TextLaws.{OnlyReads, OnlyRefuses, HasOneOutcome, EachHasOneOutcome}
use Rattle.lparse_reader.proofs.lemmas.Pieces.WholePieces.{reads_program, program_again}
use Rattle.lparse_reader.proofs.lemmas.Refusing.WholeFollows.{program_breaks}
use Rattle.lparse_reader.proofs.lemmas.Calls.ParseLemmas.{some_program, no_fault}
use Rattle.lparse_reader.proofs.lemmas.Refusing.RefusalLemmas.{one_fault, no_program}

same_text : (cause why : TextFault) (at line number value : ℕ)
    → Text cause at number ≡ Text why line value
    → (cause ≡ why) × (at ≡ line) × (number ≡ value)
same_text cause why at line number value same = (cc, cc, cc)

only_reads : (bytes : List ℕ) (program : Program) → length bytes ≤ 67108864
    → program_at bytes ≡ Ok program → OnlyReads bytes program
only_reads bytes program few read = record {
  reads = reads_program bytes program few read;
  no_other = λ other reads.
      some_program other program (program_at bytes) (program_again bytes other reads) read;
  no_refusal = λ why line value refuses.
      no_program bytes refuses.fault program few refuses.breaks read;
}

only_refuses : (bytes : List ℕ) (fault : Fault) (why : TextFault) (line value : ℕ)
    → length bytes ≤ 67108864 → program_at bytes ≡ Err fault
    → told bytes fault ≡ Text why line value → OnlyRefuses bytes why line value
only_refuses bytes fault why line value few read so = record {
  refuses = record {
    fault = fault;
    breaks = program_breaks bytes fault (omega (arith, few)) read;
    told_so = so;
  };
  no_other = λ cause at number refuses.
      same_text cause why at line number value
      (sym refuses.told_so
      ∙ ap (told bytes) (one_fault bytes refuses.fault fault few refuses.breaks read) ∙ so);
  no_reading = λ program reads.
      no_fault fault program (program_at bytes) read (program_again bytes program reads);
}

outcome_of : (bytes : List ℕ) (read : Result Program Fault) → length bytes ≤ 67108864
    → program_at bytes ≡ read → HasOneOutcome bytes
outcome_of bytes (Ok program) few read = inl (program, only_reads bytes program few read)
outcome_of bytes (Err Ended) few read =
    inr (
      EndOfInput,
      line_at bytes 0,
      length bytes,
      only_refuses bytes Ended EndOfInput (line_at bytes 0) (length bytes) few read refl,
    )
outcome_of bytes (Err (At why left value)) few read =
    inr (
      why,
      line_at bytes left,
      value,
      only_refuses bytes (At why left value) why (line_at bytes left) value few read refl,
    )

-- each text has one outcome
pub one_outcome : EachHasOneOutcome
one_outcome bytes few = outcome_of bytes (program_at bytes) few refl
