use Rattle.lparse_reader.specs.declared.fault.ReadError.TheVariants.{ReadFault, NoMemory}
use Rattle.lparse_reader.proofs.lemmas.Calls.ParseLemmas.{source_all_read}
use Rattle.lparse_reader.proofs.lemmas.Refusing.RefusalLemmas.{source_all_refused}
use Rattle.lparse_reader.proofs.lemmas.Calls.SourceLemmas.{on_text, parsed_outcome, too_long_text}
use Rattle.lparse_reader.proofs.lemmas.Calls.SourceLemmas.{any_text}
use Rattle.lparse_reader.proofs.source_text.read_program.Goals as goal

pub returns-in-Ok-clause-outcome : goal.returns-in-Ok-clause-outcome
returns-in-Ok-clause-outcome g c = record {
  bytes = c.deref.result.now;
  same = rw c.deref.ensures.value c.in-Ok.ensures.all;
  outcome =
      parsed_outcome c.deref.result.now c.parse.result
      (rw c.deref.ensures.value c.in-Ok.ensures.within) c.parse.ensures.read
      c.parse.ensures.refused;
}

pub returns-in-Ok-clause-end : goal.returns-in-Ok-clause-end
returns-in-Ok-clause-end g c = on_text c.parse.result _ c.in-Ok.ensures.end

pub returns-in-Ok-clause-all_read : goal.returns-in-Ok-clause-all_read
returns-in-Ok-clause-all_read g c =
    source_all_read _ c.deref.result.now c.parse.result
    (rw c.deref.ensures.value c.in-Ok.ensures.all)
    (λ program reads. c.parse.ensures.all_read program reads)

pub returns-in-Ok-clause-all_refused : goal.returns-in-Ok-clause-all_refused
returns-in-Ok-clause-all_refused g c =
    source_all_refused _ c.deref.result.now c.parse.result
    (rw c.deref.ensures.value c.in-Ok.ensures.all)
    (λ why line value refuses. c.parse.ensures.all_refused why line value refuses)

pub returns-in-Err-TooLong-clause-outcome : goal.returns-in-Err-TooLong-clause-outcome
returns-in-Err-TooLong-clause-outcome g c =
    too_long_text _ _ (c.in-Err-TooLong.ensures.too_long search)

pub returns-in-Err-ReadFault-clause-outcome : goal.returns-in-Err-ReadFault-clause-outcome
returns-in-Err-ReadFault-clause-outcome g c = any_text _ ReadFault (λ bytes. tt)

pub returns-in-Err-NoMemory-clause-outcome : goal.returns-in-Err-NoMemory-clause-outcome
returns-in-Err-NoMemory-clause-outcome g c = any_text _ NoMemory (λ bytes. tt)
