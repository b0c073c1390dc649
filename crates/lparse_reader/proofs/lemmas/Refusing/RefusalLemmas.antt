-- A text is read or refused, and never both.
use Rattle.std.proofs.Common.{◌≡◌, ℕ, ◌≤◌, List, length, Option, Some, None, Result, Ok, Err, refl}
use Rattle.std.proofs.Common.{sym, ap, subst, ◌∙◌, arith}
use Rattle.std.specs.Prelude.{IfErr, IfSome}
use Rattle.ground_program.specs.declared.program.Program.{Program}
use Rattle.lparse_reader.specs.declared.fault.TextFault.{TextFault}
use Rattle.lparse_reader.specs.declared.fault.Fault.{Fault}
use Rattle.lparse_reader.specs.declared.fault.ReadError.{ReadError}
use Rattle.lparse_reader.specs.declared.fault.ReadError.TheVariants.{Text, TooLong, ReadFault}
use Rattle.lparse_reader.specs.declared.fault.ReadError.TheVariants.{NoMemory}
use Rattle.lparse_reader.specs.Reading.{program_at}
use Rattle.lparse_reader.specs.Refusal.{IsReadAnswer, told}
use Rattle.lparse_reader.specs.Due.{whole}
use Rattle.lparse_reader.specs.Refuses.{Breaks, Refuses, IsRefused, IsTextUnlessNoMemory}
use Rattle.lparse_reader.specs.Refuses.{IsTextUnlessSource}
use Rattle.lparse_reader.proofs.lemmas.Refusing.WholeFollows.{program_passes, program_breaks}
use Rattle.lparse_reader.proofs.lemmas.Refusing.OneOutcome.{same_outcome}

pub answer_refused : (bytes : List ℕ) (result : Result Program ReadError) → length bytes ≤ 67108864
    → IsReadAnswer bytes result (program_at bytes) → IfErr result (IsRefused bytes)
answer_refused bytes (Ok program) few answer = tt
answer_refused bytes (Err NoMemory) few answer = tt
answer_refused bytes (Err TooLong) few answer = answer
answer_refused bytes (Err ReadFault) few answer = answer
answer_refused bytes (Err (Text why line value)) few answer =
    record {
      fault = answer.0;
      breaks =
          program_breaks bytes answer.0 (omega (arith, few)) answer.1;
      told_so = answer.2;
    }

-- a text that breaks so is read as that fault
pub one_fault : (bytes : List ℕ) (first second : Fault) → length bytes ≤ 67108864
    → Breaks whole bytes first → program_at bytes ≡ Err second → first ≡ second
one_fault bytes first second few breaks e =
    let other = program_breaks bytes second (omega (arith, few)) e in
    some_fault first second
    (same_outcome breaks.items other.items whole bytes breaks.middle other.middle breaks.left
    other.left (Some first) (Some second) (omega (arith, few))
    breaks.row breaks.good breaks.ran breaks.fails other.row other.good other.ran other.fails)
  where
    some_fault : (f g : Fault) → Some f ≡ Some g → f ≡ g
    some_fault f g e = cc

-- a text that breaks isn't read as a program
pub no_program : (bytes : List ℕ) (fault : Fault) (program : Program) → length bytes ≤ 67108864
    → Breaks whole bytes fault → program_at bytes ≡ Ok program → ⊥
no_program bytes fault program few breaks e =
    let all = program_passes bytes program (omega (arith, few)) e in
    let same =
    same_outcome breaks.items all.passes.items whole bytes breaks.middle all.rest breaks.left _
    (Some fault) None (omega (arith, few))
    breaks.row breaks.good breaks.ran breaks.fails all.passes.row all.passes.good all.passes.ran
    (refl, all.blank) in cc

pub answer_all_refused : (bytes : List ℕ) (result : Result Program ReadError) (why : TextFault)
    (line value : ℕ) → length bytes ≤ 67108864 → IsReadAnswer bytes result (program_at bytes)
    → Refuses bytes why line value → IsTextUnlessNoMemory result why line value
answer_all_refused bytes (Ok program) why line value few answer refuses =
    no_program bytes refuses.fault program few refuses.breaks answer
answer_all_refused bytes (Err NoMemory) why line value few answer refuses = tt
answer_all_refused bytes (Err TooLong) why line value few answer refuses = answer
answer_all_refused bytes (Err ReadFault) why line value few answer refuses = answer
answer_all_refused bytes (Err (Text w l v)) why line value few answer refuses =
    sym answer.2 ∙ ap (told bytes)
    (sym (one_fault bytes refuses.fault answer.0 few refuses.breaks answer.1)) ∙ refuses.told_so

-- ---- the same of the bytes that a source told

source_text : (result : Result Program ReadError) (why : TextFault) (line value : ℕ)
    → IsTextUnlessNoMemory result why line value → IsTextUnlessSource result why line value
source_text (Ok found) why line value h = h
source_text (Err NoMemory) why line value h = h
source_text (Err TooLong) why line value h = h
source_text (Err ReadFault) why line value h = tt
source_text (Err (Text w l v)) why line value h = h

-- what is refused is told so of the bytes that a source told
pub source_all_refused : (left : Option (List ℕ)) (bytes : List ℕ)
    (result : Result Program ReadError) → IfSome left (λ told. bytes ≡ told)
    → ((why : TextFault) (line value : ℕ) → Refuses bytes why line value
    → IsTextUnlessNoMemory result why line value)
    → IfSome left
    (λ told. (why : TextFault) (line value : ℕ) → length told ≤ 67108864
    → Refuses told why line value → IsTextUnlessSource result why line value)
source_all_refused None bytes result same all = tt
source_all_refused (Some told) bytes result same all =
    λ why line value few refuses. source_text result why line value
    (all why line value (subst (λ (b : List ℕ). Refuses b why line value) (sym same) refuses))
