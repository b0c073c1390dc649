use Rattle.std.proofs.Common.{[], refl, subst, sym}
use Rattle.rule_normaliser.specs.declared.error.NormalError.{NormalError}
use Rattle.report.specs.Text.{text_of_line}
use Rattle.report.specs.declared.lines.Line.TheVariants as lines
use Rattle.report.specs.declared.lines.Why.TheVariants as whys
use Rattle.wasp2_run.specs.Run.{IsSizeRefusalOf, refusal}
use Rattle.wasp2_run.proofs.EndingLemmas.{ends_plainly}
use Rattle.wasp2_run.proofs.running.write_size_refusal.Goals as goal

pub returns-in-TooManyVariables : goal.returns-in-TooManyVariables
returns-in-TooManyVariables g c =
    ends_plainly 3
    (subst (λ (error : NormalError). IsSizeRefusalOf error 3 []
    (refusal 0 whys.TooManyVariables c.in-TooManyVariables.count))
    (sym c.in-TooManyVariables.is) (refl, refl, refl))
    c.refuse.ensures.written c.refuse.ensures.ended

pub returns-in-NoMemory : goal.returns-in-NoMemory
returns-in-NoMemory g c =
    ends_plainly 7
    (subst (λ (error : NormalError). IsSizeRefusalOf error 7 [] (text_of_line [] lines.NoMemory))
    (sym c.in-NoMemory.is) (refl, refl, refl))
    c.tell_no_memory.ensures.written c.tell_no_memory.ensures.ended
