-- An accepted input gets an answer, and by an ample budget one that decides its program.
use Rattle.std.proofs.Common.{◌≡◌, ◌≤◌, ◌⊎◌, ℕ, List, Option, Some, None, refl, sym}
use Rattle.std.proofs.Common.{subst, arith, ⊎_elim, inl, inr}
use Rattle.std.specs.Prelude.{IfSome}
use Rattle.byte_edges.specs.Faults.{Rose}
use Rattle.ground_program.specs.declared.program.Program.{Program}
use Rattle.normal_program.specs.Limit.{HasVariables}
use Rattle.normal_program.specs.declared.spent.SpentTest.{SpentTest}
use Rattle.lparse_reader.specs.Pieces.{Reads}
use Rattle.lparse_reader.specs.declared.fault.TextFault.{TextFault}
use Rattle.lparse_reader.specs.Refuses.{Refuses}
use Rattle.lparse_reader.specs.TextLaws.{HasOneOutcome}
use Rattle.lparse_reader.proofs.lemmas.Refusing.OutcomeLaw.{one_outcome}
use Rattle.run_words.specs.declared.task.Settings.{Settings}
use Rattle.query_run.specs.Answers.{Answers, complete, partial, incoherent}
use Rattle.query_run.specs.Answers as answers
use Rattle.query_run.specs.Budget.{IsDecidedBy}
use Rattle.query_run.proofs.BudgetLemmas.{answers_decide}
use Rattle.wasp2_run.specs.Run.{HasAnswered, IsAccepted, IsAllowed, IsAnswer, IsAnsweredBy}
use Rattle.wasp2_run.specs.Run.{IsDecidedAs}
use Rattle.wasp2_run.specs.Run.{QueryRow, Ran, answered, refused, too_long, read_fault, report}
use Rattle.wasp2_run.specs.Run.{too_large, none_left}
use Rattle.wasp2_run.specs.Run as table

-- two readings of a text that isn't too long are one
same_program : (input : List ℕ) (one other : Program) → HasOneOutcome input → Reads input one
    → Reads input other → one ≡ other
same_program input one other (inl (program, only)) first second =
    let is_one : one ≡ program = only.no_other one first in
    let is_other : other ≡ program = only.no_other other second in
    subst (λ (p : Program). one ≡ p) (sym is_other) is_one
same_program input one other (inr (why, line, value, only)) first second =
    absurd (only.no_reading one first)

-- what is read isn't refused
not_refused : (input : List ℕ) (program : Program) (why : TextFault) (line value : ℕ)
    → HasOneOutcome input → Reads input program → ¬ Refuses input why line value
not_refused input program why line value (inl (found, only)) reads refuses =
    only.no_refusal why line value refuses
not_refused input program why line value (inr (cause, at, number, only)) reads refuses =
    only.no_reading program reads

of_report : (program : Program) (settings : Settings) (status : ℕ) (spent : List SpentTest)
    (text : List ℕ) → Answers program settings status spent text → IsAnswer status
of_report program settings status spent text (complete given) = inl refl
of_report program settings status spent text (partial given) = inr (inl refl)
of_report program settings status spent text (incoherent given) = inr (inr (inl refl))
of_report program settings status spent text (answers.Answers.no_memory given) =
    inr (inr (inr refl))

-- what want of memory and each answer to a program say, an accepted input has said of its program
module _ (settings : Settings) (P : Program → ℕ → Type 0)
    (lost : (program : Program) → P program 7)
    (each : (program : Program) (status : ℕ) (spent : List SpentTest) (text : List ℕ)
    → Answers program settings status spent text → P program status) where
  of_answered : (program : Program) (status : ℕ) (spent : List SpentTest) (text : List ℕ)
      → ((count : ℕ) → HasVariables program count → count ≤ 1048575)
      → HasAnswered program settings status spent text → P program status
  of_answered program status spent text few (report given) =
      each program status spent text given
  of_answered program status spent text few (too_large {count = count} has more) =
      let most : count ≤ 1048575 = few count has in absurd (omega (arith, most, more))
  of_answered program status spent text few none_left = lost program

  of_row : (input : List ℕ) (before now status : ℕ) (spent : List SpentTest) (text : List ℕ)
      → QueryRow settings input before now status spent text → (accepted : IsAccepted input)
      → P accepted.program status ⊎ Rose before now
  of_row input before now status spent text (answered program short reads has) accepted =
      let same : program ≡ accepted.program =
      same_program input program accepted.program (one_outcome input short) reads accepted.reads in
      inl (of_answered accepted.program status spent text accepted.few
      (subst (λ (p : Program). HasAnswered p settings status spent text) same has))
  of_row input before now status spent text
      (refused {why = why} {line = line} {value = value} short refuses) accepted =
      absurd (not_refused input accepted.program why line value (one_outcome input short)
      accepted.reads refuses)
  of_row input before now status spent text (too_long long) accepted =
      absurd (omega (arith, long, accepted.short))
  of_row input before now status spent text (read_fault rose) accepted = inr rose
  of_row input before now status spent text table.QueryRow.no_memory accepted =
      inl (lost accepted.program)

  of_run : {K : Type 0} (written : K → Option (List ℕ)) (faults : K → ℕ) (told : Option (List ℕ))
      (before now : ℕ) (old new : K) (status : ℕ) (spent : List SpentTest)
      → Ran written faults (IsAllowed (λ input. QueryRow settings input before now) told) old new
      status spent
      → IfSome told (λ input. (accepted : IsAccepted input)
      → P accepted.program status ⊎ (Rose before now ⊎ Rose (faults old) (faults new)))
  of_run written faults None before now old new status spent ran = tt
  of_run written faults (Some left) before now old new status spent ran = λ accepted.
      ⊎_elim
      (λ allowed.
      let row : QueryRow settings left before now status spent ran.text =
      subst (λ (input : List ℕ). QueryRow settings input before now status spent ran.text)
      allowed.same allowed.row in
      ⊎_elim (λ answer. inl answer) (λ rose. inr (inl rose))
      (of_row left before now status spent ran.text row accepted))
      (λ (is, none, cut). inr (inr cut.rose))
      ran.ends

module _ {K : Type 0} (written : K → Option (List ℕ)) (faults : K → ℕ) (settings : Settings)
    (told : Option (List ℕ)) (before now : ℕ) (old new : K) (status : ℕ) (spent : List SpentTest)
  where
    -- so a run by the table answers what its source told
    pub accepted_by :
        Ran written faults (IsAllowed (λ input. QueryRow settings input before now) told) old new
        status spent
        → IfSome told (IsAnsweredBy status before now (faults old) (faults new))
    accepted_by ran =
        of_run settings (λ program n. IsAnswer n) (λ program. inr (inr (inr refl)))
        (λ program n tests text given. of_report program settings n tests text given) written
        faults told before now old new status spent ran

    -- and by an ample budget decides it
    pub decided_by :
        Ran written faults (IsAllowed (λ input. QueryRow settings input before now) told) old new
        status spent
        → IfSome told (IsDecidedAs settings.budget status before now (faults old) (faults new))
    decided_by ran =
        of_run settings (λ program n. IsDecidedBy program settings.budget n)
        (λ program. λ ample. inr (inr refl))
        (λ program n tests text given. answers_decide program settings n tests text given) written
        faults told before now old new status spent ran
