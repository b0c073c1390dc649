-- Which row of the table a run comes to.
use Rattle.std.proofs.Common.{◌≡◌, ◌≢◌, ℕ, List, [], Option, Some, None, Ok, Err}
use Rattle.std.proofs.Common.{ap, refl, sym, subst, arith, ⊎_elim, inl, inr}
use Rattle.byte_edges.specs.Faults.{Rose}
use Rattle.ground_program.specs.declared.program.Program.{Program}
use Rattle.lparse_reader.specs.Refuses.{IsOutcome, IsOfSomeText}
use Rattle.lparse_reader.specs.declared.fault.ReadError.{ReadError}
use Rattle.lparse_reader.specs.declared.fault.ReadError.TheVariants.{Text, TooLong, ReadFault}
use Rattle.lparse_reader.specs.declared.fault.ReadError.TheVariants.{NoMemory}
use Rattle.normal_program.specs.declared.spent.SpentTest.{SpentTest}
use Rattle.rule_normaliser.specs.Cause.{IsCauseOf}
use Rattle.rule_normaliser.specs.declared.error.NormalError.{NormalError}
use Rattle.rule_normaliser.specs.declared.error.NormalError.TheVariants.{TooManyVariables}
use Rattle.rule_normaliser.specs.declared.error.NormalError.TheVariants as sizes
use Rattle.report.specs.declared.lines.Line.TheVariants as lines
use Rattle.report.specs.Text.{text_of_line}
use Rattle.run_words.specs.declared.task.Settings.{Settings}
use Rattle.run_words.specs.declared.task.Task.{Task}
use Rattle.run_words.specs.declared.task.Task.TheVariants.{Query}
use Rattle.run_words.specs.Words.{OneIsOrdered, Orders}
use Rattle.query_run.specs.Answers.{Answers, complete, partial, incoherent}
use Rattle.query_run.specs.Answers as answers
use Rattle.report.specs.declared.lines.Why.TheVariants as whys
use Rattle.wasp2_run.specs.Run.{AreOther, HasAnswered, IsAllowed, IsCutOff, IsRefusalOf, QueryRow}
use Rattle.wasp2_run.specs.Run.{Ran, Row, answered, refused, too_long, read_fault, report}
use Rattle.wasp2_run.specs.Run.{too_large, none_left, query, other_words, refusal, refusal_status}
use Rattle.wasp2_run.specs.Run.{refusal_text, IsSizeRefusalOf}
use Rattle.wasp2_run.specs.Run as table

-- the row of a program
pub allowed_answer : (settings : Settings) (told : Option (List ℕ)) (before now : ℕ)
    (program : Program) (status : ℕ) (spent : List SpentTest) (text : List ℕ)
    → IsOfSomeText told (Ok program) → HasAnswered program settings status spent text
    → IsAllowed (λ input. QueryRow settings input before now) told status spent text
allowed_answer settings told before now program status spent text of has = record {
  input = of.bytes;
  same = of.same;
  row = answered program of.outcome.0 of.outcome.1 has;
}

row_is : (settings : Settings) (input : List ℕ) (before now status other : ℕ)
    (spent none : List SpentTest) (text same : List ℕ)
    → QueryRow settings input before now status spent text → other ≡ status → none ≡ spent
    → same ≡ text → QueryRow settings input before now other none same
row_is settings input before now status other spent none text same row is_status is_spent is_text =
    subst (λ n. QueryRow settings input before now n none same) (sym is_status)
    (subst (λ (tests : List SpentTest). QueryRow settings input before now status tests same)
    (sym is_spent)
    (subst (λ (t : List ℕ). QueryRow settings input before now status spent t) (sym is_text) row))

-- the row of an input that gives no program
row_refusal : (settings : Settings) (input : List ℕ) (before now : ℕ) (error : ReadError)
    → IsOutcome input (Err error) → (error ≡ ReadFault → Rose before now)
    → QueryRow settings input before now (refusal_status error) [] (refusal_text error)
row_refusal settings input before now (Text why line value) outcome rose =
    refused outcome.0 outcome.1
row_refusal settings input before now TooLong outcome rose = too_long outcome
row_refusal settings input before now ReadFault outcome rose = read_fault (rose refl)
row_refusal settings input before now NoMemory outcome rose = table.QueryRow.no_memory

pub allowed_refusal : (settings : Settings) (told : Option (List ℕ)) (before now : ℕ)
    (error : ReadError) (status : ℕ) (spent : List SpentTest) (text : List ℕ)
    → IsOfSomeText told (Err error) → (error ≡ ReadFault → Rose before now)
    → IsRefusalOf error status spent text
    → IsAllowed (λ input. QueryRow settings input before now) told status spent text
allowed_refusal settings told before now error status spent text of rose is = record {
  input = of.bytes;
  same = of.same;
  row =
      row_is settings of.bytes before now (refusal_status error) status [] spent
      (refusal_text error) text (row_refusal settings of.bytes before now error of.outcome rose)
      is.0 is.1 is.2;
}

has_is : (program : Program) (settings : Settings) (status other : ℕ)
    (spent none : List SpentTest) (text same : List ℕ)
    → HasAnswered program settings status spent text → other ≡ status → none ≡ spent
    → same ≡ text → HasAnswered program settings other none same
has_is program settings status other spent none text same has is_status is_spent is_text =
    subst (λ n. HasAnswered program settings n none same) (sym is_status)
    (subst (λ (tests : List SpentTest). HasAnswered program settings status tests same)
    (sym is_spent)
    (subst (λ (t : List ℕ). HasAnswered program settings status spent t) (sym is_text) has))

-- what is written where there is no normal form
pub size_row : (program : Program) (settings : Settings) (error : NormalError) (status : ℕ)
    (spent : List SpentTest) (text : List ℕ) → IsCauseOf program error
    → IsSizeRefusalOf error status spent text → HasAnswered program settings status spent text
size_row program settings (TooManyVariables count) status spent text cause is =
    has_is program settings 3 status [] spent (refusal 0 whys.TooManyVariables count) text
    (too_large cause.0 cause.1) is.0 is.1 is.2
size_row program settings sizes.NoMemory status spent text cause is =
    has_is program settings 7 status [] spent (text_of_line [] lines.NoMemory) text none_left is.0
    is.1 is.2

-- for a program no status says that reading failed, that the words are refused or that writing
-- failed
of_answer : (program : Program) (settings : Settings) (status : ℕ) (spent : List SpentTest)
    (text : List ℕ) → Answers program settings status spent text
    → (status ≢ 5) × (status ≢ 4) × (status ≢ 6)
of_answer program settings status spent text (complete given) = (
  λ e. omega (arith, e),
  λ e. omega (arith, e),
  λ e. omega (arith, e),
)
of_answer program settings status spent text (partial given) = (
  λ e. omega (arith, e),
  λ e. omega (arith, e),
  λ e. omega (arith, e),
)
of_answer program settings status spent text (incoherent given) = (
  λ e. omega (arith, e),
  λ e. omega (arith, e),
  λ e. omega (arith, e),
)
of_answer program settings status spent text (answers.Answers.no_memory given) = (
  λ e. omega (arith, e),
  λ e. omega (arith, e),
  λ e. omega (arith, e),
)

pub answers_apart : (program : Program) (settings : Settings) (status : ℕ)
    (spent : List SpentTest) (text : List ℕ) → HasAnswered program settings status spent text
    → (status ≢ 5) × (status ≢ 4) × (status ≢ 6)
answers_apart program settings status spent text (report given) =
    of_answer program settings status spent text given
answers_apart program settings status spent text (too_large has more) = (
  λ e. omega (arith, e),
  λ e. omega (arith, e),
  λ e. omega (arith, e),
)
answers_apart program settings status spent text none_left = (
  λ e. omega (arith, e),
  λ e. omega (arith, e),
  λ e. omega (arith, e),
)

-- a refusal's status is none that words or a sink have, and 5 only after a fault
pub refusal_apart : (error : ReadError) → (refusal_status error ≢ 4) × (refusal_status error ≢ 6)
refusal_apart (Text why line value) = (λ e. omega (arith, e), λ e. omega (arith, e))
refusal_apart TooLong = (λ e. omega (arith, e), λ e. omega (arith, e))
refusal_apart ReadFault = (λ e. omega (arith, e), λ e. omega (arith, e))
refusal_apart NoMemory = (λ e. omega (arith, e), λ e. omega (arith, e))

-- ---- words

-- a table with more rows allows more
pub allowed_more : (One More : List ℕ → ℕ → List SpentTest → List ℕ → Type 0)
    (told : Option (List ℕ)) → ((input : List ℕ) (status : ℕ) (spent : List SpentTest) (text : List ℕ)
    → One input status spent text → More input status spent text)
    → (status : ℕ) (spent : List SpentTest) (text : List ℕ) → IsAllowed One told status spent text
    → IsAllowed More told status spent text
allowed_more One More told more status spent text one = record {
  input = one.input;
  same = one.same;
  row = more one.input status spent text one.row;
}

-- so does a run by it
pub ran_more : {K : Type 0} (written : K → Option (List ℕ)) (faults : K → ℕ)
    (One More : ℕ → List SpentTest → List ℕ → Type 0) (old new : K) (status : ℕ)
    (spent : List SpentTest)
    → ((n : ℕ) (tests : List SpentTest) (text : List ℕ) → One n tests text → More n tests text)
    → Ran written faults One old new status spent → Ran written faults More old new status spent
ran_more written faults One More old new status spent more ran = record {
  text = ran.text;
  appended = ran.appended;
  ends =
      ⊎_elim (λ one. inl (more status spent ran.text one))
      (λ (is, none, cut). inr (
        is,
        none,
        record {
          rose = cut.rose;
          status = cut.status;
          spent = cut.spent;
          whole = cut.whole;
          allowed = more cut.status cut.spent cut.whole cut.allowed;
          count = cut.count;
          part = cut.part;
        },
      ))
      ran.ends;
}

-- the settings of a task
abbrev settings_in : Task → Settings
settings_in (Query settings) = settings

-- what is so by the settings that words order is so by all that they order
pub by_ordered : (words : List (List ℕ)) (P : Settings → Type 0) → OneIsOrdered
    → (settings : Settings) → Orders words (Query settings) → P settings
    → (other : Settings) → Orders words (Query other) → P other
by_ordered words P one settings orders has other also =
    subst P (ap settings_in (one words (Query settings) (Query other) orders also)) has

-- the row of words that order a query
pub ran_query : {K : Type 0} (written : K → Option (List ℕ)) (faults : K → ℕ)
    (words : List (List ℕ)) (settings : Settings) (told : Option (List ℕ)) (before now : ℕ)
    (old new : K) (status : ℕ) (spent : List SpentTest) → Orders words (Query settings)
    → Ran written faults (IsAllowed (λ input. QueryRow settings input before now) told) old new
    status spent
    → Ran written faults (IsAllowed (λ input. Row words input before now) told) old new status spent
ran_query written faults words settings told before now old new status spent orders ran =
    ran_more written faults (IsAllowed (λ input. QueryRow settings input before now) told)
    (IsAllowed (λ input. Row words input before now) told) old new status spent
    (allowed_more (λ input. QueryRow settings input before now)
    (λ input. Row words input before now) told
    (λ input n tests text row. query settings orders row))
    ran

-- the row of other words
pub allowed_words : (words : List (List ℕ)) (told : Option (List ℕ)) (before now : ℕ)
    → AreOther words
    → IsAllowed (λ input. Row words input before now) told 4 [] (refusal 0 whys.Words 0)
allowed_words words None before now none =
    record { input = []; same = tt; row = other_words none }
allowed_words words (Some left) before now none =
    record { input = left; same = refl; row = other_words none }
