-- A budget that is large enough is spent by no test.
use Rattle.std.proofs.Common.{◌≡◌, ◌≤◌, ◌<◌, ◌^◌, ◌⊎◌, ℕ, Bool, false, List, [], ◌∷◌, ◌++◌, length}
use Rattle.std.proofs.Common.{refl, sym, ap, subst, ◌∙◌, inl, inr, arith, cond, append_assoc}
use Rattle.std.proofs.Common.{Option, Some, None, Ok, Err}
use Rattle.std.specs.Prelude.{count_by, filter, map, IfOk, MatchOption, Result}
use Rattle.std.specs.List.{AllZip}
use Rattle.std.proofs.Math.Nat.{pow-le-pow_right}
use Rattle.std.proofs.lemmas.List.{same_from_push}
use Rattle.std.proofs.lemmas.List.Elements.{filter-append}
use Rattle.std.proofs.lemmas.List.Sums.{sum_by-cons}
use Rattle.ground_program.specs.declared.program.Mode.{Mode}
use Rattle.ground_program.specs.declared.program.Program.{Program}
use Rattle.clause_store.specs.declared.literal.Lit.{Lit}
use Rattle.clause_store.specs.Entailment.{AreUnits}
use Rattle.clause_store.proofs.lemmas.Units.RowLemmas.{units_are_few}
use Rattle.normal_program.specs.declared.normal.Normal.{Normal}
use Rattle.normal_program.specs.declared.spent.SpentTest.{SpentTest}
use Rattle.normal_program.specs.Clauses.{base_clauses}
use Rattle.normal_program.specs.Normal.{greatest_body_var, variables}
use Rattle.normal_program.specs.Spent.{AreUnitsOfTest, AreUnitsWithin, IsSpentTest, inner_clauses}
use Rattle.report.specs.declared.lines.Line.{Line}
use Rattle.report.specs.declared.lines.Line.TheVariants.{Answer, Unsettled, Unknown, Complete}
use Rattle.report.specs.declared.lines.Line.TheVariants.{Partial, Incoherent}
use Rattle.report.specs.Legal.{IsLegalLine, IsLegalReport, IsLegalSoFar, IsLegalVerdict, is_answer}
use Rattle.report.specs.Legal.{IsEachOpen, IsUnknown}
use Rattle.run_words.specs.declared.task.Settings.{Settings}
use Rattle.worker_jobs.specs.Spent.{IsSpentBy}
use Rattle.query_run.specs.declared.answering.Ended.{Ended}
use Rattle.query_run.specs.Answers.{Answers, Ends, IsNamedBy, IsPartialReport, names_test}
use Rattle.query_run.specs.Answers.{complete, partial, incoherent}
use Rattle.query_run.specs.Answers as answers
use Rattle.query_run.specs.Budget.{HasAnswerSet, IsDecidedBy}

-- ---- spent tests

-- a spent test has units over clauses of some kind
units_of : (normal : Normal) (test : SpentTest) → IsSpentTest normal test
    → (base : List (List Lit)) × AreUnits base test.units
units_of normal test spent = by_set test.inside spent.worth
  where
    by_set : (inside : Option (List Bool))
        → MatchOption inside (AreUnitsOfTest normal test) (AreUnitsWithin normal test)
        → (base : List (List Lit)) × AreUnits base test.units
    by_set None own = (base_clauses normal, own.units)
    by_set (Some set) within = (inner_clauses normal set, within.units)

-- the budget of a spent test is less than 3 to the power of the number of variables
pub spent_is_small : (normal : Normal) (test : SpentTest) → IsSpentTest normal test
    → test.budget < 3 ^ variables normal
spent_is_small normal test spent =
    let (base, are) = units_of normal test spent in
    let few : length test.units < 3 ^ greatest_body_var normal =
    units_are_few (greatest_body_var normal) base test.units spent.over are in
    let more : 3 ^ greatest_body_var normal ≤ 3 ^ variables normal =
    pow-le-pow_right (omega arith) (omega arith) in
    omega (arith, few, more, spent.all)

-- and so is one by whose settings a test was spent
marked_is_small : (normal : Normal) (number budget : ℕ) (literal : Option Lit) (test : SpentTest)
    → IsSpentBy normal number budget literal test → budget < 3 ^ variables normal
marked_is_small normal number budget literal test by =
    subst (λ n. n < 3 ^ variables normal) by.marked.budget (spent_is_small normal test by.spent)

-- and one by whose settings a line names a test
named_is_small : (normal : Normal) (settings : Settings) (line : Line) (test : SpentTest)
    → IsNamedBy normal settings line test → settings.budget < 3 ^ variables normal
named_is_small normal settings (Unsettled cand units) test own =
    marked_is_small normal test.by settings.budget _ test own.spent
named_is_small normal settings (Unknown units) test own =
    marked_is_small normal test.by settings.budget _ test own.spent.spent
named_is_small normal settings _ test own = absurd own

-- ---- reports

-- the parts of a report with this last line
record EndsWith (program : Program) (mode : Mode) (watch budget : ℕ) (before : List Line)
    (last : Line) : Type 0 where
  pub body : List Line
  pub tests : List Line
  pub parts : before ≡ body ++ tests
  pub so_far : IsLegalSoFar program mode watch body
  pub ended : IsLegalVerdict program watch budget body tests last

module _ (program : Program) (mode : Mode) (watch budget : ℕ) where
  ends_with : (before : List Line) (last : Line)
      → IsLegalReport program mode watch budget (before ++ last ∷ [])
      → EndsWith program mode watch budget before last
  ends_with before last legal =
      let same =
      same_from_push before (legal.body ++ legal.tests) last legal.verdict
      (legal.parts ∙ sym (append_assoc legal.body legal.tests (legal.verdict ∷ []))) in
      record {
        body = legal.body;
        tests = legal.tests;
        parts = same.0;
        so_far = legal.so_far;
        ended =
            subst (IsLegalVerdict program watch budget legal.body legal.tests) (sym same.1)
            legal.ended;
      }

  -- the first line behind the body of a partial report names a test
  first_names : (body tests : List Line)
      → IsUnknown budget body tests ⊎ IsEachOpen program budget body tests
      → (line : Line) × (rest : List Line) × (filter names_test tests ≡ line ∷ rest)
  first_names body tests (inl unknown) =
      (Unknown budget, [], ap (filter names_test) unknown.test)
  first_names body tests (inr each) = by_cands each.cands each.lines each.some
    where
      by_cands : (cands : List ℕ) → tests ≡ map (λ cand. Unsettled cand budget) cands
          → 1 ≤ length cands
          → (line : Line) × (rest : List Line) × (filter names_test tests ≡ line ∷ rest)
      by_cands [] lines some = absurd (omega (arith, some))
      by_cands (cand ∷ cands) lines some = (
        Unsettled cand budget,
        filter names_test (map (λ one. Unsettled one budget) cands),
        ap (filter names_test) lines,
      )

  abbrev counted : Bool → ℕ
  counted b = cond b 1 0

  -- where an answer line stands there is an answer set
  answer_or_none : (before : List Line) (line : Line) → IsLegalLine program mode watch before line
      → (is_answer line ≡ false) ⊎ HasAnswerSet program
  answer_or_none before (Answer number set) legal = inr (set, legal.answer_set)
  answer_or_none before _ legal = inl refl

  has_answer_set : (lines : List Line) → IsLegalSoFar program mode watch lines
      → 1 ≤ count_by is_answer lines → HasAnswerSet program
  has_answer_set lines so_far = behind [] lines refl
    where
      fewer : (line : Line) (rest : List Line) → is_answer line ≡ false
          → 1 ≤ count_by is_answer (line ∷ rest) → 1 ≤ count_by is_answer rest
      fewer line rest none some =
          let one : counted (is_answer line) ≡ 0 = ap counted none in
          omega (arith, some, one, sum_by-cons (λ item. counted (is_answer item)) line rest)

      behind : (front rest : List Line) → lines ≡ front ++ rest
          → 1 ≤ count_by is_answer rest → HasAnswerSet program
      behind front [] is some = absurd (omega (arith, some))
      behind front (line ∷ rest) is some =
          elim (answer_or_none front line (so_far.each front rest line is)) [
            | inl none ↦
                behind (front ++ line ∷ []) rest
                (is ∙ sym (append_assoc front (line ∷ []) rest)) (fewer line rest none some)
            | inr has ↦ has
          ]

-- a line among others stands beside an item
beside : {X Y : Type 0} (R : X → Y → Type 0) (xs rest : List X) (x : X) (ys : List Y)
    → AllZip R (xs ++ x ∷ rest) ys → (y : Y) × R x y
beside R [] rest x [] zip = absurd zip
beside R [] rest x (y ∷ ys) zip = (y, zip.0)
beside R (w ∷ xs) rest x [] zip = absurd zip
beside R (w ∷ xs) rest x (y ∷ ys) zip = beside R xs rest x ys zip.1

-- the budget of a partial report is small
pub partial_is_small : (program : Program) (settings : Settings) (spent : List SpentTest)
    (text : List ℕ) → (report : IsPartialReport program settings spent text)
    → settings.budget < 3 ^ variables report.normal
partial_is_small program settings spent text report =
    let ends =
    ends_with program settings.mode settings.watch settings.budget report.before Partial
    report.legal in
    let (line, rest, is) =
    first_names program settings.mode settings.watch settings.budget ends.body ends.tests
    ends.ended.spent in
    let named : filter names_test report.before
    ≡ filter names_test ends.body ++ line ∷ rest =
    ap (filter names_test) ends.parts ∙ filter-append names_test ends.body ends.tests
    ∙ ap (λ (lines : List Line). filter names_test ends.body ++ lines) is in
    let (test, by) =
    beside (IsNamedBy report.normal settings) (filter names_test ends.body) rest line spent
    (subst (λ (lines : List Line). AllZip (IsNamedBy report.normal settings) lines spent) named
    report.each) in
    named_is_small report.normal settings line test by

-- by an ample budget the answer decides the program
pub answers_decide : (program : Program) (settings : Settings) (status : ℕ)
    (spent : List SpentTest) (text : List ℕ) → Answers program settings status spent text
    → IsDecidedBy program settings.budget status
answers_decide program settings status spent text (complete report) = λ ample.
    let ends =
    ends_with program settings.mode settings.watch settings.budget report.before Complete
    report.legal in
    inl (
      refl,
      has_answer_set program settings.mode settings.watch settings.budget ends.body
          ends.so_far ends.ended.0.answered,
    )
answers_decide program settings status spent text (partial report) = λ ample.
    let small : settings.budget < 3 ^ variables report.normal =
    partial_is_small program settings spent text report in
    let large : 3 ^ variables report.normal ≤ settings.budget =
    ample (variables report.normal) (report.normal, report.form, refl) in
    absurd (omega (arith, small, large))
answers_decide program settings status spent text (incoherent report) = λ ample.
    let ends =
    ends_with program settings.mode settings.watch settings.budget report.before Incoherent
    report.legal in
    inr (inl (refl, λ has. ends.ended.0.none has.0 has.1))
answers_decide program settings status spent text (answers.Answers.no_memory report) = λ ample.
    inr (inr refl)

-- and so does the end of a query
pub decided_end : {K E : Type 0} {written : K → Option (List ℕ)} {faults : K → ℕ} {old new : K}
    (program : Program) (settings : Settings) (result : Result Ended E)
    → Ends written faults old new (Answers program settings) result
    → IfOk result (λ told. IsDecidedBy program settings.budget told.status)
decided_end program settings (Ok told) ends =
    subst (λ (t : Ended). IsDecidedBy program settings.budget t.status) (sym ends.given)
    (answers_decide program settings ends.status ends.spent ends.text ends.fits)
decided_end program settings (Err error) ends = tt
