-- The answer where each test that is left was spent.
use Rattle.std.proofs.Common.{◌≡◌, ◌≤◌, ◌<◌, ◌⊎◌, ℕ, zero, suc, Bool, true}
use Rattle.std.proofs.Common.{false, List, [], ◌∷◌, ◌++◌, length, get_or, refl, sym, ap, subst}
use Rattle.std.proofs.Common.{◌∙◌, ⊎_elim, inl, inr, arith, append_assoc}
use Rattle.std.proofs.Common.{Option, Some, None}
use Rattle.std.specs.Prelude.{All, AllPairs, Contains, IfNone, filter, map}
use Rattle.std.specs.List.{AllZip, range_with_len}
use Rattle.std.specs.List.Sorted.{IsStrictlyIncreasing}
use Rattle.std.proofs.lemmas.Bool.{cases_lt}
use Rattle.std.proofs.lemmas.List.Elements.{All-head, All-tail, All-cons}
use Rattle.std.proofs.lemmas.List.{get_or_default}
use Rattle.std.proofs.lemmas.List.Kept.{AllPairs-cons, AllPairs-from_increasing}
use Rattle.std.proofs.lemmas.List.Kept.{IsStrictlyIncreasing-filter}
use Rattle.ground_program.specs.declared.program.Mode.{Mode}
use Rattle.ground_program.specs.declared.program.Program.{Program}
use Rattle.ground_program.specs.Bounds.{IsCandidate}
use Rattle.normal_program.specs.declared.normal.Normal.{Normal}
use Rattle.normal_program.specs.declared.spent.SpentTest.{SpentTest}
use Rattle.normal_program.specs.Spent.{AreApart}
use Rattle.normal_program.specs.Clauses.{base_clauses}
use Rattle.clause_store.specs.Entailment.{AreUnits}
use Rattle.report.specs.declared.lines.Line.{Line}
use Rattle.report.specs.declared.lines.Line.TheVariants.{Answer, SettledIn, SettledOut, Sizes}
use Rattle.report.specs.declared.lines.Line.TheVariants.{Watch, Unsettled, Unknown, Complete}
use Rattle.report.specs.declared.lines.Line.TheVariants.{Partial, Incoherent, NoMemory, Refused}
use Rattle.report.specs.Legal.{IsLegalSoFar, IsLegalLine}
use Rattle.run_words.specs.declared.task.Settings.{Settings}
use Rattle.master_record.specs.declared.own.OwnTest.{OwnTest}
use Rattle.master_record.specs.Course.{is_open}
use Rattle.master_record.specs.Books.{Books, IsOpenCandidate, open_list}
use Rattle.master_record.specs.Sound.{IsSound, IsOwn}
use Rattle.master_record.specs.Verdicts.{IsTested, IsTestOf}
use Rattle.master_record.specs.Verdicts.{AreOwnTests}
use Rattle.master_record.proofs.FoundLemmas.{is_open_of}
use Rattle.master_record.proofs.LeftLemmas.{any_filtered}
use Rattle.query_run.specs.Answers.{IsNamedBy, names_test}
use Rattle.query_run.proofs.JobLemmas.{open_listed, open_by}
use Rattle.query_run.proofs.FallLemmas.{candidate_among}
use Rattle.query_run.proofs.AscendLemmas.{same_ascending, range_increases}

-- ---- lines

-- lines that may begin a report name no test
pub none_named : (program : Program) (mode : Mode) (watch : ℕ) (lines : List Line)
    → IsLegalSoFar program mode watch lines → filter names_test lines ≡ []
none_named program mode watch lines so_far = behind [] lines refl
  where
    keep : (line : Line) (rest : List Line) → names_test line ≡ false
        → filter names_test rest ≡ [] → filter names_test (line ∷ rest) ≡ []
    keep line rest no_name none = rw no_name none

    no_test : (before : List Line) (line : Line) → IsLegalLine program mode watch before line
        → names_test line ≡ false
    no_test before (Answer number members) legal = refl
    no_test before (SettledIn cand by) legal = refl
    no_test before (SettledOut cand by) legal = refl
    no_test before (Sizes low up) legal = refl
    no_test before (Watch watcher low up) legal = refl
    no_test before (Unsettled cand units) legal = absurd legal
    no_test before (Unknown units) legal = absurd legal
    no_test before Complete legal = refl
    no_test before Partial legal = refl
    no_test before Incoherent legal = refl
    no_test before NoMemory legal = refl
    no_test before (Refused number why value) legal = refl

    behind : (front rest : List Line) → lines ≡ front ++ rest → filter names_test rest ≡ []
    behind front [] is = refl
    behind front (line ∷ rest) is =
        keep line rest (no_test front line (so_far.each front rest line is))
        (behind (front ++ line ∷ []) rest (is ∙ sym (append_assoc front (line ∷ []) rest)))

-- lines of open candidates all name one
pub all_named : (budget : ℕ) (cands : List ℕ)
    → filter names_test (map (λ (cand : ℕ). Unsettled cand budget) cands)
    ≡ map (λ (cand : ℕ). Unsettled cand budget) cands
all_named budget [] = refl
all_named budget (cand ∷ cands) = ap (λ (xs : List Line). Unsettled cand budget ∷ xs) (all_named budget cands)

-- ---- tests

-- two tests are apart in either order
apart_sym : (normal : Normal) (one two : SpentTest) → AreApart normal one two
    → AreApart normal two one
apart_sym normal one two apart =
    both (AreUnits (base_clauses normal ++ one.units) two.units)
    (AreUnits (base_clauses normal ++ two.units) one.units) one.inside two.inside apart
  where
    both : (P Q : Type 0) (a b : Option (List Bool)) → IfNone a (IfNone b (P ⊎ Q))
        → IfNone b (IfNone a (Q ⊎ P))
    both P Q None None is = ⊎_elim (λ p. inr p) (λ q. inl q) is
    both P Q None (Some members) is = tt
    both P Q (Some members) None is = tt
    both P Q (Some members) (Some others) is = tt

module _ (books : Books) (sound : IsSound books) where
  -- two own tests of one worker are apart
  two_apart : (one two : OwnTest) → Contains books.own one → Contains books.own two
      → one.cand < two.cand → one.test.by ≡ two.test.by
      → AreApart books.normal one.test two.test
  two_apart one two (i, within_i, is_i) (j, within_j, is_j) less same =
      ⊎_elim
      (λ first.
      let held : one.test.by ≡ two.test.by → AreApart books.normal one.test two.test =
      pair i j one two is_i is_j first within_j in held same)
      (λ rest.
      ⊎_elim
      (λ equal. absurd (differ equal))
      (λ after.
      let held : two.test.by ≡ one.test.by → AreApart books.normal two.test one.test =
      pair j i two one is_j is_i after within_i in
      apart_sym books.normal two.test one.test (held (sym same)))
      (order j i rest))
      (cases_lt i j)
    where
      order : (a b : ℕ) → a ≤ b → (a ≡ b) ⊎ (a < b)
      order a b le =
          ⊎_elim (λ less_than. inr less_than) (λ past. inl (omega (arith, le, past))) (cases_lt a b)

      differ : j ≡ i → ⊥
      differ equal =
          let same_one : get_or books.own i two ≡ two = subst (λ n. get_or books.own n two ≡ two) equal is_j in
          let other : get_or books.own i one ≡ get_or books.own i two = get_or_default books.own i one two within_i in
          let e : one.cand ≡ two.cand = ap (λ (item : OwnTest). item.cand) (sym is_i ∙ other ∙ same_one) in
          omega (arith, e, less)

      pair : (a b : ℕ) (x y : OwnTest) → get_or books.own a x ≡ x → get_or books.own b y ≡ y → a < b
          → b < length books.own → (x.test.by ≡ y.test.by → AreApart books.normal x.test y.test)
      pair a b x y is_x is_y before within =
          let default : get_or books.own b x ≡ get_or books.own b y =
          get_or_default books.own b x y within in
          let held = sound.apart a b x before within in
          subst (λ (z : OwnTest). x.test.by ≡ z.test.by → AreApart books.normal x.test z.test)
          (default ∙ is_y)
          (subst (λ (z : OwnTest). z.test.by ≡ (get_or books.own b x).test.by
          → AreApart books.normal z.test (get_or books.own b x).test) is_x held)

  -- one test and later ones
  apart_later : (cand : ℕ) (test : SpentTest) (cands : List ℕ) (tests : List SpentTest)
      → Contains books.own (record { cand = cand; test = test })
      → AllZip (IsTestOf books.own) cands tests
      → All (λ other. cand < other) cands
      → All (λ other. test.by ≡ other.by → AreApart books.normal test other) tests
  apart_later cand test [] [] has zip above = λ k d within. absurd (omega (arith, within))
  apart_later cand test [] (other ∷ tests) has zip above = absurd zip
  apart_later cand test (next ∷ cands) [] has zip above = absurd zip
  apart_later cand test (next ∷ cands) (other ∷ tests) has zip above =
      All-cons (λ (one : SpentTest). test.by ≡ one.by → AreApart books.normal test one) other tests
      (λ same. two_apart (record { cand = cand; test = test }) (record { cand = next; test = other })
      has zip.0 (All-head (λ (n : ℕ). cand < n) next cands above) same)
      (apart_later cand test cands tests has zip.1 (All-tail (λ (n : ℕ). cand < n) next cands above))

  pub tests_apart : (cands : List ℕ) (tests : List SpentTest)
      → AllZip (IsTestOf books.own) cands tests → AllPairs (λ a b. a < b) cands
      → AllPairs (λ earlier later. earlier.by ≡ later.by → AreApart books.normal earlier later) tests
  tests_apart [] [] zip ascend = λ i j d less within. absurd (omega (arith, within))
  tests_apart [] (test ∷ tests) zip ascend = absurd zip
  tests_apart (cand ∷ cands) [] zip ascend = absurd zip
  tests_apart (cand ∷ cands) (test ∷ tests) zip ascend =
      AllPairs-cons (λ (a b : SpentTest). a.by ≡ b.by → AreApart books.normal a b) test tests
      (apart_later cand test cands tests zip.0 zip.1
      (λ k d within. ascend 0 (suc k) d (omega arith) (omega arith)))
      (tests_apart cands tests zip.1
      (λ i j d less within. ascend (suc i) (suc j) d (omega arith) (omega arith)))

  -- the tests that the lines name
  pub tests_named : (settings : Settings) → books.mode ≡ settings.mode
      → books.budget ≡ settings.budget → length books.workers ≡ settings.workers
      → (cands : List ℕ) (tests : List SpentTest) → AllZip (IsTestOf books.own) cands tests
      → AllZip (IsNamedBy books.normal settings)
      (map (λ (cand : ℕ). Unsettled cand books.budget) cands) tests
  tests_named settings mode budget workers [] [] zip = tt
  tests_named settings mode budget workers [] (test ∷ tests) zip = absurd zip
  tests_named settings mode budget workers (cand ∷ cands) [] zip = absurd zip
  tests_named settings mode budget workers (cand ∷ cands) (test ∷ tests) zip = (
    own_by (record { cand = cand; test = test }) zip.0,
    tests_named settings mode budget workers cands tests zip.1,
  )
    where
      own_by : (one : OwnTest) → Contains books.own one
          → IsOwn books.normal settings.mode settings.budget settings.workers one
      own_by one (k, within, is) =
          subst (λ (m : Mode). IsOwn books.normal m settings.budget settings.workers one) mode
          (subst (λ n. IsOwn books.normal books.mode n settings.workers one) budget
          (subst (λ n. IsOwn books.normal books.mode books.budget n one) workers
          (subst (IsOwn books.normal books.mode books.budget (length books.workers)) is
          (sound.own k one within))))

-- ---- the open candidates

-- an item that passes is among those that pass
contains_filtered : (p : ℕ → Bool) (xs : List ℕ) (x : ℕ) → p x ≡ true → Contains xs x
    → Contains (filter p xs) x
contains_filtered p xs x passes (k, within, is) =
    let (j, y, less, at, same) =
    any_filtered (λ (z : ℕ). z ≡ x) p
    (λ z here. subst (λ n. p n ≡ true) (sym here) passes) xs (k, x, within, is, refl) in
    (j, less, subst (λ n. get_or (filter p xs) j n ≡ n) same at)

module _ (books : Books) where
  -- each open candidate is listed
  pub listed_open : (cand : ℕ) → IsOpenCandidate books cand → Contains (open_list books) cand
  listed_open cand unsettled =
      contains_filtered (is_open books.pair) (range_with_len 1 (length books.normal.names)) cand
      (is_open_of books.normal.names books.pair cand unsettled)
      (candidate_among books.normal.names cand unsettled.candidate)

  -- and only those
  pub open_by_list : (cand : ℕ) → Contains (open_list books) cand → IsOpenCandidate books cand
  open_by_list cand (k, within, is) =
      subst (IsOpenCandidate books) is (open_listed books k cand within)

  pub list_ascends : IsStrictlyIncreasing (open_list books)
  list_ascends =
      IsStrictlyIncreasing-filter (is_open books.pair)
      (range_with_len 1 (length books.normal.names))
      (range_increases 1 (length books.normal.names))

  -- a number beside a test
  zip_has : (cands : List ℕ) (tests : List SpentTest) → AllZip (IsTestOf books.own) cands tests
      → (z : ℕ) → Contains cands z → (test : SpentTest) × IsTestOf books.own z test
  zip_has [] tests zip z (k, within, is) = absurd (omega (arith, within))
  zip_has (cand ∷ cands) [] zip z has = absurd zip
  zip_has (cand ∷ cands) (test ∷ tests) zip z (zero, within, is) =
      (test, subst (λ n. IsTestOf books.own n test) is zip.0)
  zip_has (cand ∷ cands) (test ∷ tests) zip z (suc k, within, is) =
      zip_has cands tests zip.1 z (k, omega arith, is)

  -- the candidates of the tests are just the open ones
  pub tests_are_open : IsSound books
      → All (λ (one : OwnTest). is_open books.pair one.cand ≡ true) books.own
      → ((cand : ℕ) → IsOpenCandidate books cand → IsTested books cand)
      → (tests : List SpentTest) → (are : AreOwnTests books.own tests)
      → are.cands ≡ open_list books
  tests_are_open sound unsettled each tests are =
      same_ascending are.cands (open_list books) are.ascending
      (AllPairs-from_increasing (open_list books) list_ascends)
      (λ z. (
        λ has.
            let (test, (k, within, is)) = zip_has are.cands tests are.each z has in
            let one : OwnTest = record { cand = z; test = test } in
            let candidate : IsCandidate books.normal.names z =
            subst (λ (item : OwnTest). IsCandidate books.normal.names item.cand) is
            (sound.own k one within).candidate in
            let free : is_open books.pair z ≡ true =
            subst (λ (item : OwnTest). is_open books.pair item.cand ≡ true) is
            (unsettled k one within) in
            listed_open z (open_by books.normal.names books.pair z candidate free),
        λ has.
            let (k, one, within, is, same) = each z (open_by_list z has) in
            let there : Contains are.cands (get_or books.own k one).cand = are.all k one within in
            subst (Contains are.cands) (ap (λ (item : OwnTest). item.cand) is ∙ same) there,
      ))

-- the open list names candidates
pub listed_candidates : (books : Books) → All (IsCandidate books.normal.names) (open_list books)
listed_candidates books = λ k d within. (open_listed books k d within).candidate
