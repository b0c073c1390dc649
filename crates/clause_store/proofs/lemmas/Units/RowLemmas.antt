-- A clause over v variables as a row of v digits to base 3. Units have different rows, so they are
-- fewer than 3 to the power v.
use Rattle.std.proofs.Common.{◌≡◌, ◌≢◌, ◌⊎◌, ℕ, zero, suc, ◌+◌, ◌-◌, ◌*◌, ◌^◌, ◌<◌, ◌≤◌}
use Rattle.std.proofs.Common.{Bool, true, false, cond, eqb, List, [], ◌∷◌, ◌++◌, length, map}
use Rattle.std.proofs.Common.{get_or}
use Rattle.std.proofs.Common.{refl, sym, ap, ◌∙◌, subst, inl, inr, arith}
use Rattle.std.specs.Prelude.{All, Contains}
use Rattle.std.specs.List.{list_any}
use Rattle.std.proofs.lemmas.Bool.{cases_Bool, cases_eq, eqb-true, eq-eqb, ne_eqb}
use Rattle.std.proofs.lemmas.List.Elements.{All-cons, All-nil, All-contains, All-contains_itself}
use Rattle.std.proofs.lemmas.List.{get_or-map, length-map}
use Rattle.std.proofs.lemmas.List.Folds.{Any-from_list_any}
use Rattle.std.proofs.lemmas.Map.Steps.{length-le_from_distinct_below}
use Rattle.std.proofs.lemmas.Map.Keys.{IsDistinct-from_apart}
use Rattle.std.proofs.Math.Nat.{pow-succ'}
use Rattle.clause_store.specs.declared.literal.Lit.{Lit}
use Rattle.clause_store.specs.Clause.{variable, IsOver, HasAll, HasNoVariableTwice}
use Rattle.clause_store.specs.Entailment.{AreUnits}
use Rattle.clause_store.specs.UnitLaws.{UnitsAreFew}
use Rattle.clause_store.proofs.EntailmentLemmas.{units_differ}
use Rattle.clause_store.proofs.LiteralLemmas.{coded, lit_of_code, has_first, has_later}
use Rattle.clause_store.proofs.LiteralLemmas.{first_or_later}

-- ---- literals by their codes

-- whether a clause has the literal of a code
has_code : List Lit → ℕ → Bool
has_code [] code = false
has_code (lit ∷ rest) code = cond (eqb lit.0 code) true (has_code rest code)

code_there : (clause : List Lit) (lit : Lit) → Contains clause lit → has_code clause lit.0 ≡ true
unfolding has_code
code_there [] lit here = absurd (omega (arith, here.1))
code_there (first ∷ rest) lit here =
    elim (first_or_later first lit rest here) [
      | inl same ↦ rw (eq-eqb first.0 lit.0 (ap (λ l. l.0) same)) refl
      | inr later ↦ let there : has_code rest lit.0 ≡ true = code_there rest lit later in
          elim (cases_Bool (eqb first.0 lit.0))
          [ inl equal ↦ rw equal refl | inr other ↦ rw other there ]
    ]

there_by_code : (clause : List Lit) (code : ℕ) → has_code clause code ≡ true
    → Contains clause (coded code)
unfolding has_code
there_by_code [] code is = absurd (cc)
there_by_code (first ∷ rest) code is =
    elim (cases_Bool (eqb first.0 code)) [
      | inl equal ↦
          subst (Contains (first ∷ rest))
          (lit_of_code first (coded code) (eqb-true first.0 code equal)) (has_first first rest)
      | inr other ↦ has_later first (coded code) rest
          (there_by_code rest code
          (sym (ap (λ b. cond b true (has_code rest code)) other) ∙ is))
    ]

-- two literals of one variable in a clause are the same
pub one_of_variable : (clause : List Lit) (one two : Lit) → HasNoVariableTwice clause
    → Contains clause one → Contains clause two → variable one ≡ variable two → one ≡ two
one_of_variable [] one two once here there same = absurd (omega (arith, here.1))
one_of_variable (first ∷ rest) one two once here there same =
    elim (first_or_later first one rest here) [
      | inl is_one ↦ elim (first_or_later first two rest there) [
        | inl is_two ↦ sym is_one ∙ is_two
        | inr later ↦ absurd
            (All-contains (λ l. variable first ≢ variable l) rest two apart later
            (ap variable is_one ∙ same))
      ]
      | inr sooner ↦ elim (first_or_later first two rest there) [
        | inl is_two ↦ absurd
            (All-contains (λ l. variable first ≢ variable l) rest one apart sooner
            (ap variable is_two ∙ sym same))
        | inr later ↦ one_of_variable rest one two
            (λ i j d before inside. once (suc i) (suc j) d (omega arith) (omega arith)) sooner later
            same
      ]
    ]
  where
    apart : All (λ l. variable first ≢ variable l) rest
    apart k d within = once 0 (suc k) d (omega arith) (omega arith)

-- ---- digits

-- 1 for a literal that is there, 2 for its negation alone, 0 for neither
abbrev digit_by : Bool → Bool → ℕ
digit_by true no_there = 1
digit_by false true = 2
digit_by false false = 0

digit_by_small : (yes_there no_there : Bool) → digit_by yes_there no_there ≤ 2
digit_by_small true no_there = omega arith
digit_by_small false true = omega arith
digit_by_small false false = omega arith

is_first : (yes_there no_there : Bool) → digit_by yes_there no_there ≡ 1 → yes_there ≡ true
is_first true no_there is = refl
is_first false true is = absurd (omega (arith, is))
is_first false false is = absurd (omega (arith, is))

is_second : (yes_there no_there : Bool) → digit_by yes_there no_there ≡ 2 → no_there ≡ true
is_second true no_there is = absurd (omega (arith, is))
is_second false true is = refl
is_second false false is = absurd (omega (arith, is))

-- the digit of a variable in a clause
digit : List Lit → ℕ → ℕ
digit clause var = digit_by (has_code clause (2 * var)) (has_code clause (2 * var + 1))

digit_small : (clause : List Lit) (var : ℕ) → digit clause var ≤ 2
unfolding digit
digit_small clause var = digit_by_small (has_code clause (2 * var)) (has_code clause (2 * var + 1))

-- the code of a literal is one of two
parity : (lit : Lit) → (lit.0 ≡ 2 * variable lit) ⊎ (lit.0 ≡ 2 * variable lit + 1)
parity lit =
    elim (cases_eq lit.0 (2 * variable lit))
    [ inl even ↦ inl even | inr odd ↦ inr (omega (arith, odd)) ]

digit_even : (clause : List Lit) (lit : Lit) → Contains clause lit → lit.0 ≡ 2 * variable lit
    → digit clause (variable lit) ≡ 1
unfolding digit
digit_even clause lit here even =
    let there : has_code clause (2 * variable lit) ≡ true =
    sym (ap (has_code clause) even) ∙ code_there clause lit here in rw there refl

digit_odd : (clause : List Lit) (lit : Lit) → HasNoVariableTwice clause → Contains clause lit
    → lit.0 ≡ 2 * variable lit + 1 → digit clause (variable lit) ≡ 2
unfolding digit
digit_odd clause lit once here odd =
    elim (cases_Bool (has_code clause (2 * variable lit))) [
      | inl other ↦
          (let same : coded (2 * variable lit) ≡ lit =
          one_of_variable clause (coded (2 * variable lit)) lit once
          (there_by_code clause (2 * variable lit) other) here (omega arith) in
          absurd (omega (arith, odd, ap (λ l. l.0) same)))
      | inr none ↦
          let there : has_code clause (2 * variable lit + 1) ≡ true =
          sym (ap (has_code clause) odd) ∙ code_there clause lit here in
          rw (none, there) refl
    ]

-- a literal has a digit that isn't 0
digit_some : (clause : List Lit) (lit : Lit) → HasNoVariableTwice clause → Contains clause lit
    → 1 ≤ digit clause (variable lit)
digit_some clause lit once here =
    elim (parity lit) [
      | inl even ↦ let e = digit_even clause lit here even in omega (arith, e)
      | inr odd ↦ let e = digit_odd clause lit once here odd in omega (arith, e)
    ]

-- clauses with the same digit have the same literals of the variable
same_literal : (one two : List Lit) (lit : Lit) → HasNoVariableTwice one → Contains one lit
    → digit one (variable lit) ≡ digit two (variable lit) → Contains two lit
unfolding digit
same_literal one two lit once here same =
    elim (parity lit) [
      | inl even ↦
          subst (Contains two) (lit_of_code (coded (2 * variable lit)) lit (sym even))
          (there_by_code two (2 * variable lit)
          (is_first (has_code two (2 * variable lit)) (has_code two (2 * variable lit + 1))
          (sym same ∙ digit_even one lit here even)))
      | inr odd ↦
          subst (Contains two) (lit_of_code (coded (2 * variable lit + 1)) lit (sym odd))
          (there_by_code two (2 * variable lit + 1)
          (is_second (has_code two (2 * variable lit)) (has_code two (2 * variable lit + 1))
          (sym same ∙ digit_odd one lit once here odd)))
    ]

-- ---- rows

-- the digits of the variables from 1 on, as a number
row : List Lit → ℕ → ℕ
row clause zero = 0
row clause (suc vars) = 3 * row clause vars + digit clause (suc vars)

row_small : (clause : List Lit) (vars : ℕ) → row clause vars < 3 ^ vars
unfolding row
row_small clause zero = omega arith
row_small clause (suc vars) =
    let before : row clause vars < 3 ^ vars = row_small clause vars in
    let last : digit clause (suc vars) ≤ 2 = digit_small clause (suc vars) in
    let power : 3 ^ suc vars ≡ 3 * 3 ^ vars = pow-succ' 3 vars in
    omega (arith, before, last, power)

-- a row is at least each of its digits
digit_below : (clause : List Lit) (vars var : ℕ) → 1 ≤ var → var ≤ vars
    → digit clause var ≤ row clause vars
unfolding row
digit_below clause zero var first last = absurd (omega (arith, first, last))
digit_below clause (suc vars) var first last =
    elim (cases_eq var (suc vars)) [
      | inl same ↦ subst (λ v. digit clause v ≤ 3 * row clause vars + digit clause (suc vars))
          (sym same) (omega arith)
      | inr other ↦
          let before : digit clause var ≤ row clause vars =
          digit_below clause vars var first (omega (arith, last, other)) in
          omega (arith, before)
    ]

-- equal rows have equal digits
same_digit : (one two : List Lit) (vars var : ℕ) → row one vars ≡ row two vars → 1 ≤ var
    → var ≤ vars → digit one var ≡ digit two var
unfolding row
same_digit one two zero var same first last = absurd (omega (arith, first, last))
same_digit one two (suc vars) var same first last =
    let small_one : digit one (suc vars) ≤ 2 = digit_small one (suc vars) in
    let small_two : digit two (suc vars) ≤ 2 = digit_small two (suc vars) in
    elim (cases_eq var (suc vars)) [
      | inl is ↦
          subst (λ v. digit one v ≡ digit two v) (sym is)
          (omega (arith, same, small_one, small_two))
      | inr other ↦ same_digit one two vars var (omega (arith, same, small_one, small_two)) first
          (omega (arith, last, other))
    ]

-- so of two clauses with equal rows each has all literals of the other
same_literals : (vars : ℕ) (one two : List Lit) → HasNoVariableTwice one → All (IsOver vars) one
    → row one vars ≡ row two vars → HasAll two one
same_literals vars one two once over same k d within =
    same_literal one two (get_or one k d) once (All-contains_itself one k d within)
    (same_digit one two vars (variable (get_or one k d)) same (over k d within).first
    (over k d within).last)

-- ---- units

-- a unit has a literal and no variable twice
record IsProper (unit : List Lit) : Type 0 where
  some : 1 ≤ length unit
  once : HasNoVariableTwice unit

proper_units : (base units : List (List Lit)) → AreUnits base units → All IsProper units
proper_units base [] are = All-nil IsProper
proper_units base (unit ∷ rest) are =
    All-cons IsProper unit rest (record { some = are.0.some; once = are.0.once })
    (proper_units (base ++ unit ∷ []) rest are.1)

first_there : (clause : List Lit) → 1 ≤ length clause → (lit : Lit) × Contains clause lit
first_there [] some = absurd (omega (arith, some))
first_there (lit ∷ rest) some = (lit, has_first lit rest)

-- so its row isn't 0
row_some : (vars : ℕ) (unit : List Lit) → IsProper unit → All (IsOver vars) unit
    → 1 ≤ row unit vars
row_some vars unit proper over =
    let first = first_there unit proper.some in
    let within = All-contains (IsOver vars) unit first.0 over first.1 in
    let some : 1 ≤ digit unit (variable first.0) =
    digit_some unit first.0 proper.once first.1 in
    let below : digit unit (variable first.0) ≤ row unit vars =
    digit_below unit vars (variable first.0) within.first within.last in
    omega (arith, some, below)

pub units_are_few : UnitsAreFew
units_are_few vars base units over are =
    let few : length (map shifted units) ≤ 3 ^ vars - 1 =
    length-le_from_distinct_below (map shifted units) (3 ^ vars - 1)
    (IsDistinct-from_apart eqb (map shifted units) apart) below in
    let power : row [] vars < 3 ^ vars = row_small [] vars in
    omega (arith, few, length-map units shifted, power)
  where
    shifted : List Lit → ℕ
    shifted unit = row unit vars - 1

    proper : All IsProper units
    proper = proper_units base units are

    at : (k d : ℕ) → k < length units
        → get_or (map shifted units) k d ≡ shifted (get_or units k [])
    at k d within = get_or-map shifted units k [] d within

    apart : (i j d : ℕ) → i < j → j < length (map shifted units)
        → eqb (get_or (map shifted units) i d) (get_or (map shifted units) j d) ≡ false
    apart i j d before inside =
        let later : j < length units = omega (arith, inside, length-map units shifted) in
        let first : i < length units = omega (arith, later, before) in
        let some_one : 1 ≤ row (get_or units i []) vars =
        row_some vars (get_or units i []) (proper i [] first) (over i [] first) in
        let some_two : 1 ≤ row (get_or units j []) vars =
        row_some vars (get_or units j []) (proper j [] later) (over j [] later) in
        rw (at i d first, at j d later)
        (ne_eqb (shifted (get_or units i [])) (shifted (get_or units j []))
        (λ e. (units_differ base units are i j [] before later).0
        (same_literals vars (get_or units i []) (get_or units j []) (proper i [] first).once
        (over i [] first) (omega (arith, e, some_one, some_two)))))

    below : (q : ℕ) → list_any (eqb q) (map shifted units) ≡ true → q < 3 ^ vars - 1
    below q any =
        let some = Any-from_list_any (eqb q) (map shifted units) any in
        let within : some.0 < length units = omega (arith, some.2, length-map units shifted) in
        let small : row (get_or units some.0 []) vars < 3 ^ vars =
        row_small (get_or units some.0 []) vars in
        let positive : 1 ≤ row (get_or units some.0 []) vars =
        row_some vars (get_or units some.0 []) (proper some.0 [] within)
        (over some.0 [] within) in
        let e : q ≡ shifted (get_or units some.0 []) =
        eqb-true q some.1 some.4 ∙ sym some.3 ∙ at some.0 some.1 within in
        omega (arith, e, small, positive)
