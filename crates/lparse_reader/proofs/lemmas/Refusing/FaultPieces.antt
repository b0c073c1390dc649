-- A field that is due fails exactly where its reading does.
use Rattle.std.proofs.Common.{◌≡◌, ℕ, ◌+◌, ◌-◌, ◌*◌, ◌≤◌, Bool, true, false, ltb, List, [], ◌∷◌}
use Rattle.std.proofs.Common.{◌++◌, length, Result, Ok, Err, refl, sym, ap, subst, ◌∙◌, arith, inl}
use Rattle.std.proofs.Common.{inr, ◌⊎◌}
use Rattle.std.specs.List.{AllByRecursion}
use Rattle.std.specs.Char.{is_ascii_digit}
use Rattle.std.proofs.lemmas.Bool.{lt-ltb, le-ltb, ltb-true, ltb-false}
use Rattle.std.proofs.lemmas.List.{append-nil}
use Rattle.lparse_reader.specs.declared.fault.Fault.{Fault}
use Rattle.lparse_reader.specs.declared.fault.Fault.TheVariants.{Ended, At}
use Rattle.lparse_reader.specs.declared.fault.TextFault.TheVariants.{NotANumber, NumberTooLarge}
use Rattle.lparse_reader.specs.Tokens.{is_separator, skipped}
use Rattle.lparse_reader.specs.Fields.{◌>>=◌, digits_at, number_here, number_at}
use Rattle.lparse_reader.specs.Pieces.{IsGap, value_of}
use Rattle.lparse_reader.specs.Refuses.{NoToken, IsWrong, BadNumber}
use Rattle.lparse_reader.proofs.lemmas.Pieces.NumberPieces.{skipped_gap, skips, skipped_token}
use Rattle.lparse_reader.proofs.lemmas.Pieces.NumberPieces.{digit_no_separator}

abbrev pub fault_of : {A : Type 0} → Fault → Result A Fault
fault_of fault = Err fault

pub fault_is : {A : Type 0} (f g : Fault) → fault_of {A = A} f ≡ Err g → f ≡ g
fault_is f g e = cc

-- where a step failed, the first part failed, or it didn't and the second part failed
pub bind_err : {A B : Type 0} (r : Result A Fault) (next : A → Result B Fault) (fault : Fault)
    → (r >>= next) ≡ Err fault
    → (r ≡ Err fault) ⊎ ((x : A) × (r ≡ Ok x) × (next x ≡ Err fault))
bind_err {A = A} {B = B} (Ok x) next fault e = inr (x, refl, e)
bind_err {A = A} {B = B} (Err found) next fault e =
    inl (ap (λ (f : Fault). fault_of {A = A} f) (fault_is {A = B} found fault e))

-- ---- digits

pub record BadDigits (from so_far : ℕ) (bytes : List ℕ) (fault : Fault) : Type 0 where
  pub digits : List ℕ
  pub byte : ℕ
  pub rest : List ℕ
  pub digits_only : AllByRecursion (λ digit. is_ascii_digit digit ≡ true) digits
  pub small : value_of so_far digits ≤ 2147483647
  pub parts : bytes ≡ digits ++ (byte ∷ rest)
  pub goes_on : is_separator byte ≡ false
  pub wrong : IsWrong from (value_of so_far digits) byte fault

-- no digit stands before the byte that is wrong
bad_here : (from so_far byte : ℕ) (bytes : List ℕ) (fault : Fault) → so_far ≤ 2147483647
    → is_separator byte ≡ false → IsWrong from so_far byte fault
    → BadDigits from so_far (byte ∷ bytes) fault
bad_here from so_far byte bytes fault small separate wrong = record {
  digits = [];
  byte = byte;
  rest = bytes;
  digits_only = tt;
  small = small;
  parts = refl;
  goes_on = separate;
  wrong = wrong;
}

bad_step : (from so_far byte : ℕ) (bytes : List ℕ) (fault : Fault) (separates digit large : Bool)
    → so_far ≤ 2147483647
    → is_separator byte ≡ separates → is_ascii_digit byte ≡ digit
    → ltb 2147483647 (10 * so_far + (byte - 48)) ≡ large
    → digits_at from so_far (byte ∷ bytes) ≡ Err fault
    → (10 * so_far + (byte - 48) ≤ 2147483647
    → digits_at from (10 * so_far + (byte - 48)) bytes ≡ Err fault
    → BadDigits from (10 * so_far + (byte - 48)) bytes fault)
    → BadDigits from so_far (byte ∷ bytes) fault
unfolding digits_at
bad_step from so_far byte bytes fault true digit large small separate is_digit is_large e more =
    absurd (let wrong = rw separate at e in cc)
bad_step from so_far byte bytes fault false false large small separate is_digit is_large e more =
    let here : fault_of {A = ℕ × List ℕ} (At NotANumber from byte) ≡ Err fault =
    rw (separate, is_digit) at e in
    bad_here from so_far byte bytes fault small separate
    (inl (is_digit, sym (fault_is {A = ℕ × List ℕ} (At NotANumber from byte) fault here)))
bad_step from so_far byte bytes fault false true true small separate is_digit is_large e more =
    let here : fault_of {A = ℕ × List ℕ} (At NumberTooLarge from (10 * so_far + (byte - 48)))
    ≡ Err fault = rw (separate, is_digit, is_large) at e in
    bad_here from so_far byte bytes fault small separate
    (inr (
      is_digit,
      ltb-true _ _ is_large,
      sym (fault_is {A = ℕ × List ℕ} (At NumberTooLarge from (10 * so_far + (byte - 48)))
          fault here),
    ))
bad_step from so_far byte bytes fault false true false small separate is_digit is_large e more =
    let read = more (ltb-false _ _ is_large) (rw (separate, is_digit, is_large) at e) in
    record {
      digits = byte ∷ read.digits;
      byte = read.byte;
      rest = read.rest;
      digits_only = (is_digit, read.digits_only);
      small = read.small;
      parts = ap (λ (r : List ℕ). byte ∷ r) read.parts;
      goes_on = read.goes_on;
      wrong = read.wrong;
    }

pub bad_digits : (from so_far : ℕ) (bytes : List ℕ) (fault : Fault) → so_far ≤ 2147483647
    → digits_at from so_far bytes ≡ Err fault → BadDigits from so_far bytes fault
unfolding digits_at
bad_digits from so_far [] fault small e = absurd cc
bad_digits from so_far (byte ∷ bytes) fault small e =
    bad_step from so_far byte bytes fault (is_separator byte) (is_ascii_digit byte)
    (ltb 2147483647 (10 * so_far + (byte - 48))) small refl refl refl e
    (λ fits read. bad_digits from (10 * so_far + (byte - 48)) bytes fault fits read)

value_grows : (so_far : ℕ) (token : List ℕ) → so_far ≤ value_of so_far token
value_grows so_far [] = omega arith
value_grows so_far (digit ∷ rest) = omega (arith, value_grows (10 * so_far + (digit - 48)) rest)

wrong_again : (from so_far byte : ℕ) (rest : List ℕ) (fault : Fault) → is_separator byte ≡ false
    → IsWrong from so_far byte fault → digits_at from so_far (byte ∷ rest) ≡ Err fault
unfolding digits_at
wrong_again from so_far byte rest fault goes_on (inl letter) =
    rw (goes_on, letter.0) (ap (λ (f : Fault). fault_of {A = ℕ × List ℕ} f) (sym letter.1))
wrong_again from so_far byte rest fault goes_on (inr large) =
    let test : ltb 2147483647 (10 * so_far + (byte - 48)) ≡ true = lt-ltb _ _ large.1 in
    rw (goes_on, large.0, test) (ap (λ (f : Fault). fault_of {A = ℕ × List ℕ} f) (sym large.2))

pub digits_fail_again : (from so_far : ℕ) (digits : List ℕ) (byte : ℕ) (rest : List ℕ)
    (fault : Fault) → AllByRecursion (λ digit. is_ascii_digit digit ≡ true) digits
    → value_of so_far digits ≤ 2147483647 → is_separator byte ≡ false
    → IsWrong from (value_of so_far digits) byte fault
    → digits_at from so_far (digits ++ (byte ∷ rest)) ≡ Err fault
unfolding digits_at
digits_fail_again from so_far [] byte rest fault only small goes_on wrong =
    wrong_again from so_far byte rest fault goes_on wrong
digits_fail_again from so_far (digit ∷ digits) byte rest fault only small goes_on wrong =
    let next = 10 * so_far + (digit - 48) in
    let fits : ltb 2147483647 (10 * so_far + (digit - 48)) ≡ false =
    le-ltb _ _ (omega (arith, value_grows next digits, small)) in
    rw (digit_no_separator digit only.0, only.0, fits)
    (digits_fail_again from next digits byte rest fault only.1 small goes_on wrong)

-- ---- numbers

-- how a number fails
abbrev pub FailsNumber : List ℕ → Fault → Type 0
FailsNumber bytes fault = NoToken bytes fault ⊎ BadNumber bytes fault

pub no_token : (bytes : List ℕ) → skipped bytes ≡ [] → IsGap bytes
no_token bytes nothing =
    let gone = skips bytes in
    subst IsGap
    (sym (gone.parts ∙ ap (λ (r : List ℕ). gone.gap ++ r) nothing ∙ append-nil gone.gap))
    gone.between

pub no_token_again : (bytes : List ℕ) → IsGap bytes → skipped bytes ≡ []
unfolding skipped
no_token_again bytes between = ap skipped (sym (append-nil bytes)) ∙ skipped_gap bytes [] between

number_fails_here : (bytes here : List ℕ) (fault : Fault) → skipped bytes ≡ here
    → number_here here ≡ Err fault → FailsNumber bytes fault
number_fails_here bytes [] fault here_is e =
    inl (record {
      blank = no_token bytes here_is;
      fault_is =
          sym (fault_is {A = ℕ × List ℕ} Ended fault e);
    })
number_fails_here bytes (first ∷ after) fault here_is e =
    let bad = bad_digits (length (first ∷ after)) 0 (first ∷ after) fault (omega arith) e in
    let gone = skips bytes in
    inr (record {
      gap = gone.gap;
      digits = bad.digits;
      byte = bad.byte;
      rest = bad.rest;
      between = gone.between;
      digits_only = bad.digits_only;
      small = bad.small;
      parts = gone.parts ∙ ap (λ (r : List ℕ). gone.gap ++ r) (here_is ∙ bad.parts);
      goes_on = bad.goes_on;
      wrong =
          subst (λ (r : List ℕ). IsWrong (length r) (value_of 0 bad.digits) bad.byte fault)
          bad.parts bad.wrong;
    })

pub number_fails : (bytes : List ℕ) (fault : Fault) → number_at bytes ≡ Err fault
    → FailsNumber bytes fault
unfolding number_at
number_fails bytes fault e = number_fails_here bytes (skipped bytes) fault refl e

-- what follows the separators of a number that fails
pub bad_begins : (bytes gap digits : List ℕ) (byte : ℕ) (rest : List ℕ) → IsGap gap
    → AllByRecursion (λ digit. is_ascii_digit digit ≡ true) digits → is_separator byte ≡ false
    → bytes ≡ gap ++ (digits ++ (byte ∷ rest)) → skipped bytes ≡ digits ++ (byte ∷ rest)
bad_begins bytes gap [] byte rest between only goes_on parts =
    ap skipped parts ∙ skipped_gap gap (byte ∷ rest) between ∙ skipped_token byte rest goes_on
bad_begins bytes gap (digit ∷ digits) byte rest between only goes_on parts =
    ap skipped parts ∙ skipped_gap gap ((digit ∷ digits) ++ (byte ∷ rest)) between
    ∙ skipped_token digit (digits ++ (byte ∷ rest)) (digit_no_separator digit only.0)

here_fails : (digits : List ℕ) (byte : ℕ) (rest : List ℕ) (fault : Fault)
    → digits_at (length (digits ++ (byte ∷ rest))) 0 (digits ++ (byte ∷ rest)) ≡ Err fault
    → number_here (digits ++ (byte ∷ rest)) ≡ Err fault
here_fails [] byte rest fault e = e
here_fails (digit ∷ digits) byte rest fault e = e

pub number_fails_again : (bytes : List ℕ) (fault : Fault) → FailsNumber bytes fault
    → number_at bytes ≡ Err fault
unfolding number_at
number_fails_again bytes fault (inl none) =
    ap number_here (no_token_again bytes none.blank)
    ∙ ap (λ (f : Fault). fault_of {A = ℕ × List ℕ} f) (sym none.fault_is)
number_fails_again bytes fault (inr bad) =
    ap number_here
    (bad_begins bytes bad.gap bad.digits bad.byte bad.rest bad.between bad.digits_only
    bad.goes_on bad.parts)
    ∙ here_fails bad.digits bad.byte bad.rest fault
    (digits_fail_again (length (bad.digits ++ (bad.byte ∷ bad.rest))) 0 bad.digits bad.byte
    bad.rest fault bad.digits_only bad.small bad.goes_on bad.wrong)
