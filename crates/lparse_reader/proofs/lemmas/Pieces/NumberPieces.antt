-- A number is read exactly where its piece stands.
use Rattle.std.proofs.Common.{◌≡◌, ℕ, ◌+◌, ◌-◌, ◌*◌, ◌≤◌, Bool, true, false, ◌&&◌, cond, eqb, ltb}
use Rattle.std.proofs.Common.{leb, List, [], ◌∷◌, ◌++◌, length, Result, Ok, Err, refl, sym, ap}
use Rattle.std.proofs.Common.{subst, ◌∙◌, arith, inl, inr, ◌⊎◌}
use Rattle.std.specs.List.{AllByRecursion}
use Rattle.std.specs.Char.{is_ascii_digit}
use Rattle.std.proofs.lemmas.Bool.{le-ltb, ltb-false, leb-true, ne_eqb}
use Rattle.lparse_reader.specs.declared.fault.Fault.{Fault}
use Rattle.lparse_reader.specs.Tokens.{is_separator, skipped, is_token_end}
use Rattle.lparse_reader.specs.Fields.{◌>>=◌, digits_at, number_here, number_at}
use Rattle.lparse_reader.specs.Pieces.{IsGap, value_of, IsNumeral, StandsNumber}

-- the value of a step that didn't fail
pub bind_ok : {A B : Type 0} (r : Result A Fault) (next : A → Result B Fault) (y : B)
    → (r >>= next) ≡ Ok y → (x : A) × (r ≡ Ok x) × (next x ≡ Ok y)
bind_ok (Ok x) next y e = (x, refl, e)
bind_ok (Err fault) next y e = absurd cc

-- which way a test went
pub chosen : {A : Type 0} (b : Bool) (x y z : A) → cond b x y ≡ z
    → ((b ≡ true) × (x ≡ z)) ⊎ ((b ≡ false) × (y ≡ z))
chosen true x y z e = inl (refl, e)
chosen false x y z e = inr (refl, e)

abbrev done : {A : Type 0} → A → Result A Fault
done x = Ok x

pub ok_is : {A : Type 0} (x y : A) → done x ≡ done y → x ≡ y
ok_is x y e = cc

-- ---- separators

pub skipped_gap : (gap rest : List ℕ) → IsGap gap → skipped (gap ++ rest) ≡ skipped rest
unfolding skipped
skipped_gap [] rest between = refl
skipped_gap (byte ∷ gap) rest between = rw between.0 (skipped_gap gap rest between.1)

-- the bytes are separators and then those from the next token on
pub record Skips (bytes : List ℕ) : Type 0 where
  pub gap : List ℕ
  pub between : IsGap gap
  pub parts : bytes ≡ gap ++ skipped bytes

skips_more : (byte : ℕ) (rest : List ℕ) (separates : Bool) → is_separator byte ≡ separates
    → Skips rest → Skips (byte ∷ rest)
unfolding skipped
skips_more byte rest true test more =
    record {
      gap = byte ∷ more.gap;
      between = (test, more.between);
      parts =
          rw test (ap (λ (r : List ℕ). byte ∷ r) more.parts);
    }
skips_more byte rest false test more = record { gap = []; between = tt; parts = rw test refl }

pub skips : (bytes : List ℕ) → Skips bytes
unfolding skipped
skips [] = record { gap = []; between = tt; parts = refl }
skips (byte ∷ rest) = skips_more byte rest (is_separator byte) refl (skips rest)

token_more : (byte : ℕ) (rest : List ℕ) (separates : Bool) → is_separator byte ≡ separates
    → (first : ℕ) (after : List ℕ) → skipped (byte ∷ rest) ≡ first ∷ after
    → (skipped rest ≡ first ∷ after → is_separator first ≡ false) → is_separator first ≡ false
unfolding skipped
token_more byte rest true test first after e more = more (rw test at e)
token_more byte rest false test first after e more =
    let same : byte ∷ rest ≡ first ∷ after = rw test at e in
    let head : byte ≡ first = cc in
    rw (← head) test

-- what is left after the separators begins with no separator
pub token_begins : (bytes : List ℕ) (first : ℕ) (after : List ℕ) → skipped bytes ≡ first ∷ after
    → is_separator first ≡ false
unfolding skipped
token_begins [] first after e = absurd cc
token_begins (byte ∷ rest) first after e =
    token_more byte rest (is_separator byte) refl first after e (token_begins rest first after)

-- a byte that is no separator stays
pub skipped_token : (first : ℕ) (after : List ℕ) → is_separator first ≡ false
    → skipped (first ∷ after) ≡ first ∷ after
unfolding skipped
skipped_token first after test = rw test refl

-- ---- digits

pub both : (a b : Bool) → (a && b) ≡ true → (a ≡ true) × (b ≡ true)
both true true e = (refl, refl)
both true false e = absurd cc
both false b e = absurd cc

pub digit_range : (byte : ℕ) → is_ascii_digit byte ≡ true → (48 ≤ byte) × (byte ≤ 57)
digit_range byte e =
    let parts = both (leb 48 byte) (leb byte 57) e in
    (leb-true 48 byte parts.0, leb-true byte 57 parts.1)

-- a digit is no separator
pub digit_no_separator : (byte : ℕ) → is_ascii_digit byte ≡ true → is_separator byte ≡ false
digit_no_separator byte e =
    let range = digit_range byte e in
    let blank : eqb byte 32 ≡ false = ne_eqb _ _ (omega arith) in
    let tab : eqb byte 9 ≡ false = ne_eqb _ _ (omega arith) in
    let feed : eqb byte 10 ≡ false = ne_eqb _ _ (omega arith) in
    let back : eqb byte 13 ≡ false = ne_eqb _ _ (omega arith) in
    rw (blank, tab, feed, back) refl

-- digits only make a value greater
value_grows : (so_far : ℕ) (token : List ℕ) → so_far ≤ value_of so_far token
value_grows so_far [] = omega arith
value_grows so_far (digit ∷ rest) = omega (arith, value_grows (10 * so_far + (digit - 48)) rest)

pub digits_again : (from so_far : ℕ) (token rest : List ℕ)
    → AllByRecursion (λ byte. is_ascii_digit byte ≡ true) token → value_of so_far token ≤ 2147483647
    → is_token_end rest ≡ true → digits_at from so_far (token ++ rest)
    ≡ Ok (value_of so_far token, rest)
unfolding digits_at
digits_again from so_far [] [] digits small ends = refl
digits_again from so_far [] (byte ∷ rest) digits small ends = rw ends refl
digits_again from so_far (digit ∷ token) rest digits small ends =
    let next = 10 * so_far + (digit - 48) in
    let fits : ltb 2147483647 (10 * so_far + (digit - 48)) ≡ false =
    le-ltb _ _ (omega (arith, value_grows next token, small)) in
    rw (digit_no_separator digit digits.0, digits.0, fits)
    (digits_again from next token rest digits.1 small ends)

-- what was taken by a number that goes on
pub record Digits (so_far : ℕ) (bytes : List ℕ) (value : ℕ) (rest : List ℕ) : Type 0 where
  pub token : List ℕ
  pub digits : AllByRecursion (λ byte. is_ascii_digit byte ≡ true) token
  pub value_is : value_of so_far token ≡ value
  pub parts : bytes ≡ token ++ rest
  pub ends : is_token_end rest ≡ true
  pub small : so_far ≤ 2147483647 → value ≤ 2147483647

-- no digit stands at the end of a token
no_digits : (so_far : ℕ) (bytes : List ℕ) (value : ℕ) (rest : List ℕ)
    → done {A = ℕ × List ℕ} (so_far, bytes) ≡ Ok (value, rest) → is_token_end bytes ≡ true
    → Digits so_far bytes value rest
no_digits so_far bytes value rest e ended =
    let same = ok_is (so_far, bytes) (value, rest) e in
    let rest_is : bytes ≡ rest = ap (λ (p : ℕ × List ℕ). p.1) same in
    let value_is : so_far ≡ value = ap (λ (p : ℕ × List ℕ). p.0) same in
    record {
      token = [];
      digits = tt;
      value_is = value_is;
      parts = rest_is;
      ends =
          rw (← rest_is) ended;
      small = λ h. omega (arith, h, value_is);
    }

digits_step : (from so_far byte : ℕ) (bytes : List ℕ) (value : ℕ) (rest : List ℕ)
    (separates digit large : Bool)
    → is_separator byte ≡ separates → is_ascii_digit byte ≡ digit
    → ltb 2147483647 (10 * so_far + (byte - 48)) ≡ large
    → digits_at from so_far (byte ∷ bytes) ≡ Ok (value, rest)
    → (digits_at from (10 * so_far + (byte - 48)) bytes ≡ Ok (value, rest)
    → Digits (10 * so_far + (byte - 48)) bytes value rest)
    → Digits so_far (byte ∷ bytes) value rest
unfolding digits_at
digits_step from so_far byte bytes value rest true digit large separate is_digit is_large e more =
    let here : done (so_far, byte ∷ bytes) ≡ Ok (value, rest) = rw separate at e in
    no_digits so_far (byte ∷ bytes) value rest here separate
digits_step from so_far byte bytes value rest false false large separate is_digit is_large e more =
    absurd (let wrong = rw (separate, is_digit) at e in cc)
digits_step from so_far byte bytes value rest false true true separate is_digit is_large e more =
    absurd (let wrong = rw (separate, is_digit, is_large) at e in cc)
digits_step from so_far byte bytes value rest false true false separate is_digit is_large e more =
    let rest_read = more (rw (separate, is_digit, is_large) at e) in
    record {
      token = byte ∷ rest_read.token;
      digits = (is_digit, rest_read.digits);
      value_is = rest_read.value_is;
      parts = ap (λ (r : List ℕ). byte ∷ r) rest_read.parts;
      ends = rest_read.ends;
      small = λ h. rest_read.small (ltb-false _ _ is_large);
    }

pub digits_take : (from so_far : ℕ) (bytes : List ℕ) (value : ℕ) (rest : List ℕ)
    → digits_at from so_far bytes ≡ Ok (value, rest) → Digits so_far bytes value rest
unfolding digits_at
digits_take from so_far [] value rest e =
    no_digits so_far [] value rest e refl
digits_take from so_far (byte ∷ bytes) value rest e =
    digits_step from so_far byte bytes value rest (is_separator byte) (is_ascii_digit byte)
    (ltb 2147483647 (10 * so_far + (byte - 48))) refl refl refl e
    (digits_take from (10 * so_far + (byte - 48)) bytes value rest)

-- ---- numbers

number_stands_here : (bytes here : List ℕ) (value : ℕ) (rest : List ℕ) → skipped bytes ≡ here
    → number_here here ≡ Ok (value, rest) → StandsNumber value bytes rest
number_stands_here bytes [] value rest here_is e = absurd cc
number_stands_here bytes (first ∷ after) value rest here_is e =
    let read = digits_take (length (first ∷ after)) 0 (first ∷ after) value rest e in
    let gone = skips bytes in
    let begins = token_begins bytes first after here_is in
    record {
      gap = gone.gap;
      token = read.token;
      between = gone.between;
      numeral = record {
        some = some_digit first after read.token rest begins read.parts read.ends;
        digits = read.digits;
        value_is = read.value_is;
        small = omega (arith, read.small (omega arith));
      };
      parts = gone.parts ∙ ap (λ (r : List ℕ). gone.gap ++ r) (here_is ∙ read.parts);
      ends = read.ends;
    }
  where
    some_digit : (first : ℕ) (after token rest : List ℕ) → is_separator first ≡ false
        → first ∷ after ≡ token ++ rest → is_token_end rest ≡ true → 1 ≤ length token
    some_digit first after [] rest begins parts ends =
        absurd
        (let shown : is_separator first ≡ true =
        subst (λ (r : List ℕ). is_token_end r ≡ true) (sym parts) ends in cc)
    some_digit first after (digit ∷ token) rest begins parts ends = omega arith

pub number_stands : (bytes : List ℕ) (value : ℕ) (rest : List ℕ)
    → number_at bytes ≡ Ok (value, rest) → StandsNumber value bytes rest
unfolding number_at
number_stands bytes value rest e = number_stands_here bytes (skipped bytes) value rest refl e

number_again_here : (value : ℕ) (gap token rest : List ℕ) → IsGap gap → IsNumeral value token
    → is_token_end rest ≡ true → number_at (gap ++ (token ++ rest)) ≡ Ok (value, rest)
unfolding number_at
number_again_here value gap [] rest between numeral ends = absurd (omega (arith, numeral.some))
number_again_here value gap (digit ∷ token) rest between numeral ends =
    let here : skipped (gap ++ ((digit ∷ token) ++ rest)) ≡ (digit ∷ token) ++ rest =
    skipped_gap gap ((digit ∷ token) ++ rest) between
    ∙ skipped_token digit (token ++ rest) (digit_no_separator digit numeral.digits.0) in
    let small : value_of 0 (digit ∷ token) ≤ 2147483647 =
    omega (arith, numeral.small, numeral.value_is) in
    ap number_here here ∙ digits_again (length (digit ∷ (token ++ rest))) 0 (digit ∷ token) rest
    numeral.digits small ends
    ∙ ap (λ (n : ℕ). Ok (n, rest)) numeral.value_is

pub number_again : (bytes : List ℕ) (value : ℕ) (rest : List ℕ) → StandsNumber value bytes rest
    → number_at bytes ≡ Ok (value, rest)
number_again bytes value rest stands =
    ap number_at stands.parts ∙ number_again_here value stands.gap stands.token rest stands.between
    stands.numeral stands.ends
