-- Fields: what is read stands there, and what stands there is read.
use Rattle.std.proofs.Common.{◌≡◌, ℕ, zero, suc, ◌+◌, ◌<◌, ◌≤◌, ◌^◌, Bool, true, false, eqb}
use Rattle.std.proofs.Common.{ltb, cond, ◌&&◌, ◌⊎◌, inl, inr, List, [], ◌∷◌, ◌++◌, length, refl}
use Rattle.std.proofs.Common.{sym}
use Rattle.std.proofs.Common.{ap, subst, ◌∙◌, arith, decimal}
use Rattle.std.specs.Prelude.{Option, Some, None, ⊤, Result, Ok, Err}
use Rattle.std.specs.List.{AllByRecursion}
use Rattle.std.specs.Char.{digit_value}
use Rattle.std.specs.Str.{bytes_eq, IsUtf8}
use Rattle.std.specs.Str.Parse.{AllDigits, ParsesUnsigned, digits_value}
use Rattle.std.proofs.lemmas.Bool.{lt-ltb, ltb-true, ne_eqb, eqb-true}
use Rattle.std.proofs.lemmas.Fmt.{decimal_is_IsNumeral, IsAscii-decimal, parse-decimal}
use Rattle.std.proofs.lemmas.Str.{IsUtf8-from_ascii}
use Rattle.std.proofs.lemmas.Option.{same_Some}
use Rattle.std.proofs.lemmas.Slice.Eq.{bytes_eq-Decides}
use Rattle.report.specs.Text.{field, fields}
use Rattle.report_reader.specs.Lines.{IsSmall}
use Rattle.report_reader.specs.Reading.{◌>>=◌, before, onward, field_at, number_of, number_at}
use Rattle.report_reader.specs.Reading.{small_at, numbers_at}

-- ---- steps of a reading

-- a whole has its first part
pub record Bound {A B : Type 0} (first : Option A) (next : A → Option B) (whole : B) : Type 0 where
  pub item : A
  pub is : first ≡ Some item
  pub leads : next item ≡ Some whole

pub bind_is : {A B : Type 0} (first : Option A) (next : A → Option B) (whole : B)
    → (first >>= next) ≡ Some whole → Bound first next whole
bind_is (Some item) next whole e = record { item = item; is = refl; leads = e }
bind_is None next whole e = absurd cc

-- which way a test went
pub chosen : {A : Type 0} (b : Bool) (x y z : A) → cond b x y ≡ z
    → ((b ≡ true) × (x ≡ z)) ⊎ ((b ≡ false) × (y ≡ z))
chosen true x y z e = inl (refl, e)
chosen false x y z e = inr (refl, e)

-- nothing isn't something
pub no_some : {A : Type 0} (x : A) → ◌≡◌ {A = Option A} None (Some x) → ⊥
no_some x e = cc

-- both parts of a true conjunction
pub both_true : (a b : Bool) → (a && b) ≡ true → (a ≡ true) × (b ≡ true)
both_true true b e = (refl, e)
both_true false b e = absurd cc

-- ---- cutting at a byte

-- the text has no such byte
abbrev pub Lacks : ℕ → List ℕ → Type 0
Lacks end text = AllByRecursion (λ byte. eqb byte end ≡ false) text

-- the text is empty or begins with such a byte
abbrev pub Begins : ℕ → List ℕ → Type 0
Begins end [] = ⊤
Begins end (byte ∷ rest) = eqb byte end ≡ true

pub before_then : (end : ℕ) (text rest : List ℕ) → Lacks end text → Begins end rest
    → before end (text ++ rest) ≡ text
before_then end [] [] lacks begins = refl
before_then end [] (byte ∷ rest) lacks begins = rw begins refl
before_then end (byte ∷ text) rest lacks begins =
    rw lacks.0 (ap (λ (r : List ℕ). byte ∷ r) (before_then end text rest lacks.1 begins))

pub onward_then : (end : ℕ) (text rest : List ℕ) → Lacks end text → Begins end rest
    → onward end (text ++ rest) ≡ rest
onward_then end [] [] lacks begins = refl
onward_then end [] (byte ∷ rest) lacks begins = rw begins refl
onward_then end (byte ∷ text) rest lacks begins =
    rw lacks.0 (onward_then end text rest lacks.1 begins)

parts_step : (end byte : ℕ) (rest : List ℕ) (same : Bool) → eqb byte end ≡ same
    → rest ≡ before end rest ++ onward end rest
    → byte ∷ rest ≡ before end (byte ∷ rest) ++ onward end (byte ∷ rest)
parts_step end byte rest true is more = rw is refl
parts_step end byte rest false is more = rw is (ap (λ (r : List ℕ). byte ∷ r) more)

-- both parts make the text
pub split_parts : (end : ℕ) (text : List ℕ) → text ≡ before end text ++ onward end text
split_parts end [] = refl
split_parts end (byte ∷ rest) =
    parts_step end byte rest (eqb byte end) refl (split_parts end rest)

begins_step : (end byte : ℕ) (rest : List ℕ) (same : Bool) → eqb byte end ≡ same
    → Begins end (onward end rest) → Begins end (onward end (byte ∷ rest))
begins_step end byte rest true is more = rw is is
begins_step end byte rest false is more = rw is more

-- the second part begins with the byte
pub onward_begins : (end : ℕ) (text : List ℕ) → Begins end (onward end text)
onward_begins end [] = tt
onward_begins end (byte ∷ rest) =
    begins_step end byte rest (eqb byte end) refl (onward_begins end rest)

pub lacks_append : (end : ℕ) (text more : List ℕ) → Lacks end text → Lacks end more
    → Lacks end (text ++ more)
lacks_append end [] more lacks others = others
lacks_append end (byte ∷ text) more lacks others =
    (lacks.0, lacks_append end text more lacks.1 others)

-- ---- fields

pub field_again : (text rest : List ℕ) → Lacks 32 text → Begins 32 rest
    → field_at (field text ++ rest) ≡ Some (text, rest)
field_again text rest lacks begins =
    ap (λ (t : List ℕ). Some (t, onward 32 (text ++ rest))) (before_then 32 text rest lacks begins)
    ∙ ap (λ (r : List ℕ). Some (text, r)) (onward_then 32 text rest lacks begins)

field_step : (byte : ℕ) (bytes text rest : List ℕ)
    → ((eqb byte 32 ≡ true)
    × ◌≡◌ {A = Option (List ℕ × List ℕ)} (Some (before 32 bytes, onward 32 bytes))
    (Some (text, rest)))
    ⊎ ((eqb byte 32 ≡ false) × ◌≡◌ {A = Option (List ℕ × List ℕ)} None (Some (text, rest)))
    → byte ∷ bytes ≡ field text ++ rest
field_step byte bytes text rest (inl is) =
    let same = same_Some (before 32 bytes, onward 32 bytes) (text, rest) is.1 in
    let text_is : before 32 bytes ≡ text = ap (λ (p : List ℕ × List ℕ). p.0) same in
    let rest_is : onward 32 bytes ≡ rest = ap (λ (p : List ℕ × List ℕ). p.1) same in
    rw (eqb-true byte 32 is.0, ← text_is, ← rest_is)
    (ap (λ (r : List ℕ). 32 ∷ r) (split_parts 32 bytes))
field_step byte bytes text rest (inr is) = absurd (no_some (text, rest) is.1)

pub field_takes : (bytes text rest : List ℕ) → field_at bytes ≡ Some (text, rest)
    → bytes ≡ field text ++ rest
field_takes [] text rest e = absurd (no_some (text, rest) e)
field_takes (byte ∷ bytes) text rest e =
    field_step byte bytes text rest
    (chosen (eqb byte 32) (Some (before 32 bytes, onward 32 bytes)) None (Some (text, rest)) e)

-- ---- numbers

digit_other : (end byte : ℕ) → ¬ (digit_value end < 10) → digit_value byte < 10
    → eqb byte end ≡ false
digit_other end byte none digit =
    ne_eqb byte end (λ same. none (subst (λ (b : ℕ). digit_value b < 10) same digit))

digits_lack : (end : ℕ) (text : List ℕ) → ¬ (digit_value end < 10) → AllDigits 10 text
    → Lacks end text
digits_lack end [] none digits = tt
digits_lack end (byte ∷ text) none digits =
    (digit_other end byte none digits.0, digits_lack end text none digits.1)

-- the text of a number has no blank and no line feed
pub decimal_lacks : (end number : ℕ) → ¬ (digit_value end < 10) → number < 2 ^ 64
    → Lacks end (decimal number)
decimal_lacks end number none fits =
    digits_lack end (decimal number) none (decimal_is_IsNumeral number fits).0.1

pub no_digit_blank : ¬ (digit_value 32 < 10)
no_digit_blank digit = omega (arith, digit)

pub no_digit_feed : ¬ (digit_value 10 < 10)
no_digit_feed digit = omega (arith, digit)

number_of_again : (number : ℕ) → number < 2 ^ 64 → number_of (decimal number) ≡ Some number
unfolding number_of
number_of_again number fits =
    let value = (decimal_is_IsNumeral number fits).1 in
    let same : bytes_eq (decimal number) (decimal number) ≡ true =
    (bytes_eq-Decides (decimal number) (decimal number)).1 refl in
    let few : ltb number (2 ^ 64) ≡ true = lt-ltb number (2 ^ 64) fits in
    rw (value, few, same) refl

-- the text is that of the number, which is below the limit
pub record IsText (limit number : ℕ) (text : List ℕ) : Type 0 where
  pub text_is : text ≡ decimal number
  pub fits : number < limit

number_of_step : (text : List ℕ) (number : ℕ) (value : ℕ) → digits_value 10 text ≡ value
    → (((ltb value (2 ^ 64) && bytes_eq (decimal value) text) ≡ true)
    × (Some value ≡ Some number))
    ⊎ (((ltb value (2 ^ 64) && bytes_eq (decimal value) text) ≡ false) × (None ≡ Some number))
    → IsText (2 ^ 64) number text
number_of_step text number value value_is (inl is) =
    let parts = both_true (ltb value (2 ^ 64)) (bytes_eq (decimal value) text) is.0 in
    let same : value ≡ number = same_Some value number is.1 in
    record {
      text_is = sym ((bytes_eq-Decides (decimal value) text).0 parts.1) ∙ ap decimal same;
      fits = subst (λ (n : ℕ). n < 2 ^ 64) same (ltb-true value (2 ^ 64) parts.0);
    }
number_of_step text number value value_is (inr is) = absurd (no_some number is.1)

pub number_of_takes : (text : List ℕ) (number : ℕ) → number_of text ≡ Some number
    → IsText (2 ^ 64) number text
unfolding number_of
number_of_takes text number e =
    number_of_step text number (digits_value 10 text) refl
    (chosen
    (ltb (digits_value 10 text) (2 ^ 64) && bytes_eq (decimal (digits_value 10 text)) text)
    (Some (digits_value 10 text)) None (Some number) e)

-- where no number has this text, none is read
none_of_text : (text : List ℕ) (read : Option ℕ) → number_of text ≡ read
    → ((number : ℕ) → IsText (2 ^ 64) number text → ⊥) → number_of text ≡ None
none_of_text text None is none = is
none_of_text text (Some number) is none = absurd (none number (number_of_takes text number is))

pub none_by_utf8 : (text : List ℕ) → ¬ IsUtf8 text → number_of text ≡ None
none_by_utf8 text none =
    none_of_text text (number_of text) refl
    (λ number stands. none
    (subst IsUtf8 (sym stands.text_is)
    (IsUtf8-from_ascii (decimal number) (IsAscii-decimal number stands.fits))))

-- the number that parsing gives for the text of a number
parsed_is : {E : Type 0} (text : List ℕ) (number : ℕ) (parsed : Result ℕ E)
    → IsText (2 ^ 64) number text → ParsesUnsigned 64 10 text parsed → parsed ≡ Ok number
parsed_is text number parsed stands parses =
    parse-decimal 64 number text parsed stands.fits stands.fits stands.text_is parses

pub none_by_parse : {E : Type 0} (text digits : List ℕ) (parsed : Result ℕ E) → digits ≡ text
    → ParsesUnsigned 64 10 digits parsed → ((number : ℕ) → parsed ≡ Ok number → ⊥)
    → number_of text ≡ None
none_by_parse text digits parsed same parses none =
    none_of_text text (number_of text) refl
    (λ number stands. none number
    (parsed_is digits number parsed
    (record { text_is = same ∙ stands.text_is; fits = stands.fits }) parses))

ok_is : {E : Type 0} (one two : ℕ) → ◌≡◌ {A = Result ℕ E} (Ok one) (Ok two) → one ≡ two
ok_is one two e = cc

no_ok : {E : Type 0} (e : E) (number : ℕ) → ◌≡◌ {A = Result ℕ E} (Err e) (Ok number) → ⊥
no_ok e number same = cc

parsed_fits : {E : Type 0} (digits : List ℕ) (number : ℕ) (parsed : Result ℕ E)
    → ParsesUnsigned 64 10 digits parsed → parsed ≡ Ok number → number < 2 ^ 64
parsed_fits {E} digits number (Ok found) parses same =
    subst (λ (n : ℕ). n < 2 ^ 64) (sym parses.1 ∙ ok_is {E = E} found number same) parses.0.1
parsed_fits {E} digits number (Err e) parses same = absurd (no_ok {E = E} e number same)

pub number_same : {E : Type 0} (text digits shown : List ℕ) (number : ℕ) (parsed : Result ℕ E)
    → ParsesUnsigned 64 10 digits parsed → parsed ≡ Ok number → shown ≡ decimal number
    → bytes_eq shown text ≡ true → number_of text ≡ Some number
number_same text digits shown number parsed parses is shown_is same =
    ap number_of (sym ((bytes_eq-Decides shown text).0 same) ∙ shown_is)
    ∙ number_of_again number (parsed_fits digits number parsed parses is)

differs : (shown text : List ℕ) → bytes_eq shown text ≡ false → shown ≡ text → ⊥
differs shown text other same =
    let wrong = sym other ∙ (bytes_eq-Decides shown text).1 same in cc

pub number_other : {E : Type 0} (text digits shown : List ℕ) (number : ℕ) (parsed : Result ℕ E)
    → digits ≡ text → ParsesUnsigned 64 10 digits parsed → parsed ≡ Ok number
    → shown ≡ decimal number → bytes_eq shown text ≡ false → number_of text ≡ None
number_other {E} text digits shown number parsed same parses is shown_is other =
    none_of_text text (number_of text) refl
    (λ found stands. differs shown text other
    (shown_is
    ∙ ap decimal
    (ok_is {E = E} number found
    (sym is
    ∙ parsed_is digits found parsed
    (record { text_is = same ∙ stands.text_is; fits = stands.fits }) parses))
    ∙ sym stands.text_is))

-- a number below the limit was read, and the rest
pub record Took (limit : ℕ) (bytes : List ℕ) (number : ℕ) (rest : List ℕ) : Type 0 where
  pub parts : bytes ≡ field (decimal number) ++ rest
  pub fits : number < limit

pub number_again : (number : ℕ) (rest : List ℕ) → number < 2 ^ 64 → Begins 32 rest
    → number_at (field (decimal number) ++ rest) ≡ Some (number, rest)
unfolding number_at
number_again number rest fits begins =
    ap
    (λ (read : Option (List ℕ × List ℕ)). read
    >>= (λ text. number_of text.0 >>= (λ found. Some (found, text.1))))
    (field_again (decimal number) rest (decimal_lacks 32 number no_digit_blank fits) begins)
    ∙ ap (λ (read : Option ℕ). read >>= (λ found. Some (found, rest)))
    (number_of_again number fits)

pub number_takes : (bytes : List ℕ) (number : ℕ) (rest : List ℕ)
    → number_at bytes ≡ Some (number, rest) → Took (2 ^ 64) bytes number rest
unfolding number_at
number_takes bytes number rest e =
    let text =
    bind_is (field_at bytes) (λ text. number_of text.0 >>= (λ found. Some (found, text.1)))
    (number, rest) e in
    let found =
    bind_is (number_of text.item.0) (λ found. Some (found, text.item.1)) (number, rest)
    text.leads in
    let same = same_Some (found.item, text.item.1) (number, rest) found.leads in
    let number_is : found.item ≡ number = ap (λ (p : ℕ × List ℕ). p.0) same in
    let rest_is : text.item.1 ≡ rest = ap (λ (p : ℕ × List ℕ). p.1) same in
    let stands = number_of_takes text.item.0 found.item found.is in
    record {
      parts =
          field_takes bytes text.item.0 text.item.1 text.is
          ∙ ap (λ (t : List ℕ). field t ++ text.item.1) stands.text_is
          ∙ ap (λ (n : ℕ). field (decimal n) ++ text.item.1) number_is
          ∙ ap (λ (r : List ℕ). field (decimal number) ++ r) rest_is;
      fits = subst (λ (n : ℕ). n < 2 ^ 64) number_is stands.fits;
    }

pub small_again : (number : ℕ) (rest : List ℕ) → number < 2 ^ 32 → Begins 32 rest
    → small_at (field (decimal number) ++ rest) ≡ Some (number, rest)
unfolding small_at
small_again number rest fits begins =
    let few : ltb number (2 ^ 32) ≡ true = lt-ltb number (2 ^ 32) fits in
    ap
    (λ (read : Option (ℕ × List ℕ)). read
    >>= (λ found. cond (ltb found.0 (2 ^ 32)) (Some found) None))
    (number_again number rest (omega (arith, fits)) begins)
    ∙ ap (λ (b : Bool). cond b (Some (number, rest)) None) few

small_step : (bytes : List ℕ) (number : ℕ) (rest : List ℕ) (found : ℕ × List ℕ)
    → number_at bytes ≡ Some found
    → ((ltb found.0 (2 ^ 32) ≡ true)
    × ◌≡◌ {A = Option (ℕ × List ℕ)} (Some found) (Some (number, rest)))
    ⊎ ((ltb found.0 (2 ^ 32) ≡ false)
    × ◌≡◌ {A = Option (ℕ × List ℕ)} None (Some (number, rest)))
    → Took (2 ^ 32) bytes number rest
small_step bytes number rest found read (inl is) =
    let same = same_Some found (number, rest) is.1 in
    let number_is : found.0 ≡ number = ap (λ (p : ℕ × List ℕ). p.0) same in
    let took = number_takes bytes number rest (read ∙ is.1) in
    record {
      parts = took.parts;
      fits = subst (λ (n : ℕ). n < 2 ^ 32) number_is (ltb-true found.0 (2 ^ 32) is.0);
    }
small_step bytes number rest found read (inr is) = absurd (no_some (number, rest) is.1)

pub small_takes : (bytes : List ℕ) (number : ℕ) (rest : List ℕ)
    → small_at bytes ≡ Some (number, rest) → Took (2 ^ 32) bytes number rest
unfolding small_at
small_takes bytes number rest e =
    let read =
    bind_is (number_at bytes) (λ found. cond (ltb found.0 (2 ^ 32)) (Some found) None)
    (number, rest) e in
    small_step bytes number rest read.item read.is
    (chosen (ltb read.item.0 (2 ^ 32)) (Some read.item) None (Some (number, rest)) read.leads)

-- what was read is shorter
pub took_shorter : {limit : ℕ} (bytes : List ℕ) (number : ℕ) (rest : List ℕ)
    → Took limit bytes number rest → length rest < length bytes
took_shorter bytes number rest took =
    let size : length bytes ≡ length (field (decimal number) ++ rest) = ap length took.parts in
    let more = length_append (decimal number) rest in
    omega (arith, size, more)
  where
    length_append : (one two : List ℕ) → length (one ++ two) ≡ length one + length two
    length_append [] two = omega arith
    length_append (byte ∷ one) two = let more = length_append one two in omega (arith, more)

-- ---- many numbers

pub fields_begin : (numbers : List ℕ) → Begins 32 (fields numbers)
fields_begin [] = tt
fields_begin (number ∷ numbers) = refl

-- each number has 32 bits
abbrev pub AreSmall : List ℕ → Type 0
AreSmall numbers = AllByRecursion IsSmall numbers

pub numbers_again : (most : ℕ) (numbers : List ℕ) → AreSmall numbers → length numbers ≤ most
    → numbers_at most (fields numbers) ≡ Some numbers
unfolding numbers_at
numbers_again most [] small few = refl
numbers_again zero (number ∷ numbers) small few = absurd (omega (arith, few))
numbers_again (suc most) (number ∷ numbers) small few =
    ap
    (λ (read : Option (ℕ × List ℕ)). read
    >>= (λ first. numbers_at most first.1 >>= (λ others. Some (first.0 ∷ others))))
    (small_again number (fields numbers) small.0 (fields_begin numbers))
    ∙ ap (λ (read : Option (List ℕ)). read >>= (λ others. Some (number ∷ others)))
    (numbers_again most numbers small.1 (omega (arith, few)))

-- numbers of 32 bits are all that stands
pub record TookAll (bytes numbers : List ℕ) : Type 0 where
  pub parts : bytes ≡ fields numbers
  pub small : AreSmall numbers

more_numbers : (bytes : List ℕ) (first : ℕ) (rest others numbers : List ℕ)
    → Took (2 ^ 32) bytes first rest → TookAll rest others → first ∷ others ≡ numbers
    → TookAll bytes numbers
more_numbers bytes first rest others numbers took all same =
    subst (λ (ns : List ℕ). TookAll bytes ns) same
    (record {
      parts = took.parts ∙ ap (λ (r : List ℕ). field (decimal first) ++ r) all.parts;
      small = (took.fits, all.small);
    })

pub numbers_take : (most : ℕ) (bytes numbers : List ℕ) → numbers_at most bytes ≡ Some numbers
    → TookAll bytes numbers
unfolding numbers_at
numbers_take most [] numbers e =
    subst (λ (ns : List ℕ). TookAll [] ns) (same_Some [] numbers e)
    (record { parts = refl; small = tt })
numbers_take zero (byte ∷ bytes) numbers e = absurd (no_some numbers e)
numbers_take (suc most) (byte ∷ bytes) numbers e =
    let first =
    bind_is (small_at (byte ∷ bytes))
    (λ first. numbers_at most first.1 >>= (λ others. Some (first.0 ∷ others))) numbers e in
    let others =
    bind_is (numbers_at most first.item.1) (λ others. Some (first.item.0 ∷ others)) numbers
    first.leads in
    more_numbers (byte ∷ bytes) first.item.0 first.item.1 others.item numbers
    (small_takes (byte ∷ bytes) first.item.0 first.item.1 first.is)
    (numbers_take most first.item.1 others.item others.is)
    (same_Some (first.item.0 ∷ others.item) numbers others.leads)

-- ---- how many numbers there may be makes no difference past the number of bytes

more_most : (most : ℕ) (first : ℕ × List ℕ) (bytes : List ℕ) → small_at bytes ≡ Some first
    → length first.1 < length bytes
more_most most first bytes e =
    took_shorter bytes first.0 first.1 (small_takes bytes first.0 first.1 e)

first_same : (one two : ℕ) (bytes : List ℕ) (read : Option (ℕ × List ℕ)) → small_at bytes ≡ read
    → ((rest : List ℕ) → length rest < length bytes → numbers_at one rest ≡ numbers_at two rest)
    → (read >>= (λ first. numbers_at one first.1 >>= (λ others. Some (first.0 ∷ others))))
    ≡ (read >>= (λ first. numbers_at two first.1 >>= (λ others. Some (first.0 ∷ others))))
first_same one two bytes None is same = refl
first_same one two bytes (Some first) is same =
    ap (λ (more : Option (List ℕ)). more >>= (λ others. Some (first.0 ∷ others)))
    (same first.1 (more_most one first bytes is))

pub most_same : (one two : ℕ) (bytes : List ℕ) → length bytes ≤ one → length bytes ≤ two
    → numbers_at one bytes ≡ numbers_at two bytes
unfolding numbers_at
most_same one two [] few few_too = refl
most_same zero two (byte ∷ bytes) few few_too = absurd (omega (arith, few))
most_same (suc one) zero (byte ∷ bytes) few few_too = absurd (omega (arith, few_too))
most_same (suc one) (suc two) (byte ∷ bytes) few few_too =
    first_same one two (byte ∷ bytes) (small_at (byte ∷ bytes)) refl
    (λ rest shorter. most_same one two rest (omega (arith, shorter, few))
    (omega (arith, shorter, few_too)))
