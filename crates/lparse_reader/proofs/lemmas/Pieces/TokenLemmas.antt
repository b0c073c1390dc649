-- Going through bytes one by one, as a loop does.
use Rattle.std.proofs.Common.{◌≡◌, ◌≢◌, ℕ, zero, suc, ◌+◌, ◌-◌, ◌*◌, ◌<◌, ◌≤◌, true, false, eqb}
use Rattle.std.proofs.Common.{List, [], ◌∷◌, ◌++◌, length, get_or, take, drop, Ok, Err, refl, sym}
use Rattle.std.proofs.Common.{ap, ◌∙◌, append_assoc, arith}
use Rattle.std.specs.Char.{is_ascii_digit}
use Rattle.std.proofs.lemmas.Bool.{lt-ltb, le-ltb, ne_eqb}
use Rattle.std.proofs.lemmas.List.{at_drop_more, at_drop_all, drop_more, take_all, length-drop}
use Rattle.std.proofs.lemmas.List.{take_more}
use Rattle.lparse_reader.specs.declared.fault.Fault.TheVariants.{At}
use Rattle.lparse_reader.specs.declared.fault.TextFault.TheVariants.{NotANumber, NumberTooLarge}
use Rattle.lparse_reader.specs.Tokens.{is_separator, skipped, line_of, after_line, put_before}
use Rattle.lparse_reader.specs.Tokens.{trimmed}
use Rattle.lparse_reader.specs.Fields.{digits_at}

-- all that follows a place, as a slice from there on
pub slice_from : (bytes : List ℕ) (i : ℕ) → take (length bytes - i) (drop i bytes) ≡ drop i bytes
slice_from bytes i = take_all (length bytes - i) (drop i bytes) (omega (arith, length-drop i bytes))

-- a separator is passed over
pub skipped_past : (bytes : List ℕ) (i : ℕ) → i < length bytes
    → is_separator (get_or bytes i 0) ≡ true → skipped (drop i bytes) ≡ skipped (drop (i + 1) bytes)
unfolding skipped
skipped_past bytes i lt between = at_drop_more skipped bytes i 0 lt ∙ rw between refl

-- any other byte begins a token
pub skipped_here : (bytes : List ℕ) (i : ℕ) → i < length bytes
    → is_separator (get_or bytes i 0) ≡ false → skipped (drop i bytes) ≡ drop i bytes
unfolding skipped
skipped_here bytes i lt between =
    at_drop_more skipped bytes i 0 lt ∙ rw between (sym (drop_more bytes i 0 lt))

-- at the end no token begins
pub skipped_none : (bytes : List ℕ) (i : ℕ) → length bytes ≤ i → skipped (drop i bytes) ≡ []
unfolding skipped
skipped_none bytes i le = at_drop_all skipped bytes i le

-- ---- digits

pub digits_end : (from number : ℕ) (bytes : List ℕ) (i : ℕ) → i < length bytes
    → is_separator (get_or bytes i 0) ≡ true
    → digits_at from number (drop i bytes) ≡ Ok (number, drop i bytes)
unfolding digits_at
digits_end from number bytes i lt between =
    at_drop_more (digits_at from number) bytes i 0 lt
    ∙ rw between (ap (λ (rest : List ℕ). Ok (number, rest)) (sym (drop_more bytes i 0 lt)))

pub digits_none : (from number : ℕ) (bytes : List ℕ) (i : ℕ) → length bytes ≤ i
    → digits_at from number (drop i bytes) ≡ Ok (number, [])
unfolding digits_at
digits_none from number bytes i le = at_drop_all (digits_at from number) bytes i le

pub digits_wrong : (from number : ℕ) (bytes : List ℕ) (i : ℕ) → i < length bytes
    → is_separator (get_or bytes i 0) ≡ false → is_ascii_digit (get_or bytes i 0) ≡ false
    → digits_at from number (drop i bytes) ≡ Err (At NotANumber from (get_or bytes i 0))
unfolding digits_at
digits_wrong from number bytes i lt between digit =
    at_drop_more (digits_at from number) bytes i 0 lt ∙ rw (between, digit) refl

pub digits_large : (from number : ℕ) (bytes : List ℕ) (i : ℕ) → i < length bytes
    → is_separator (get_or bytes i 0) ≡ false → is_ascii_digit (get_or bytes i 0) ≡ true
    → 2147483647 < 10 * number + (get_or bytes i 0 - 48)
    → digits_at from number (drop i bytes)
    ≡ Err (At NumberTooLarge from (10 * number + (get_or bytes i 0 - 48)))
unfolding digits_at
digits_large from number bytes i lt between digit large =
    let test = lt-ltb 2147483647 (10 * number + (get_or bytes i 0 - 48)) large in
    at_drop_more (digits_at from number) bytes i 0 lt ∙ rw (between, digit, test) refl

pub digits_go_on : (from number : ℕ) (bytes : List ℕ) (i : ℕ) → i < length bytes
    → is_separator (get_or bytes i 0) ≡ false → is_ascii_digit (get_or bytes i 0) ≡ true
    → 10 * number + (get_or bytes i 0 - 48) ≤ 2147483647
    → digits_at from number (drop i bytes)
    ≡ digits_at from (10 * number + (get_or bytes i 0 - 48)) (drop (i + 1) bytes)
unfolding digits_at
digits_go_on from number bytes i lt between digit small =
    let test = le-ltb 2147483647 (10 * number + (get_or bytes i 0 - 48)) small in
    at_drop_more (digits_at from number) bytes i 0 lt ∙ rw (between, digit, test) refl

-- ---- lines

pub line_ends : (bytes : List ℕ) (i : ℕ) → i < length bytes → get_or bytes i 0 ≡ 10
    → line_of (drop i bytes) ≡ []
unfolding line_of
line_ends bytes i lt feed = at_drop_more line_of bytes i 0 lt ∙ rw feed refl

pub line_none : (bytes : List ℕ) (i : ℕ) → length bytes ≤ i → line_of (drop i bytes) ≡ []
unfolding line_of
line_none bytes i le = at_drop_all line_of bytes i le

pub line_goes_on : (bytes : List ℕ) (i : ℕ) → i < length bytes → get_or bytes i 0 ≢ 10
    → take i bytes ++ line_of (drop i bytes) ≡ take (i + 1) bytes ++ line_of (drop (i + 1) bytes)
unfolding line_of
line_goes_on bytes i lt other =
    let test : eqb (get_or bytes i 0) 10 ≡ false = ne_eqb _ _ other in
    let one : line_of (drop i bytes) ≡ get_or bytes i 0 ∷ line_of (drop (i + 1) bytes) =
    at_drop_more line_of bytes i 0 lt ∙ rw test refl in
    let more : take (i + 1) bytes ≡ take i bytes ++ get_or bytes i 0 ∷ [] =
    take_more bytes i 0 lt in
    rw (one, more)
    (sym (append_assoc (take i bytes) (get_or bytes i 0 ∷ []) (line_of (drop (i + 1) bytes))))

pub after_line_here : (bytes : List ℕ) (i : ℕ) → i < length bytes → get_or bytes i 0 ≡ 10
    → after_line (drop i bytes) ≡ drop i bytes
unfolding after_line
after_line_here bytes i lt feed =
    let test : eqb (get_or bytes i 0) 10 ≡ true = rw feed refl in
    at_drop_more after_line bytes i 0 lt ∙ rw test (sym (drop_more bytes i 0 lt))

pub after_line_none : (bytes : List ℕ) (i : ℕ) → length bytes ≤ i → after_line (drop i bytes) ≡ []
unfolding after_line
after_line_none bytes i le = at_drop_all after_line bytes i le

pub after_line_goes_on : (bytes : List ℕ) (i : ℕ) → i < length bytes → get_or bytes i 0 ≢ 10
    → after_line (drop i bytes) ≡ after_line (drop (i + 1) bytes)
unfolding after_line
after_line_goes_on bytes i lt other =
    let test : eqb (get_or bytes i 0) 10 ≡ false = ne_eqb _ _ other in
    at_drop_more after_line bytes i 0 lt ∙ rw test refl

-- ---- carriage returns at the end of a line

-- one at the last place is left out
return_at : (text : List ℕ) (place : ℕ) → length text ≡ suc place → get_or text place 0 ≡ 13
    → trimmed text ≡ trimmed (take place text)
unfolding trimmed
return_at [] place len last = absurd (omega (arith, len))
return_at (byte ∷ []) zero len last = rw last refl
return_at (byte ∷ []) (suc place) len last = absurd (omega (arith, len))
return_at (byte ∷ next ∷ rest) zero len last = absurd (omega (arith, len))
return_at (byte ∷ next ∷ rest) (suc place) len last =
    let shorter : length (next ∷ rest) ≡ suc place = omega (arith, len) in
    ap (put_before byte) (return_at (next ∷ rest) place shorter last)

pub trimmed_return : (text : List ℕ) → 1 ≤ length text → get_or text (length text - 1) 0 ≡ 13
    → trimmed text ≡ trimmed (take (length text - 1) text)
trimmed_return text some last = return_at text (length text - 1) (omega arith) last

-- any other byte at the last place stays
other_at : (text : List ℕ) (place : ℕ) → length text ≡ suc place → get_or text place 0 ≢ 13
    → trimmed text ≡ text
unfolding trimmed
other_at [] place len last = absurd (omega (arith, len))
other_at (byte ∷ []) zero len last =
    let test : eqb byte 13 ≡ false = ne_eqb _ _ last in rw test refl
other_at (byte ∷ []) (suc place) len last = absurd (omega (arith, len))
other_at (byte ∷ next ∷ rest) zero len last = absurd (omega (arith, len))
other_at (byte ∷ next ∷ rest) (suc place) len last =
    let shorter : length (next ∷ rest) ≡ suc place = omega (arith, len) in
    ap (put_before byte) (other_at (next ∷ rest) place shorter last)

pub trimmed_done : (text : List ℕ) → 1 ≤ length text → get_or text (length text - 1) 0 ≢ 13
    → trimmed text ≡ text
trimmed_done text some last = other_at text (length text - 1) (omega arith) last

pub trimmed_nothing : (text : List ℕ) → length text ≡ 0 → trimmed text ≡ text
unfolding trimmed
trimmed_nothing [] len = refl
trimmed_nothing (byte ∷ rest) len = absurd (omega (arith, len))
