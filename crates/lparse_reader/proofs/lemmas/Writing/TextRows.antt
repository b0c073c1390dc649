-- Canonical lines are rows of pieces.
use Rattle.std.proofs.Common.{◌≡◌, ℕ, ◌^◌, ◌<◌, List, [], ◌∷◌, ◌++◌, map, decimal, true, refl, sym}
use Rattle.std.proofs.Common.{ap, subst, append_assoc, arith, rules, inl}
use Rattle.std.specs.List.{AllByRecursion, flat_map}
use Rattle.std.specs.Char.{is_ascii_digit}
use Rattle.std.proofs.lemmas.Str.Parse.{IsNumeralModel, numerals_by_fold}
use Rattle.std.proofs.lemmas.Fmt.{decimal_nonempty, digits_decimal, digits_value-decimal}
use Rattle.ground_program.specs.declared.program.Named.{Named}
use Rattle.ground_program.specs.Program.{IsNumber}
use Rattle.lparse_reader.specs.Tokens.{is_token_end}
use Rattle.lparse_reader.specs.Pieces.{Item, number, mark, IsGap, IsNumeral, value_of, StandsNumber}
use Rattle.lparse_reader.specs.Pieces.{PieceRow, entry_item}
use Rattle.lparse_reader.specs.Text.{next_fields, number_line, entry_line, ended_lines}

numerals : IsNumeralModel (λ token. AllByRecursion (λ byte. is_ascii_digit byte ≡ true) token)
    (value_of 0)
numerals = numerals_by_fold _ (search rules) value_of (search rules)

-- the decimal text of a number is a token of it
decimal_numeral : (value : ℕ) → IsNumber value → IsNumeral value (decimal value)
decimal_numeral value small =
    let fits : value < 2 ^ 64 = omega arith in
    record {
      some = omega (arith, decimal_nonempty value fits);
      digits = digits_decimal numerals value fits;
      value_is = digits_value-decimal numerals value fits;
      small = small;
    }

number_piece : (value : ℕ) (gap rest : List ℕ) → IsNumber value → IsGap gap
    → is_token_end rest ≡ true → StandsNumber value (gap ++ (decimal value ++ rest)) rest
number_piece value gap rest small between ends =
    record {
      gap = gap;
      token = decimal value;
      between = between;
      numeral =
          decimal_numeral value small;
      parts = refl;
      ends = ends;
    }

-- behind a gap the text stands for the items, up to the line feed at its end
abbrev pub Spells : List ℕ → List Item → Type 0
Spells text items =
    (gap after : List ℕ) (more : List Item) (end : List ℕ) → IsGap gap
    → PieceRow more (10 ∷ after) end → PieceRow (items ++ more) (gap ++ (text ++ after)) end

pub spells_then : (one two : List ℕ) (front back : List Item) → Spells one front → Spells two back
    → Spells (one ++ two) (front ++ back)
spells_then one two front back first second gap after more end between row =
    let behind = second (10 ∷ []) after more end (refl, tt) row in
    let whole = first gap (two ++ after) (back ++ more) end between behind in
    let bytes : gap ++ (one ++ (two ++ after)) ≡ gap ++ ((one ++ two) ++ after) =
    ap (λ text. gap ++ text) (sym (append_assoc one two after)) in
    subst (λ items. PieceRow items (gap ++ ((one ++ two) ++ after)) end)
    (sym (append_assoc front back more))
    (subst (λ text. PieceRow (front ++ (back ++ more)) text end) bytes whole)

-- ---- lines

pub number_spells : (value : ℕ) → IsNumber value → Spells (number_line value) (number value ∷ [])
number_spells value small gap after more end between row =
    let bytes : gap ++ (decimal value ++ (10 ∷ after)) ≡ gap
    ++ ((decimal value ++ 10 ∷ []) ++ after) =
    ap (λ text. gap ++ text) (sym (append_assoc (decimal value) (10 ∷ []) after)) in
    subst (λ text. PieceRow (number value ∷ more) text end) bytes
    (10 ∷ after, number_piece value gap (10 ∷ after) small between refl, row)

pub entry_spells : (named : Named) → IsNumber named.atom
    → Spells (entry_line named) (entry_item named ∷ [])
entry_spells named small gap after more end between row =
    let behind : List ℕ = 32 ∷ (named.name ++ (10 ∷ after)) in
    let bytes : gap ++ (decimal named.atom ++ behind) ≡ gap ++ (entry_line named ++ after) =
    ap (λ text. gap ++ text) (simp append_assoc) in
    subst (λ text. PieceRow (entry_item named ∷ more) text end) bytes (
      10 ∷ after,
      record {
        after = behind;
        blank = 32;
        returns = [];
        atom_stands = number_piece named.atom gap behind small between refl;
        gap = inl refl;
        returns_only = tt;
        parts = refl;
        ends = refl;
      },
      row,
    )

pub mark_spells : (sign : ℕ) → Spells (66 ∷ sign ∷ 10 ∷ []) (mark sign ∷ [])
mark_spells sign gap after more end between row =
    (10 ∷ after, record { gap = gap; between = between; parts = refl; ends = refl }, row)

fields_end : (numbers after : List ℕ) → is_token_end (next_fields numbers ++ (10 ∷ after)) ≡ true
fields_end [] after = refl
fields_end (one ∷ others) after = refl

fields_row : (numbers after : List ℕ) (more : List Item) (end : List ℕ)
    → AllByRecursion IsNumber numbers → PieceRow more (10 ∷ after) end
    → PieceRow (map number numbers ++ more) (next_fields numbers ++ (10 ∷ after)) end
fields_row [] after more end small row = row
fields_row (one ∷ others) after more end small row =
    let behind : List ℕ = next_fields others ++ (10 ∷ after) in
    let bytes : 32 ∷ (decimal one ++ behind) ≡ next_fields (one ∷ others) ++ (10 ∷ after) =
    ap (λ text. 32 ∷ text)
    (sym (append_assoc (decimal one) (next_fields others) (10 ∷ after))) in
    subst (λ text. PieceRow (number one ∷ (map number others ++ more)) text end) bytes (
      behind,
      number_piece one (32 ∷ []) behind small.0 (refl, tt) (fields_end others after),
      fields_row others after more end small.1 row,
    )

-- a number and then fields, each behind a blank
pub line_spells : (first : ℕ) (others : List ℕ) → IsNumber first → AllByRecursion IsNumber others
    → Spells (decimal first ++ next_fields others ++ 10 ∷ []) (number first ∷ map number others)
line_spells first others small each gap after more end between row =
    let behind : List ℕ = next_fields others ++ (10 ∷ after) in
    let bytes : gap ++ (decimal first ++ behind) ≡ gap
    ++ ((decimal first ++ next_fields others ++ 10 ∷ []) ++ after) =
    ap (λ text. gap ++ text) (simp append_assoc) in
    subst (λ text. PieceRow (number first ∷ (map number others ++ more)) text end) bytes (
      behind,
      number_piece first gap behind small between (fields_end others after),
      fields_row others after more end each row,
    )

-- ---- lines of a list

pub ended_spells : {X : Type 0} (line : X → List ℕ) (items : X → List Item) (xs : List X)
    → AllByRecursion (λ x. Spells (line x) (items x)) xs
    → Spells (ended_lines line xs) (flat_map items xs ++ number 0 ∷ [])
ended_spells line items [] each = number_spells 0 (omega arith)
ended_spells line items (x ∷ xs) each =
    let whole =
    spells_then (line x) (ended_lines line xs) (items x) (flat_map items xs ++ number 0 ∷ [])
    each.0 (ended_spells line items xs each.1) in
    let text : line x ++ ended_lines line xs ≡ ended_lines line (x ∷ xs) =
    sym (append_assoc (line x) (flat_map line xs) (number_line 0)) in
    subst (λ spelt. Spells (ended_lines line (x ∷ xs)) spelt)
    (sym (append_assoc (items x) (flat_map items xs) (number 0 ∷ [])))
    (subst (λ bytes. Spells bytes (items x ++ (flat_map items xs ++ number 0 ∷ []))) text whole)
