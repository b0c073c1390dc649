-- Rows of pieces, and lists of items that are read from them.
use Rattle.std.proofs.Common.{◌≡◌, ℕ, zero, suc, ◌+◌, ◌^◌, ◌<◌, ◌≤◌, List, [], ◌∷◌, ◌++◌, length}
use Rattle.std.proofs.Common.{map, Option, Some, None, Ok, refl, sym, ap, subst, append_assoc}
use Rattle.std.proofs.Common.{arith}
use Rattle.std.specs.List.{AllByRecursion, flat_map}
use Rattle.std.proofs.lemmas.List.{length-append}
use Rattle.lparse_reader.specs.Fields.{Field, behind, counted_at, before_end, until_end_at}
use Rattle.lparse_reader.specs.Pieces.{Item, number, entry, mark, StandsNumber, StandsMark}
use Rattle.lparse_reader.specs.Pieces.{StandsEntry, Stands, PieceRow}
use Rattle.lparse_reader.proofs.lemmas.Pieces.NumberPieces.{bind_ok, ok_is}

-- ---- lengths

pub number_shrinks : (value : ℕ) (bytes rest : List ℕ) → StandsNumber value bytes rest
    → length rest < length bytes
number_shrinks value bytes rest stands =
    omega (
      arith,
      ap length stands.parts,
      length-append stands.gap (stands.token ++ rest),
      length-append stands.token rest,
      stands.numeral.some,
    )

pub entry_shrinks : (atom : ℕ) (name bytes rest : List ℕ) → StandsEntry atom name bytes rest
    → length name + length rest < length bytes
entry_shrinks atom name bytes rest stands =
    omega (
      arith,
      number_shrinks atom bytes stands.after stands.atom_stands,
      ap length stands.parts,
      length-append name (stands.returns ++ rest),
      length-append stands.returns rest,
    )

pub mark_shrinks : (sign : ℕ) (bytes rest : List ℕ) → StandsMark sign bytes rest
    → length rest < length bytes
mark_shrinks sign bytes rest stands =
    omega (arith, ap length stands.parts, length-append stands.gap (66 ∷ sign ∷ rest))

pub piece_shrinks : (item : Item) (bytes rest : List ℕ) → Stands item bytes rest
    → length rest < length bytes
piece_shrinks (number value) bytes rest stands = number_shrinks value bytes rest stands
piece_shrinks (entry atom name) bytes rest stands =
    omega (arith, entry_shrinks atom name bytes rest stands)
piece_shrinks (mark sign) bytes rest stands = mark_shrinks sign bytes rest stands

pub row_shrinks : (items : List Item) (bytes rest : List ℕ) → PieceRow items bytes rest
    → length items + length rest ≤ length bytes
row_shrinks [] bytes rest row = omega (arith, ap length row)
row_shrinks (item ∷ items) bytes rest row =
    omega (arith, piece_shrinks item bytes row.0 row.1, row_shrinks items row.0 rest row.2)

-- ---- rows behind rows

pub row_join : (front back : List Item) (bytes middle rest : List ℕ) → PieceRow front bytes middle
    → PieceRow back middle rest → PieceRow (front ++ back) bytes rest
row_join [] back bytes middle rest first second =
    subst (λ (b : List ℕ). PieceRow back b rest) (sym first) second
row_join (item ∷ front) back bytes middle rest first second =
    (first.0, first.1, row_join front back first.0 middle rest first.2 second)

pub row_split : (front back : List Item) (bytes rest : List ℕ) → PieceRow (front ++ back) bytes rest
    → (middle : List ℕ) × PieceRow front bytes middle × PieceRow back middle rest
row_split [] back bytes rest row = (bytes, refl, row)
row_split (item ∷ front) back bytes rest row =
    let more = row_split front back row.0 rest row.2 in
    (more.0, (row.0, row.1, more.1), more.2)

-- ---- so many items

-- what a field reads stands there, and has a property
abbrev pub ReadsItem : {A : Type 0} → Field A → (A → Item) → (A → Type 0) → Type 0
ReadsItem {A = A} field item P =
    (bytes : List ℕ) (x : A) (rest : List ℕ) → field bytes ≡ Ok (x, rest)
    → Stands (item x) bytes rest × P x

-- what stands there and has the property is read by a field
abbrev pub ReadAgain : {A : Type 0} → Field A → (A → Item) → (A → Type 0) → Type 0
ReadAgain {A = A} field item P =
    (bytes : List ℕ) (x : A) (rest : List ℕ) → P x → Stands (item x) bytes rest
    → field bytes ≡ Ok (x, rest)

pub record Counted {A : Type 0} (item : A → Item) (P : A → Type 0) (count : ℕ) (bytes : List ℕ)
    (xs : List A) (rest : List ℕ) : Type 0 where
  pub row : PieceRow (map item xs) bytes rest
  pub each : AllByRecursion P xs
  pub count_is : length xs ≡ count

pub counted_stands : {A : Type 0} (field : Field A) (item : A → Item) (P : A → Type 0)
    → ReadsItem field item P
    → (count : ℕ) (bytes : List ℕ) (xs : List A) (rest : List ℕ)
    → counted_at field count bytes ≡ Ok (xs, rest) → Counted item P count bytes xs rest
unfolding counted_at
counted_stands {A = A} field item P reads zero bytes xs rest e =
    let same = ok_is ([], bytes) (xs, rest) e in
    subst (λ (p : List A × List ℕ). Counted item P 0 bytes p.0 p.1) same
    (record { row = refl; each = tt; count_is = refl })
counted_stands {A = A} field item P reads (suc count) bytes xs rest e =
    let first =
    bind_ok (field bytes) (λ x. behind (x.0 ∷ []) (counted_at field count x.1)) (xs, rest) e in
    let others =
    bind_ok (counted_at field count first.0.1) (λ more. Ok ((first.0.0 ∷ []) ++ more.0, more.1))
    (xs, rest) first.2 in
    let same = ok_is (first.0.0 ∷ others.0.0, others.0.1) (xs, rest) others.2 in
    let here = reads bytes first.0.0 first.0.1 first.1 in
    let more = counted_stands field item P reads count first.0.1 others.0.0 others.0.1 others.1 in
    subst (λ (p : List A × List ℕ). Counted item P (suc count) bytes p.0 p.1) same
    (record {
      row = (first.0.1, here.0, more.row);
      each = (here.1, more.each);
      count_is =
          ap suc more.count_is;
    })

pub counted_again : {A : Type 0} (field : Field A) (item : A → Item) (P : A → Type 0)
    → ReadAgain field item P
    → (xs : List A) (bytes rest : List ℕ) → AllByRecursion P xs → PieceRow (map item xs) bytes rest
    → counted_at field (length xs) bytes ≡ Ok (xs, rest)
unfolding counted_at
counted_again field item P again [] bytes rest each row = ap (λ (r : List ℕ). Ok ([], r)) row
counted_again field item P again (x ∷ xs) bytes rest each row =
    let here = again bytes x row.0 each.0 row.1 in
    let more = counted_again field item P again xs row.0 rest each.1 row.2 in
    rw (here, more) refl

-- ---- items up to an end

-- what a field reads stands there, if few bytes are left; its end is a 0
pub record ReadsItems {A : Type 0} (field : Field (Option A)) (items : A → List Item)
    (P : A → Type 0) : Type 0 where
  pub some : (bytes : List ℕ) (x : A) (rest : List ℕ) → length bytes < 2 ^ 31
      → field bytes ≡ Ok (Some x, rest) → PieceRow (items x) bytes rest × P x
  pub none : (bytes rest : List ℕ) → field bytes ≡ Ok (None, rest) → StandsNumber 0 bytes rest

pub record ReadsAgain {A : Type 0} (field : Field (Option A)) (items : A → List Item)
    (P : A → Type 0) : Type 0 where
  pub some : (bytes : List ℕ) (x : A) (rest : List ℕ) → P x → PieceRow (items x) bytes rest
      → field bytes ≡ Ok (Some x, rest)
  pub none : (bytes rest : List ℕ) → StandsNumber 0 bytes rest → field bytes ≡ Ok (None, rest)
  pub takes : (x : A) → 1 ≤ length (items x)

pub record UpToEnd {A : Type 0} (items : A → List Item) (P : A → Type 0) (bytes : List ℕ)
    (xs : List A) (rest : List ℕ) : Type 0 where
  pub row : PieceRow (flat_map items xs ++ number 0 ∷ []) bytes rest
  pub each : AllByRecursion P xs

until_step : {A : Type 0} (field : Field (Option A)) (items : A → List Item) (P : A → Type 0)
    (reads : ReadsItems field items P)
    → (most : ℕ) (bytes : List ℕ) (item : Option A) (after : List ℕ) (xs : List A) (rest : List ℕ)
    → length bytes < 2 ^ 31 → field bytes ≡ Ok (item, after)
    → before_end item after (until_end_at field most after) ≡ Ok (xs, rest)
    → ((ys : List A) (tail : List ℕ) → length after < 2 ^ 31
    → until_end_at field most after ≡ Ok (ys, tail) → UpToEnd items P after ys tail)
    → UpToEnd items P bytes xs rest
until_step {A = A} field items P reads most bytes None after xs rest few read e more =
    let same = ok_is ([], after) (xs, rest) e in
    subst (λ (p : List A × List ℕ). UpToEnd items P bytes p.0 p.1) same
    (record { row = (after, reads.none bytes after read, refl); each = tt })
until_step {A = A} field items P reads most bytes (Some x) after xs rest few read e more =
    let others =
    bind_ok (until_end_at field most after) (λ others. Ok ((x ∷ []) ++ others.0, others.1))
    (xs, rest) e in
    let same = ok_is (x ∷ others.0.0, others.0.1) (xs, rest) others.2 in
    let here = reads.some bytes x after few read in
    let shorter : length after < 2 ^ 31 =
    omega (arith, row_shrinks (items x) bytes after here.0, few) in
    let behind_it = more others.0.0 others.0.1 shorter others.1 in
    let joined =
    row_join (items x) (flat_map items others.0.0 ++ number 0 ∷ []) bytes after others.0.1
    here.0 behind_it.row in
    subst (λ (p : List A × List ℕ). UpToEnd items P bytes p.0 p.1) same
    (record {
      row =
          subst (λ (is : List Item). PieceRow is bytes others.0.1)
          (sym (append_assoc (items x) (flat_map items others.0.0) (number 0 ∷ []))) joined;
      each = (here.1, behind_it.each);
    })

pub until_stands : {A : Type 0} (field : Field (Option A)) (items : A → List Item) (P : A → Type 0)
    (reads : ReadsItems field items P)
    → (most : ℕ) (bytes : List ℕ) (xs : List A) (rest : List ℕ) → length bytes < 2 ^ 31
    → until_end_at field most bytes ≡ Ok (xs, rest) → UpToEnd items P bytes xs rest
unfolding until_end_at
until_stands field items P reads zero bytes xs rest few e = absurd cc
until_stands field items P reads (suc most) bytes xs rest few e =
    let first =
    bind_ok (field bytes) (λ item. before_end item.0 item.1 (until_end_at field most item.1))
    (xs, rest) e in
    until_step field items P reads most bytes first.0.0 first.0.1 xs rest few first.1 first.2
    (λ ys tail shorter read. until_stands field items P reads most first.0.1 ys tail shorter read)

pub until_again : {A : Type 0} (field : Field (Option A)) (items : A → List Item) (P : A → Type 0)
    (again : ReadsAgain field items P)
    → (xs : List A) (most : ℕ) (bytes rest : List ℕ) → length bytes ≤ most → AllByRecursion P xs
    → PieceRow (flat_map items xs ++ number 0 ∷ []) bytes rest
    → until_end_at field most bytes ≡ Ok (xs, rest)
unfolding until_end_at
until_again field items P again [] zero bytes rest room each row =
    absurd (omega (arith, number_shrinks 0 bytes row.0 row.1))
until_again field items P again [] (suc most) bytes rest room each row =
    rw (again.none bytes row.0 row.1) (ap (λ (r : List ℕ). Ok ([], r)) row.2)
until_again field items P again (x ∷ xs) most bytes rest room each row =
    let regrouped =
    subst (λ (is : List Item). PieceRow is bytes rest)
    (append_assoc (items x) (flat_map items xs) (number 0 ∷ [])) row in
    let parts = row_split (items x) (flat_map items xs ++ number 0 ∷ []) bytes rest regrouped in
    until_again_one field items P again x xs most bytes parts.0 rest room each parts.1 parts.2
    (λ fewer enough. until_again field items P again xs fewer parts.0 rest enough each.1 parts.2)
  where
    until_again_one : {A : Type 0} (field : Field (Option A)) (items : A → List Item)
        (P : A → Type 0) (again : ReadsAgain field items P)
        (x : A) (xs : List A) (most : ℕ) (bytes middle rest : List ℕ) → length bytes ≤ most
        → AllByRecursion P (x ∷ xs) → PieceRow (items x) bytes middle
        → PieceRow (flat_map items xs ++ number 0 ∷ []) middle rest
        → ((fewer : ℕ) → length middle ≤ fewer
        → until_end_at field fewer middle ≡ Ok (xs, rest))
        → until_end_at field most bytes ≡ Ok (x ∷ xs, rest)
    until_again_one field items P again x xs zero bytes middle rest room each first second more =
        absurd (omega (arith, row_shrinks (items x) bytes middle first, again.takes x, room))
    until_again_one field items P again x xs (suc most) bytes middle rest room each first second
        more =
        let here = again.some bytes x middle each.0 first in
        let others =
        more most
        (omega (arith, row_shrinks (items x) bytes middle first, again.takes x, room)) in
        rw (here, others) refl
