-- Counts, heads, bodies and weights are read exactly where their pieces stand.
use Rattle.std.proofs.Common.{◌≡◌, ℕ, suc, ◌+◌, ◌-◌, ◌≤◌, Bool, true, false, cond, ltb, List, []}
use Rattle.std.proofs.Common.{◌∷◌, ◌++◌, length, map, Result, Ok, Err, refl, sym, ap, subst, ◌∙◌}
use Rattle.std.proofs.Common.{arith, inl, inr}
use Rattle.std.specs.Prelude.{IsTrue}
use Rattle.std.specs.List.{AllByRecursion}
use Rattle.std.proofs.lemmas.Bool.{le-ltb, ltb-false}
use Rattle.std.proofs.lemmas.List.{length-append, map-append}
use Rattle.std.proofs.lemmas.List.Elements.{All-from_recursion, recursion_from_All}
use Rattle.std.proofs.lemmas.List.Kept.{AllPairs-cons}
use Rattle.std.proofs.lemmas.List.Sums.{count_by-le-length, sum_by-cons}
use Rattle.ground_program.specs.declared.program.Weighted.{Weighted}
use Rattle.ground_program.specs.Program.{IsNumber, NegativesFirst}
use Rattle.lparse_reader.specs.declared.fault.Fault.{Fault}
use Rattle.lparse_reader.specs.declared.fault.Fault.TheVariants.{At}
use Rattle.lparse_reader.specs.declared.fault.TextFault.TheVariants.{NegativeCount}
use Rattle.lparse_reader.specs.declared.rule_text.Counts.{Counts}
use Rattle.lparse_reader.specs.Tokens.{skipped}
use Rattle.lparse_reader.specs.Fields.{◌>>=◌, behind, number_at, atom_at, counted_at, part_at}
use Rattle.lparse_reader.specs.Fields.{weighed_at}
use Rattle.lparse_reader.specs.Reading.{counts_at, body_at, heads_at}
use Rattle.lparse_reader.specs.Pieces.{Item, number, StandsNumber, PieceRow, body_atoms}
use Rattle.lparse_reader.specs.Pieces.{body_weights, negatives, numbers}
use Rattle.lparse_reader.proofs.lemmas.Pieces.NumberPieces.{bind_ok, chosen, ok_is, number_stands}
use Rattle.lparse_reader.proofs.lemmas.Pieces.NumberPieces.{number_again}
use Rattle.lparse_reader.proofs.lemmas.Pieces.RowPieces.{counted_stands, counted_again, row_join}
use Rattle.lparse_reader.proofs.lemmas.Pieces.RowPieces.{row_split}
use Rattle.lparse_reader.proofs.lemmas.Pieces.FieldPieces.{IsAtom, IsWeightedPart, part_item}
use Rattle.lparse_reader.proofs.lemmas.Pieces.FieldPieces.{atom_stands}
use Rattle.lparse_reader.proofs.lemmas.Pieces.FieldPieces.{atom_again, part_stands, part_again}

-- ---- the number of literals and of negatives

pub record ReadCounts (counts : Counts) (bytes rest : List ℕ) : Type 0 where
  pub middle : List ℕ
  pub literals : StandsNumber counts.literals bytes middle
  pub negatives : StandsNumber counts.negatives middle rest
  pub sum : counts.negatives + counts.positives ≡ counts.literals

abbrev pub counts_of : ℕ → ℕ → Counts
counts_of literals negatives =
    record { literals = literals; negatives = negatives; positives = literals - negatives }

abbrev counts_end : ℕ → List ℕ → ℕ × List ℕ → Result (Counts × List ℕ) Fault
counts_end literals middle negatives =
    cond (ltb literals negatives.0) (Err (At NegativeCount (length (skipped middle)) negatives.0))
    (Ok (counts_of literals negatives.0, negatives.1))

pub counts_stand : (bytes : List ℕ) (counts : Counts) (rest : List ℕ)
    → counts_at bytes ≡ Ok (counts, rest) → ReadCounts counts bytes rest
unfolding counts_at
counts_stand bytes counts rest e =
    let first =
    bind_ok (number_at bytes)
    (λ literals. number_at literals.1 >>= counts_end literals.0 literals.1) (counts, rest)
    e in
    let second =
    bind_ok (number_at first.0.1) (counts_end first.0.0 first.0.1) (counts, rest) first.2 in
    elim
    (chosen (ltb first.0.0 second.0.0)
    (Err (At NegativeCount (length (skipped first.0.1)) second.0.0))
    (Ok (counts_of first.0.0 second.0.0, second.0.1)) (Ok (counts, rest)) second.2) [
      | inl wrong ↦ absurd (let e = wrong.1 in cc)
      | inr right ↦
          let order : second.0.0 ≤ first.0.0 = ltb-false _ _ right.0 in
          subst (λ (p : Counts × List ℕ). ReadCounts p.0 bytes p.1)
          (ok_is (counts_of first.0.0 second.0.0, second.0.1) (counts, rest) right.1)
          (record {
            middle = first.0.1;
            literals = number_stands bytes first.0.0 first.0.1 first.1;
            negatives = number_stands first.0.1 second.0.0 second.0.1 second.1;
            sum = omega (arith, order);
          })
    ]

pub counts_again : (bytes middle rest : List ℕ) (literals negatives : ℕ) → negatives ≤ literals
    → StandsNumber literals bytes middle → StandsNumber negatives middle rest
    → counts_at bytes ≡ Ok (counts_of literals negatives, rest)
unfolding counts_at
counts_again bytes middle rest literals negatives order first second =
    let test : ltb literals negatives ≡ false = le-ltb _ _ order in
    rw (number_again bytes literals middle first, number_again middle negatives rest second, test)
    refl

-- ---- heads

pub record ReadHeads (bytes heads rest : List ℕ) : Type 0 where
  pub middle : List ℕ
  pub count : StandsNumber (length heads) bytes middle
  pub row : PieceRow (numbers heads) middle rest
  pub each : AllByRecursion IsAtom heads

pub heads_stand : (bytes heads rest : List ℕ) → heads_at bytes ≡ Ok (heads, rest)
    → ReadHeads bytes heads rest
unfolding heads_at
heads_stand bytes heads rest e =
    let first =
    bind_ok (number_at bytes) (λ count. counted_at atom_at count.0 count.1) (heads, rest) e in
    let read =
    counted_stands atom_at number IsAtom atom_stands first.0.0 first.0.1 heads rest first.2 in
    record {
      middle = first.0.1;
      count =
          subst (λ (n : ℕ). StandsNumber n bytes first.0.1) (sym read.count_is)
          (number_stands bytes first.0.0 first.0.1 first.1);
      row = read.row;
      each = read.each;
    }

pub heads_again : (bytes heads rest : List ℕ) → ReadHeads bytes heads rest
    → heads_at bytes ≡ Ok (heads, rest)
unfolding heads_at
heads_again bytes heads rest read =
    rw (number_again bytes (length heads) read.middle read.count)
    (counted_again atom_at number IsAtom atom_again heads read.middle rest read.each read.row)

-- ---- the order of a body, by recursion

-- a later literal is negative only where the earlier one is
abbrev pub IsBefore : Weighted → Weighted → Type 0
IsBefore earlier later = IsTrue later.lit.negated → IsTrue earlier.lit.negated

abbrev pub Ordered : List Weighted → Type 0
Ordered [] = Unit {0}
Ordered (part ∷ body) = AllByRecursion (IsBefore part) body × Ordered body

pub first_from_ordered : (body : List Weighted) → Ordered body → NegativesFirst body
first_from_ordered [] ordered = λ i j d before within. absurd (omega (arith, within))
first_from_ordered (part ∷ body) ordered =
    AllPairs-cons IsBefore part body (All-from_recursion (IsBefore part) body ordered.0)
    (first_from_ordered body ordered.1)

pub ordered_from_first : (body : List Weighted) → NegativesFirst body → Ordered body
ordered_from_first [] first = tt
ordered_from_first (part ∷ body) first = (
  recursion_from_All (IsBefore part) body
      (λ k d within. first 0 (suc k) d (omega arith) (omega (arith, within))),
  ordered_from_first body
      (λ i j d before within. first (suc i) (suc j) d (omega (arith, before))
      (omega (arith, within))),
)

-- negatives and then positives
pub positives_ordered : (back : List Weighted) → AllByRecursion (IsWeightedPart false) back
    → Ordered back
positives_ordered [] each = tt
positives_ordered (part ∷ back) each =
    (after_positive part back each.1, positives_ordered back each.1)
  where
    after_positive : (part : Weighted) (back : List Weighted)
        → AllByRecursion (IsWeightedPart false) back → AllByRecursion (IsBefore part) back
    after_positive part [] each = tt
    after_positive part (next ∷ back) each = (
      λ negative. absurd (let wrong = sym each.0.negated_is ∙ negative in cc),
      after_positive part back each.1,
    )

pub negatives_ordered : (front back : List Weighted) → AllByRecursion (IsWeightedPart true) front
    → AllByRecursion (IsWeightedPart false) back → Ordered (front ++ back)
negatives_ordered [] back negative positive = positives_ordered back positive
negatives_ordered (part ∷ front) back negative positive = (
  after_negative part (front ++ back) negative.0.negated_is,
  negatives_ordered front back negative.1 positive,
)
  where
    after_negative : (part : Weighted) (body : List Weighted) → part.lit.negated ≡ true
        → AllByRecursion (IsBefore part) body
    after_negative part [] is_negative = tt
    after_negative part (next ∷ body) is_negative =
        (λ negative. is_negative, after_negative part body is_negative)

-- what one literal counts
abbrev one_negative : Weighted → ℕ
one_negative part = cond part.lit.negated 1 0

negatives-cons : (part : Weighted) (body : List Weighted)
    → negatives (part ∷ body) ≡ one_negative part + negatives body
negatives-cons part body = sum_by-cons one_negative part body

pub no_negatives : (back : List Weighted) → AllByRecursion (IsWeightedPart false) back
    → negatives back ≡ 0
no_negatives [] each = refl
no_negatives (part ∷ back) each =
    let one : one_negative part ≡ 0 = rw each.0.negated_is refl in
    omega (arith, negatives-cons part back, one, no_negatives back each.1)

pub front_negatives : (front back : List Weighted) → AllByRecursion (IsWeightedPart true) front
    → AllByRecursion (IsWeightedPart false) back → negatives (front ++ back) ≡ length front
front_negatives [] back negative positive = no_negatives back positive
front_negatives (part ∷ front) back negative positive =
    let one : one_negative part ≡ 1 = rw negative.0.negated_is refl in
    omega (
      arith,
      negatives-cons part (front ++ back),
      one,
      front_negatives front back negative.1 positive,
    )

pub part_items : (body : List Weighted) → map part_item body ≡ numbers (body_atoms body)
part_items [] = refl
part_items (part ∷ body) =
    ap (λ (items : List Item). number part.lit.atom ∷ items) (part_items body)

-- ---- bodies whose weights are 1

abbrev pub AreOnes : List Weighted → Type 0
AreOnes body = AllByRecursion (λ part. part.weight ≡ 1) body

abbrev pub AreAtoms : List Weighted → Type 0
AreAtoms body = AllByRecursion (λ part. IsAtom part.lit.atom) body

ones_from_parts : (negated : Bool) (body : List Weighted)
    → AllByRecursion (IsWeightedPart negated) body → AreOnes body × AreAtoms body
ones_from_parts negated [] each = (tt, tt)
ones_from_parts negated (part ∷ body) each =
    let more = ones_from_parts negated body each.1 in
    ((each.0.weight_is, more.0), (each.0.atom, more.1))

each_join : (P : Weighted → Type 0) (front back : List Weighted) → AllByRecursion P front
    → AllByRecursion P back → AllByRecursion P (front ++ back)
each_join P [] back first second = second
each_join P (part ∷ front) back first second = (first.0, each_join P front back first.1 second)

pub record ReadBody (counts : Counts) (bytes : List ℕ) (body : List Weighted) (rest : List ℕ) :
    Type 0 where
  pub row : PieceRow (numbers (body_atoms body)) bytes rest
  pub len : length body ≡ counts.negatives + counts.positives
  pub negatives_is : negatives body ≡ counts.negatives
  pub ordered : Ordered body
  pub ones : AreOnes body
  pub atoms : AreAtoms body

pub body_stands : (counts : Counts) (bytes : List ℕ) (body : List Weighted) (rest : List ℕ)
    → body_at counts bytes ≡ Ok (body, rest) → ReadBody counts bytes body rest
unfolding body_at
body_stands counts bytes body rest e =
    let first =
    bind_ok (counted_at (part_at true) counts.negatives bytes)
    (λ front. behind front.0 (counted_at (part_at false) counts.positives front.1))
    (body, rest) e in
    let front = first.0.0 in
    let second =
    bind_ok (counted_at (part_at false) counts.positives first.0.1)
    (λ more. Ok (front ++ more.0, more.1)) (body, rest) first.2 in
    let back = second.0.0 in
    let negative =
    counted_stands (part_at true) part_item (IsWeightedPart true) (part_stands true)
    counts.negatives bytes front first.0.1 first.1 in
    let positive =
    counted_stands (part_at false) part_item (IsWeightedPart false) (part_stands false)
    counts.positives first.0.1 back second.0.1 second.1 in
    let ones_front = ones_from_parts true front negative.each in
    let ones_back = ones_from_parts false back positive.each in
    let items : map part_item front ++ map part_item back ≡ numbers (body_atoms (front ++ back)) =
    sym (map-append part_item front back) ∙ part_items (front ++ back) in
    subst (λ (p : List Weighted × List ℕ). ReadBody counts bytes p.0 p.1)
    (ok_is (front ++ back, second.0.1) (body, rest) second.2)
    (record {
      row =
          subst (λ (is : List Item). PieceRow is bytes second.0.1) items
          (row_join (map part_item front) (map part_item back) bytes first.0.1 second.0.1
          negative.row positive.row);
      len = omega (arith, length-append front back, negative.count_is, positive.count_is);
      negatives_is = front_negatives front back negative.each positive.each ∙ negative.count_is;
      ordered = negatives_ordered front back negative.each positive.each;
      ones = each_join (λ part. part.weight ≡ 1) front back ones_front.0 ones_back.0;
      atoms = each_join (λ part. IsAtom part.lit.atom) front back ones_front.1 ones_back.1;
    })

-- the negatives and the positives of a body
pub record Halves (body : List Weighted) : Type 0 where
  pub front : List Weighted
  pub back : List Weighted
  pub whole : front ++ back ≡ body
  pub negative : AllByRecursion (IsWeightedPart true) front
  pub positive : AllByRecursion (IsWeightedPart false) back

positives_after : (part : Weighted) (body : List Weighted) → part.lit.negated ≡ false
    → AllByRecursion (IsBefore part) body → AreOnes body → AreAtoms body
    → AllByRecursion (IsWeightedPart false) body
positives_after part [] is_positive before ones atoms = tt
positives_after part (next ∷ body) is_positive before ones atoms = (
  record {
    negated_is =
        no_negative part.lit.negated next.lit.negated is_positive before.0;
    weight_is = ones.0;
    atom =
        atoms.0;
  },
  positives_after part body is_positive before.1 ones.1 atoms.1,
)
  where
    no_negative : (earlier later : Bool) → earlier ≡ false → (later ≡ true → earlier ≡ true)
        → later ≡ false
    no_negative earlier true is_false before = absurd (let wrong = sym is_false ∙ before refl in cc)
    no_negative earlier false is_false before = refl

halves_step : (part : Weighted) (body : List Weighted) (negated : Bool) → part.lit.negated ≡ negated
    → Ordered (part ∷ body) → AreOnes (part ∷ body) → AreAtoms (part ∷ body) → Halves body
    → Halves (part ∷ body)
halves_step part body true is_negated ordered ones atoms more = record {
  front = part ∷ more.front;
  back = more.back;
  whole = ap (λ (ps : List Weighted). part ∷ ps) more.whole;
  negative =
      (record { negated_is = is_negated; weight_is = ones.0; atom = atoms.0 }, more.negative);
  positive = more.positive;
}
halves_step part body false is_negated ordered ones atoms more = record {
  front = [];
  back = part ∷ body;
  whole = refl;
  negative = tt;
  positive = (
    record { negated_is = is_negated; weight_is = ones.0; atom = atoms.0 },
    positives_after part body is_negated ordered.0 ones.1 atoms.1,
  );
}

pub halves : (body : List Weighted) → Ordered body → AreOnes body → AreAtoms body → Halves body
halves [] ordered ones atoms =
    record { front = []; back = []; whole = refl; negative = tt; positive = tt }
halves (part ∷ body) ordered ones atoms =
    halves_step part body part.lit.negated refl ordered ones atoms
    (halves body ordered.1 ones.1 atoms.1)

halves_again : (front back : List Weighted) (bytes rest : List ℕ)
    → AllByRecursion (IsWeightedPart true) front → AllByRecursion (IsWeightedPart false) back
    → PieceRow (numbers (body_atoms (front ++ back))) bytes rest
    → body_at (counts_of (length (front ++ back)) (negatives (front ++ back))) bytes
    ≡ Ok (front ++ back, rest)
unfolding body_at
halves_again front back bytes rest negative positive row =
    let items : numbers (body_atoms (front ++ back)) ≡ map part_item front ++ map part_item back =
    sym (part_items (front ++ back)) ∙ map-append part_item front back in
    let parts =
    row_split (map part_item front) (map part_item back) bytes rest
    (subst (λ (is : List Item). PieceRow is bytes rest) items row) in
    let first =
    counted_again (part_at true) part_item (IsWeightedPart true) (part_again true) front bytes
    parts.0 negative parts.1 in
    let second =
    counted_again (part_at false) part_item (IsWeightedPart false) (part_again false) back
    parts.0 rest positive parts.2 in
    let count : negatives (front ++ back) ≡ length front =
    front_negatives front back negative positive in
    let others : length (front ++ back) - negatives (front ++ back) ≡ length back =
    omega (arith, count, length-append front back) in
    rw (others, count, first, second) refl

pub body_again : (body : List Weighted) (bytes rest : List ℕ) → Ordered body → AreOnes body
    → AreAtoms body → PieceRow (numbers (body_atoms body)) bytes rest
    → body_at (counts_of (length body) (negatives body)) bytes ≡ Ok (body, rest)
body_again body bytes rest ordered ones atoms row =
    let parts = halves body ordered ones atoms in
    let again =
    halves_again parts.front parts.back bytes rest parts.negative parts.positive
    (subst (λ (b : List Weighted). PieceRow (numbers (body_atoms b)) bytes rest)
    (sym parts.whole) row) in
    subst (λ (b : List Weighted). body_at (counts_of (length b) (negatives b)) bytes ≡ Ok (b, rest))
    parts.whole again

pub negatives_few : (body : List Weighted) → negatives body ≤ length body
negatives_few body = count_by-le-length (λ part. part.lit.negated) body

-- ---- weights

-- the body with the weight 1 in place of each
abbrev pub plain : List Weighted → List Weighted
plain [] = []
plain (part ∷ body) = record { lit = part.lit; weight = 1 } ∷ plain body

pub record ReadWeights (parts : List Weighted) (bytes : List ℕ) (body : List Weighted)
    (rest : List ℕ) : Type 0 where
  pub row : PieceRow (numbers (body_weights body)) bytes rest
  pub parts_are : plain body ≡ parts
  pub small : AllByRecursion (λ part. IsNumber part.weight) body

pub weights_stand : (parts : List Weighted) (bytes : List ℕ) (body : List Weighted) (rest : List ℕ)
    → AreOnes parts → weighed_at parts bytes ≡ Ok (body, rest) → ReadWeights parts bytes body rest
unfolding weighed_at
weights_stand [] bytes body rest ones e =
    subst (λ (p : List Weighted × List ℕ). ReadWeights [] bytes p.0 p.1)
    (ok_is ([], bytes) (body, rest) e) (record { row = refl; parts_are = refl; small = tt })
weights_stand (part ∷ parts) bytes body rest ones e =
    let first =
    bind_ok (number_at bytes)
    (λ weight. behind (record { lit = part.lit; weight = weight.0 } ∷ [])
    (weighed_at parts weight.1)) (body, rest) e in
    let weighed : Weighted = record { lit = part.lit; weight = first.0.0 } in
    let second =
    bind_ok (weighed_at parts first.0.1) (λ more. Ok ((weighed ∷ []) ++ more.0, more.1))
    (body, rest) first.2 in
    let stands = number_stands bytes first.0.0 first.0.1 first.1 in
    let more = weights_stand parts first.0.1 second.0.0 second.0.1 ones.1 second.1 in
    let made_again : ℕ → Weighted = λ n. record { lit = part.lit; weight = n } in
    subst (λ (p : List Weighted × List ℕ). ReadWeights (part ∷ parts) bytes p.0 p.1)
    (ok_is (weighed ∷ second.0.0, second.0.1) (body, rest) second.2)
    (record {
      row = (first.0.1, stands, more.row);
      parts_are =
          ap (λ (ps : List Weighted). made_again 1 ∷ ps) more.parts_are
          ∙ ap (λ (n : ℕ). made_again n ∷ parts) (sym ones.0);
      small = (stands.numeral.small, more.small);
    })

pub weights_again : (body : List Weighted) (bytes rest : List ℕ)
    → PieceRow (numbers (body_weights body)) bytes rest
    → weighed_at (plain body) bytes ≡ Ok (body, rest)
unfolding weighed_at
weights_again [] bytes rest row = ap (λ (r : List ℕ). Ok ([], r)) row
weights_again (part ∷ body) bytes rest row =
    rw (number_again bytes part.weight row.0 row.1, weights_again body row.0 rest row.2) refl

pub plain_atoms : (body : List Weighted) → body_atoms (plain body) ≡ body_atoms body
plain_atoms [] = refl
plain_atoms (part ∷ body) = ap (λ (atoms : List ℕ). part.lit.atom ∷ atoms) (plain_atoms body)

pub plain_negatives : (body : List Weighted) → negatives (plain body) ≡ negatives body
plain_negatives [] = refl
plain_negatives (part ∷ body) =
    let weighed : Weighted = record { lit = part.lit; weight = 1 } in
    omega
    (arith, negatives-cons part body, negatives-cons weighed (plain body), plain_negatives body)

pub plain_length : (body : List Weighted) → length (plain body) ≡ length body
plain_length [] = refl
plain_length (part ∷ body) = ap suc (plain_length body)

pub plain_ones : (body : List Weighted) → AreOnes (plain body)
plain_ones [] = tt
plain_ones (part ∷ body) = (refl, plain_ones body)

pub plain_are_atoms : (body : List Weighted) → AreAtoms body → AreAtoms (plain body)
plain_are_atoms [] each = tt
plain_are_atoms (part ∷ body) each = (each.0, plain_are_atoms body each.1)

pub atoms_of_plain : (body : List Weighted) → AreAtoms (plain body) → AreAtoms body
atoms_of_plain [] each = tt
atoms_of_plain (part ∷ body) each = (each.0, atoms_of_plain body each.1)

before_plain : (part : Weighted) (body : List Weighted) → AllByRecursion (IsBefore part) body
    → AllByRecursion (IsBefore part) (plain body)
before_plain part [] each = tt
before_plain part (next ∷ body) each = (each.0, before_plain part body each.1)

pub plain_ordered : (body : List Weighted) → Ordered body → Ordered (plain body)
plain_ordered [] ordered = tt
plain_ordered (part ∷ body) ordered =
    (before_plain part body ordered.0, plain_ordered body ordered.1)

before_of_plain : (part : Weighted) (body : List Weighted)
    → AllByRecursion (IsBefore part) (plain body) → AllByRecursion (IsBefore part) body
before_of_plain part [] each = tt
before_of_plain part (next ∷ body) each = (each.0, before_of_plain part body each.1)

pub ordered_of_plain : (body : List Weighted) → Ordered (plain body) → Ordered body
ordered_of_plain [] ordered = tt
ordered_of_plain (part ∷ body) ordered =
    (before_of_plain part body ordered.0, ordered_of_plain body ordered.1)
