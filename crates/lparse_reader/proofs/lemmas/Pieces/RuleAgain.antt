-- The pieces of a rule are read as that rule, and the rules up to their end.
use Rattle.std.proofs.Common.{◌≡◌, ℕ, Bool, true, false, cond, eqb, List, [], ◌∷◌, ◌++◌, length}
use Rattle.std.proofs.Common.{Option, Some, None, Result, Ok, Err, refl, sym, ap, subst, ◌∙◌, arith}
use Rattle.std.proofs.lemmas.Bool.{eqb-true}
use Rattle.std.proofs.lemmas.List.{map-append}
use Rattle.std.proofs.lemmas.List.Elements.{recursion_from_All}
use Rattle.ground_program.specs.declared.program.Kind.{Kind}
use Rattle.ground_program.specs.declared.program.Kind.TheVariants.{Basic, Constraint, Choice}
use Rattle.ground_program.specs.declared.program.Kind.TheVariants.{Weight, Disjunctive}
use Rattle.ground_program.specs.declared.program.Weighted.{Weighted}
use Rattle.ground_program.specs.declared.program.Rule.{Rule}
use Rattle.ground_program.specs.Program.{WeightFits}
use Rattle.lparse_reader.specs.declared.fault.Fault.{Fault}
use Rattle.lparse_reader.specs.declared.fault.Fault.TheVariants.{At}
use Rattle.lparse_reader.specs.declared.fault.TextFault.TheVariants.{UnknownKind, MinimizeRule}
use Rattle.lparse_reader.specs.declared.rule_text.Counts.{Counts}
use Rattle.lparse_reader.specs.Tokens.{skipped}
use Rattle.lparse_reader.specs.Fields.{◌>>=◌, number_at}
use Rattle.lparse_reader.specs.Reading.{kind_of, kind_or_end_at, body_at, basic_at, constraint_at}
use Rattle.lparse_reader.specs.Reading.{weight_at, many_heads_at, rule_at, rule_of_kind}
use Rattle.lparse_reader.specs.Reading.{rule_or_end_at}
use Rattle.lparse_reader.specs.Pieces.{Item, number, StandsNumber, PieceRow, body_atoms}
use Rattle.lparse_reader.specs.Pieces.{body_weights, negatives, numbers, kind_number}
use Rattle.lparse_reader.specs.Pieces.{numbers_of_kind, rule_items}
use Rattle.lparse_reader.proofs.lemmas.Pieces.NumberPieces.{bind_ok, ok_is, number_stands}
use Rattle.lparse_reader.proofs.lemmas.Pieces.NumberPieces.{number_again}
use Rattle.lparse_reader.proofs.lemmas.Pieces.RowPieces.{row_split, ReadsItems, ReadsAgain}
use Rattle.lparse_reader.proofs.lemmas.Pieces.FieldPieces.{atom_again}
use Rattle.lparse_reader.proofs.lemmas.Pieces.BodyPieces.{counts_of, counts_again, heads_again}
use Rattle.lparse_reader.proofs.lemmas.Pieces.BodyPieces.{ordered_from_first, AreOnes, body_again}
use Rattle.lparse_reader.proofs.lemmas.Pieces.BodyPieces.{negatives_few}
use Rattle.lparse_reader.proofs.lemmas.Pieces.BodyPieces.{plain, weights_again, plain_atoms}
use Rattle.lparse_reader.proofs.lemmas.Pieces.BodyPieces.{plain_negatives}
use Rattle.lparse_reader.proofs.lemmas.Pieces.BodyPieces.{plain_length, plain_ones, plain_are_atoms}
use Rattle.lparse_reader.proofs.lemmas.Pieces.BodyPieces.{plain_ordered}
use Rattle.lparse_reader.proofs.lemmas.Pieces.RulePieces.{IsReadRule, rule_stands}

abbrev made : Kind → List ℕ → ℕ → List Weighted → Rule
made kind heads bound body = record { kind = kind; heads = heads; bound = bound; body = body }

basic_again : (heads : List ℕ) (bound : ℕ) (body : List Weighted) (bytes rest : List ℕ)
    → IsReadRule (made Basic heads bound body)
    → PieceRow (numbers (numbers_of_kind Basic heads bound body)) bytes rest
    → basic_at bytes ≡ Ok (made Basic heads bound body, rest)
unfolding basic_at
basic_again [] bound body bytes rest good row = absurd (omega (arith, good.is_rule.heads))
basic_again (head ∷ []) bound body bytes rest good row =
    let ones =
    recursion_from_All (λ part. WeightFits Basic part.weight) body good.is_rule.weights in
    let first = atom_again bytes head row.0 good.heads.0 row.1 in
    let second =
    counts_again row.0 row.2.0 row.2.2.0 (length body) (negatives body) (negatives_few body)
    row.2.1 row.2.2.1 in
    let third =
    body_again body row.2.2.0 rest (ordered_from_first body good.is_rule.order) ones good.atoms
    row.2.2.2 in
    rw (first, second, third)
    (ap (λ (n : ℕ). Ok (made Basic (head ∷ []) n body, rest)) (sym good.is_rule.bound))
basic_again (head ∷ second ∷ heads) bound body bytes rest good row =
    absurd (omega (arith, good.is_rule.heads))

constraint_again : (heads : List ℕ) (bound : ℕ) (body : List Weighted) (bytes rest : List ℕ)
    → IsReadRule (made Constraint heads bound body)
    → PieceRow (numbers (numbers_of_kind Constraint heads bound body)) bytes rest
    → constraint_at bytes ≡ Ok (made Constraint heads bound body, rest)
unfolding constraint_at
constraint_again [] bound body bytes rest good row = absurd (omega (arith, good.is_rule.heads))
constraint_again (head ∷ []) bound body bytes rest good row =
    let ones =
    recursion_from_All (λ part. WeightFits Constraint part.weight) body good.is_rule.weights in
    let first = atom_again bytes head row.0 good.heads.0 row.1 in
    let second =
    counts_again row.0 row.2.0 row.2.2.0 (length body) (negatives body) (negatives_few body)
    row.2.1 row.2.2.1 in
    let third = number_again row.2.2.0 bound row.2.2.2.0 row.2.2.2.1 in
    let fourth =
    body_again body row.2.2.2.0 rest (ordered_from_first body good.is_rule.order) ones
    good.atoms row.2.2.2.2 in
    rw (first, second, third, fourth) refl
constraint_again (head ∷ second ∷ heads) bound body bytes rest good row =
    absurd (omega (arith, good.is_rule.heads))

many_again : (kind : Kind) (heads : List ℕ) (bound : ℕ) (body : List Weighted) (bytes rest : List ℕ)
    → IsReadRule (made kind heads bound body)
    → bound ≡ length body → AreOnes body
    → PieceRow
    (numbers (length heads ∷ (heads ++ (length body ∷ negatives body ∷ body_atoms body)))) bytes
    rest → many_heads_at kind bytes ≡ Ok (made kind heads bound body, rest)
unfolding many_heads_at
many_again kind heads bound body bytes rest good bound_is ones row =
    let tail = length body ∷ negatives body ∷ body_atoms body in
    let parts =
    row_split (numbers heads) (numbers tail) row.0 rest
    (subst (λ (is : List Item). PieceRow is row.0 rest) (map-append number heads tail)
    row.2) in
    let first =
    heads_again bytes heads parts.0
    (record { middle = row.0; count = row.1; row = parts.1; each = good.heads }) in
    let second =
    counts_again parts.0 parts.2.0 parts.2.2.0 (length body) (negatives body)
    (negatives_few body) parts.2.1 parts.2.2.1 in
    let third =
    body_again body parts.2.2.0 rest (ordered_from_first body good.is_rule.order) ones
    good.atoms parts.2.2.2 in
    rw (first, second, third) (ap (λ (n : ℕ). Ok (made kind heads n body, rest)) (sym bound_is))

weight_again : (heads : List ℕ) (bound : ℕ) (body : List Weighted) (bytes rest : List ℕ)
    → IsReadRule (made Weight heads bound body)
    → PieceRow (numbers (numbers_of_kind Weight heads bound body)) bytes rest
    → weight_at bytes ≡ Ok (made Weight heads bound body, rest)
unfolding weight_at
weight_again [] bound body bytes rest good row = absurd (omega (arith, good.is_rule.heads))
weight_again (head ∷ []) bound body bytes rest good row =
    let body_begins = row.2.2.2.0 in
    let items =
    subst (λ (is : List Item). PieceRow is body_begins rest)
    (map-append number (body_atoms body) (body_weights body)) row.2.2.2.2 in
    let parts =
    row_split (numbers (body_atoms body)) (numbers (body_weights body)) body_begins rest
    items in
    let atoms : PieceRow (numbers (body_atoms (plain body))) body_begins parts.0 =
    subst (λ (ns : List ℕ). PieceRow (numbers ns) body_begins parts.0) (sym (plain_atoms body))
    parts.1 in
    let plain_read =
    body_again (plain body) body_begins parts.0
    (plain_ordered body (ordered_from_first body good.is_rule.order)) (plain_ones body)
    (plain_are_atoms body good.atoms) atoms in
    let counts_is : counts_of (length (plain body)) (negatives (plain body))
    ≡ counts_of (length body) (negatives body) =
    ap (λ (n : ℕ). counts_of n (negatives (plain body))) (plain_length body)
    ∙ ap (λ (n : ℕ). counts_of (length body) n) (plain_negatives body) in
    let first = atom_again bytes head row.0 good.heads.0 row.1 in
    let second = number_again row.0 bound row.2.0 row.2.1 in
    let third =
    counts_again row.2.0 row.2.2.0 body_begins (length body) (negatives body)
    (negatives_few body) row.2.2.1 row.2.2.2.1 in
    let fourth : body_at (counts_of (length body) (negatives body)) body_begins
    ≡ Ok (plain body, parts.0) =
    subst (λ (counts : Counts). body_at counts body_begins ≡ Ok (plain body, parts.0)) counts_is
    plain_read in
    let fifth = weights_again body parts.0 rest parts.2 in
    rw (first, second, third, fourth, fifth) refl
weight_again (head ∷ second ∷ heads) bound body bytes rest good row =
    absurd (omega (arith, good.is_rule.heads))

pub rule_again_of : (kind : Kind) (heads : List ℕ) (bound : ℕ) (body : List Weighted)
    (bytes rest : List ℕ) → IsReadRule (made kind heads bound body)
    → PieceRow (numbers (numbers_of_kind kind heads bound body)) bytes rest
    → rule_at kind bytes ≡ Ok (made kind heads bound body, rest)
rule_again_of Basic heads bound body bytes rest good row =
    basic_again heads bound body bytes rest good row
rule_again_of Constraint heads bound body bytes rest good row =
    constraint_again heads bound body bytes rest good row
rule_again_of Choice heads bound body bytes rest good row =
    many_again Choice heads bound body bytes rest good good.is_rule.bound
    (recursion_from_All (λ part. WeightFits Choice part.weight) body good.is_rule.weights) row
rule_again_of Weight heads bound body bytes rest good row =
    weight_again heads bound body bytes rest good row
rule_again_of Disjunctive heads bound body bytes rest good row =
    many_again Disjunctive heads bound body bytes rest good good.is_rule.bound
    (recursion_from_All (λ part. WeightFits Disjunctive part.weight) body good.is_rule.weights)
    row

-- ---- kinds

abbrev pub kind_or_zero : Option Kind → ℕ
kind_or_zero None = 0
kind_or_zero (Some kind) = kind_number kind

kind_is : (from n : ℕ) (kind : Option Kind) → kind_of from n ≡ Ok kind → n ≡ kind_or_zero kind
kind_is from n kind e =
    step (eqb n 0) n 0 None _ kind refl refl e (λ e.
    step (eqb n 1) n 1 (Some Basic) _ kind refl refl e (λ e.
    step (eqb n 2) n 2 (Some Constraint) _ kind refl refl e (λ e.
    step (eqb n 3) n 3 (Some Choice) _ kind refl refl e (λ e.
    step (eqb n 5) n 5 (Some Weight) _ kind refl refl e (λ e.
    step (eqb n 8) n 8 (Some Disjunctive) _ kind refl refl e (λ e.
    absurd (no_kind (eqb n 6) from n kind e)))))))
  where
    step : (test : Bool) (n k : ℕ) (found : Option Kind) (others : Result (Option Kind) Fault)
        (kind : Option Kind) → eqb n k ≡ test → kind_or_zero found ≡ k
        → cond test (Ok found) others ≡ Ok kind
        → (others ≡ Ok kind → n ≡ kind_or_zero kind) → n ≡ kind_or_zero kind
    step true n k found others kind test found_is e more =
        eqb-true _ _ test ∙ sym found_is ∙ ap kind_or_zero (ok_is found kind e)
    step false n k found others kind test found_is e more = more e

    no_kind : (test : Bool) (from n : ℕ) (kind : Option Kind)
        → cond test (Err (At MinimizeRule from 6)) (Err (At UnknownKind from n)) ≡ Ok kind → ⊥
    no_kind true from n kind e = cc
    no_kind false from n kind e = cc

pub kind_stands : (bytes : List ℕ) (kind : Option Kind) (rest : List ℕ)
    → kind_or_end_at bytes ≡ Ok (kind, rest) → StandsNumber (kind_or_zero kind) bytes rest
unfolding kind_or_end_at
kind_stands bytes kind rest e =
    let first =
    bind_ok (number_at bytes) (λ n. kind_of (length (skipped bytes)) n.0 >>= λ k. Ok (k, n.1))
    (kind, rest) e in
    let second =
    bind_ok (kind_of (length (skipped bytes)) first.0.0) (λ k. Ok (k, first.0.1)) (kind, rest)
    first.2 in
    let stands = number_stands bytes first.0.0 first.0.1 first.1 in
    let here =
    subst (λ (n : ℕ). StandsNumber n bytes first.0.1)
    (kind_is (length (skipped bytes)) first.0.0 second.0 second.1) stands in
    subst (λ (p : Option Kind × List ℕ). StandsNumber (kind_or_zero p.0) bytes p.1)
    (ok_is (second.0, first.0.1) (kind, rest) second.2) here

kind_again : (bytes : List ℕ) (kind : Option Kind) (rest : List ℕ)
    → StandsNumber (kind_or_zero kind) bytes rest → kind_or_end_at bytes ≡ Ok (kind, rest)
unfolding kind_or_end_at
kind_again bytes None rest stands = rw (number_again bytes 0 rest stands) refl
kind_again bytes (Some Basic) rest stands = rw (number_again bytes 1 rest stands) refl
kind_again bytes (Some Constraint) rest stands = rw (number_again bytes 2 rest stands) refl
kind_again bytes (Some Choice) rest stands = rw (number_again bytes 3 rest stands) refl
kind_again bytes (Some Weight) rest stands = rw (number_again bytes 5 rest stands) refl
kind_again bytes (Some Disjunctive) rest stands = rw (number_again bytes 8 rest stands) refl

-- ---- rules up to their end

some_is : (m n : Rule) → Some m ≡ Some n → m ≡ n
some_is m n e = cc

abbrev pair : Rule → List ℕ → Rule × List ℕ
pair rule rest = (rule, rest)

pair_is : (a b : Rule) (x y : List ℕ) → a ≡ b → x ≡ y → pair a x ≡ pair b y
pair_is a b x y first second =
    ap (λ (r : Rule). pair r x) first ∙ ap (λ (l : List ℕ). pair b l) second

rule_of_stands : (bytes middle : List ℕ) (kind : Option Kind) (rule : Rule) (rest : List ℕ)
    → StandsNumber (kind_or_zero kind) bytes middle
    → rule_of_kind kind middle ≡ Ok (Some rule, rest)
    → PieceRow (rule_items rule) bytes rest × IsReadRule rule
rule_of_stands bytes middle None rule rest stands e =
    let same = ok_is (None, middle) (Some rule, rest) e in
    absurd (let wrong = ap (λ (p : Option Rule × List ℕ). p.0) same in cc)
rule_of_stands bytes middle (Some kind) rule rest stands e =
    let read = bind_ok (rule_at kind middle) (λ r. Ok (Some r.0, r.1)) (Some rule, rest) e in
    let same = ok_is (Some read.0.0, read.0.1) (Some rule, rest) read.2 in
    let rule_is : read.0.0 ≡ rule =
    some_is read.0.0 rule (ap (λ (p : Option Rule × List ℕ). p.0) same) in
    let rest_is : read.0.1 ≡ rest = ap (λ (p : Option Rule × List ℕ). p.1) same in
    let found = rule_stands kind middle read.0.0 read.0.1 read.1 in
    let row : PieceRow (rule_items read.0.0) bytes read.0.1 =
    subst
    (λ (k : Kind). PieceRow
    (numbers
    (kind_number k ∷ numbers_of_kind k read.0.0.heads read.0.0.bound read.0.0.body))
    bytes read.0.1) (sym found.kind_is) (middle, stands, found.row) in
    subst (λ (p : Rule × List ℕ). PieceRow (rule_items p.0) bytes p.1 × IsReadRule p.0)
    (pair_is read.0.0 rule read.0.1 rest rule_is rest_is) (row, found.good)

rule_of_ends : (bytes middle : List ℕ) (kind : Option Kind) (rest : List ℕ)
    → StandsNumber (kind_or_zero kind) bytes middle → rule_of_kind kind middle ≡ Ok (None, rest)
    → StandsNumber 0 bytes rest
rule_of_ends bytes middle None rest stands e =
    let same = ok_is (None, middle) (None, rest) e in
    subst (λ (r : List ℕ). StandsNumber 0 bytes r) (ap (λ (p : Option Rule × List ℕ). p.1) same)
    stands
rule_of_ends bytes middle (Some kind) rest stands e =
    let read = bind_ok (rule_at kind middle) (λ r. Ok (Some r.0, r.1)) (None, rest) e in
    let same = ok_is (Some read.0.0, read.0.1) (None, rest) read.2 in
    absurd (let wrong = ap (λ (p : Option Rule × List ℕ). p.0) same in cc)

pub rules_read : ReadsItems rule_or_end_at rule_items IsReadRule
unfolding rule_or_end_at
rules_read = record {
  some = λ bytes rule rest few e.
      let kind = bind_ok (kind_or_end_at bytes) (λ k. rule_of_kind k.0 k.1) (Some rule, rest) e in
      rule_of_stands bytes kind.0.1 kind.0.0 rule rest (kind_stands bytes kind.0.0 kind.0.1 kind.1)
      kind.2;
  none = λ bytes rest e.
      let kind = bind_ok (kind_or_end_at bytes) (λ k. rule_of_kind k.0 k.1) (None, rest) e in
      rule_of_ends bytes kind.0.1 kind.0.0 rest (kind_stands bytes kind.0.0 kind.0.1 kind.1) kind.2;
}

pub rules_again : ReadsAgain rule_or_end_at rule_items IsReadRule
unfolding rule_or_end_at
rules_again = record {
  some = λ bytes rule rest good row.
      let kind = kind_again bytes (Some rule.kind) row.0 row.1 in
      let read = rule_again_of rule.kind rule.heads rule.bound rule.body row.0 rest good row.2 in
      rw (kind, read) refl;
  none = λ bytes rest stands. rw (kind_again bytes None rest stands) refl;
  takes = λ rule. omega arith;
}
