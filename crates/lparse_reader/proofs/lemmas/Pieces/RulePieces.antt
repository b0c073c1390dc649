-- A rule is read exactly where its pieces stand.
use Rattle.std.proofs.Common.{◌≡◌, ℕ, List, [], ◌∷◌, ◌++◌, length, Result, Ok, refl, sym, ap, subst}
use Rattle.std.proofs.Common.{◌∙◌, arith}
use Rattle.std.specs.Prelude.{All}
use Rattle.std.specs.List.{AllByRecursion}
use Rattle.std.proofs.lemmas.List.{map-append}
use Rattle.std.proofs.lemmas.List.Elements.{All-from_recursion}
use Rattle.ground_program.specs.declared.program.Kind.{Kind}
use Rattle.ground_program.specs.declared.program.Kind.TheVariants.{Basic, Constraint, Choice}
use Rattle.ground_program.specs.declared.program.Kind.TheVariants.{Weight, Disjunctive}
use Rattle.ground_program.specs.declared.program.Weighted.{Weighted}
use Rattle.ground_program.specs.declared.program.Rule.{Rule}
use Rattle.ground_program.specs.Program.{IsNumber, IsRule, HeadsFit, BoundFits, WeightFits}
use Rattle.lparse_reader.specs.declared.fault.Fault.{Fault}
use Rattle.lparse_reader.specs.declared.rule_text.Counts.{Counts}
use Rattle.lparse_reader.specs.Fields.{◌>>=◌, number_at, atom_at, weighed_at}
use Rattle.lparse_reader.specs.Reading.{counts_at, body_at, heads_at, basic_at, constraint_at}
use Rattle.lparse_reader.specs.Reading.{weight_at, many_heads_at, rule_at}
use Rattle.lparse_reader.specs.Pieces.{Item, number, StandsNumber, PieceRow, body_atoms}
use Rattle.lparse_reader.specs.Pieces.{body_weights, negatives, numbers, numbers_of_kind}
use Rattle.lparse_reader.proofs.lemmas.Pieces.NumberPieces.{bind_ok, ok_is, number_stands}
use Rattle.lparse_reader.proofs.lemmas.Pieces.RowPieces.{row_join}
use Rattle.lparse_reader.proofs.lemmas.Pieces.FieldPieces.{IsAtom, atom_stands}
use Rattle.lparse_reader.proofs.lemmas.Pieces.BodyPieces.{ReadCounts, counts_stand, heads_stand}
use Rattle.lparse_reader.proofs.lemmas.Pieces.BodyPieces.{Ordered}
use Rattle.lparse_reader.proofs.lemmas.Pieces.BodyPieces.{first_from_ordered, AreOnes, AreAtoms}
use Rattle.lparse_reader.proofs.lemmas.Pieces.BodyPieces.{ReadBody}
use Rattle.lparse_reader.proofs.lemmas.Pieces.BodyPieces.{body_stands, plain, weights_stand}
use Rattle.lparse_reader.proofs.lemmas.Pieces.BodyPieces.{plain_atoms}
use Rattle.lparse_reader.proofs.lemmas.Pieces.BodyPieces.{plain_negatives, plain_length}
use Rattle.lparse_reader.proofs.lemmas.Pieces.BodyPieces.{atoms_of_plain}
use Rattle.lparse_reader.proofs.lemmas.Pieces.BodyPieces.{ordered_of_plain}

-- a rule of the format, each of whose atoms is one
pub record IsReadRule (rule : Rule) : Type 0 where
  pub is_rule : IsRule rule
  pub heads : AllByRecursion IsAtom rule.heads
  pub atoms : AreAtoms rule.body

-- a rule that was read with this kind
pub record RuleStands (kind : Kind) (bytes : List ℕ) (rule : Rule) (rest : List ℕ) : Type 0 where
  pub kind_is : rule.kind ≡ kind
  pub row : PieceRow (numbers (numbers_of_kind kind rule.heads rule.bound rule.body)) bytes rest
  pub good : IsReadRule rule

abbrev made : Kind → List ℕ → ℕ → List Weighted → Rule
made kind heads bound body = record { kind = kind; heads = heads; bound = bound; body = body }

-- the numbers of literals and negatives, and then the atoms of the body
pub record CountsAndBody (bytes : List ℕ) (body : List Weighted) (rest : List ℕ) : Type 0 where
  pub row : PieceRow (numbers (length body ∷ negatives body ∷ body_atoms body)) bytes rest
  pub few : IsNumber (length body)

literals_are : (counts : Counts) (bytes middle : List ℕ) (body : List Weighted) (rest : List ℕ)
    → ReadCounts counts bytes middle → ReadBody counts middle body rest
    → length body ≡ counts.literals
literals_are counts bytes middle body rest read stands = stands.len ∙ read.sum

counts_and_body : (counts : Counts) (bytes middle : List ℕ) (body : List Weighted) (rest : List ℕ)
    → ReadCounts counts bytes middle → ReadBody counts middle body rest
    → CountsAndBody bytes body rest
counts_and_body counts bytes middle body rest read stands =
    let len = literals_are counts bytes middle body rest read stands in
    record {
      row = (
        read.middle,
        subst (λ (n : ℕ). StandsNumber n bytes read.middle) (sym len) read.literals,
        (
          middle,
          subst (λ (n : ℕ). StandsNumber n read.middle middle) (sym stands.negatives_is)
              read.negatives,
          stands.row,
        ),
      );
      few = omega (arith, len, read.literals.numeral.small);
    }

all_ones : (kind : Kind) (body : List Weighted)
    → ((weight : ℕ) → weight ≡ 1 → WeightFits kind weight) → AreOnes body
    → AllByRecursion (λ part. WeightFits kind part.weight) body
all_ones kind [] fits ones = tt
all_ones kind (part ∷ body) fits ones = (fits part.weight ones.0, all_ones kind body fits ones.1)

-- ---- basic rules

abbrev basic_end : ℕ → Counts → List Weighted × List ℕ → Result (Rule × List ℕ) Fault
basic_end head counts body = Ok (made Basic (head ∷ []) counts.literals body.0, body.1)

abbrev basic_rest : ℕ → Counts × List ℕ → Result (Rule × List ℕ) Fault
basic_rest head counts = body_at counts.0 counts.1 >>= basic_end head counts.0

basic_stands : (bytes : List ℕ) (rule : Rule) (rest : List ℕ) → basic_at bytes ≡ Ok (rule, rest)
    → RuleStands Basic bytes rule rest
unfolding basic_at
basic_stands bytes rule rest e =
    let head =
    bind_ok (atom_at bytes) (λ head. counts_at head.1 >>= basic_rest head.0) (rule, rest) e in
    let counts = bind_ok (counts_at head.0.1) (basic_rest head.0.0) (rule, rest) head.2 in
    let body =
    bind_ok (body_at counts.0.0 counts.0.1) (basic_end head.0.0 counts.0.0) (rule, rest)
    counts.2 in
    let head_stands = atom_stands bytes head.0.0 head.0.1 head.1 in
    let counts_read = counts_stand head.0.1 counts.0.0 counts.0.1 counts.1 in
    let body_read = body_stands counts.0.0 counts.0.1 body.0.0 body.0.1 body.1 in
    let both =
    counts_and_body counts.0.0 head.0.1 counts.0.1 body.0.0 body.0.1 counts_read body_read in
    let len = literals_are counts.0.0 head.0.1 counts.0.1 body.0.0 body.0.1 counts_read body_read in
    subst (λ (p : Rule × List ℕ). RuleStands Basic bytes p.0 p.1)
    (ok_is (made Basic (head.0.0 ∷ []) counts.0.0.literals body.0.0, body.0.1) (rule, rest)
    body.2)
    (record {
      kind_is = refl;
      row = (head.0.1, head_stands.0, both.row);
      good = record {
        is_rule = record {
          heads = refl;
          bound = sym len;
          bound_number = counts_read.literals.numeral.small;
          weights =
              All-from_recursion (λ part. WeightFits Basic part.weight) body.0.0
              (all_ones Basic body.0.0 (λ weight one. one) body_read.ones);
          order = first_from_ordered body.0.0 body_read.ordered;
          few_heads = omega arith;
          few_literals = both.few;
        };
        heads = (head_stands.1, tt);
        atoms = body_read.atoms;
      };
    })

-- ---- constraint rules

abbrev constraint_end : ℕ → ℕ → List Weighted × List ℕ → Result (Rule × List ℕ) Fault
constraint_end head bound body = Ok (made Constraint (head ∷ []) bound body.0, body.1)

abbrev constraint_body : ℕ → Counts → ℕ × List ℕ → Result (Rule × List ℕ) Fault
constraint_body head counts bound = body_at counts bound.1 >>= constraint_end head bound.0

abbrev constraint_rest : ℕ → Counts × List ℕ → Result (Rule × List ℕ) Fault
constraint_rest head counts = number_at counts.1 >>= constraint_body head counts.0

constraint_stands : (bytes : List ℕ) (rule : Rule) (rest : List ℕ)
    → constraint_at bytes ≡ Ok (rule, rest) → RuleStands Constraint bytes rule rest
unfolding constraint_at
constraint_stands bytes rule rest e =
    let head =
    bind_ok (atom_at bytes) (λ head. counts_at head.1 >>= constraint_rest head.0) (rule, rest)
    e in
    let counts = bind_ok (counts_at head.0.1) (constraint_rest head.0.0) (rule, rest) head.2 in
    let bound =
    bind_ok (number_at counts.0.1) (constraint_body head.0.0 counts.0.0) (rule, rest)
    counts.2 in
    let body =
    bind_ok (body_at counts.0.0 bound.0.1) (constraint_end head.0.0 bound.0.0) (rule, rest)
    bound.2 in
    let head_stands = atom_stands bytes head.0.0 head.0.1 head.1 in
    let counts_read = counts_stand head.0.1 counts.0.0 counts.0.1 counts.1 in
    let bound_stands = number_stands counts.0.1 bound.0.0 bound.0.1 bound.1 in
    let body_read = body_stands counts.0.0 bound.0.1 body.0.0 body.0.1 body.1 in
    let len : length body.0.0 ≡ counts.0.0.literals = body_read.len ∙ counts_read.sum in
    subst (λ (p : Rule × List ℕ). RuleStands Constraint bytes p.0 p.1)
    (ok_is (made Constraint (head.0.0 ∷ []) bound.0.0 body.0.0, body.0.1) (rule, rest) body.2)
    (record {
      kind_is = refl;
      row = (
        head.0.1,
        head_stands.0,
        (
          counts_read.middle,
          subst (λ (n : ℕ). StandsNumber n head.0.1 counts_read.middle) (sym len)
              counts_read.literals,
          (
            counts.0.1,
            subst (λ (n : ℕ). StandsNumber n counts_read.middle counts.0.1)
                (sym body_read.negatives_is) counts_read.negatives,
            (bound.0.1, bound_stands, body_read.row),
          ),
        ),
      );
      good = record {
        is_rule = record {
          heads = refl;
          bound = tt;
          bound_number = bound_stands.numeral.small;
          weights =
              All-from_recursion (λ part. WeightFits Constraint part.weight) body.0.0
              (all_ones Constraint body.0.0 (λ weight one. one) body_read.ones);
          order = first_from_ordered body.0.0 body_read.ordered;
          few_heads = omega arith;
          few_literals = omega (arith, len, counts_read.literals.numeral.small);
        };
        heads = (head_stands.1, tt);
        atoms = body_read.atoms;
      };
    })

-- ---- choice and disjunctive rules

abbrev many_end : Kind → List ℕ → Counts → List Weighted × List ℕ → Result (Rule × List ℕ) Fault
many_end kind heads counts body = Ok (made kind heads counts.literals body.0, body.1)

abbrev many_rest : Kind → List ℕ → Counts × List ℕ → Result (Rule × List ℕ) Fault
many_rest kind heads counts = body_at counts.0 counts.1 >>= many_end kind heads counts.0

-- what holds of both kinds
pub record ManyHeads (kind : Kind) (bytes : List ℕ) (rule : Rule) (rest : List ℕ) : Type 0 where
  pub kind_is : rule.kind ≡ kind
  pub row :
      PieceRow
      (numbers
      (length rule.heads
      ∷ (rule.heads
      ++ (length rule.body ∷ negatives rule.body ∷ body_atoms rule.body)))) bytes
      rest
  pub heads : AllByRecursion IsAtom rule.heads
  pub atoms : AreAtoms rule.body
  pub bound : rule.bound ≡ length rule.body
  pub ones : AreOnes rule.body
  pub ordered : Ordered rule.body
  pub few_heads : IsNumber (length rule.heads)
  pub few_literals : IsNumber (length rule.body)

many_heads_stand : (kind : Kind) (bytes : List ℕ) (rule : Rule) (rest : List ℕ)
    → many_heads_at kind bytes ≡ Ok (rule, rest) → ManyHeads kind bytes rule rest
unfolding many_heads_at
many_heads_stand kind bytes rule rest e =
    let heads =
    bind_ok (heads_at bytes) (λ heads. counts_at heads.1 >>= many_rest kind heads.0)
    (rule, rest) e in
    let counts = bind_ok (counts_at heads.0.1) (many_rest kind heads.0.0) (rule, rest) heads.2 in
    let body =
    bind_ok (body_at counts.0.0 counts.0.1) (many_end kind heads.0.0 counts.0.0) (rule, rest)
    counts.2 in
    let heads_read = heads_stand bytes heads.0.0 heads.0.1 heads.1 in
    let counts_read = counts_stand heads.0.1 counts.0.0 counts.0.1 counts.1 in
    let body_read = body_stands counts.0.0 counts.0.1 body.0.0 body.0.1 body.1 in
    let both =
    counts_and_body counts.0.0 heads.0.1 counts.0.1 body.0.0 body.0.1 counts_read body_read in
    let len =
    literals_are counts.0.0 heads.0.1 counts.0.1 body.0.0 body.0.1 counts_read body_read in
    let tail = length body.0.0 ∷ negatives body.0.0 ∷ body_atoms body.0.0 in
    let joined =
    row_join (numbers heads.0.0) (numbers tail) heads_read.middle heads.0.1 body.0.1
    heads_read.row both.row in
    subst (λ (p : Rule × List ℕ). ManyHeads kind bytes p.0 p.1)
    (ok_is (made kind heads.0.0 counts.0.0.literals body.0.0, body.0.1) (rule, rest) body.2)
    (record {
      kind_is = refl;
      row = (
        heads_read.middle,
        heads_read.count,
        subst (λ (is : List Item). PieceRow is heads_read.middle body.0.1)
            (sym (map-append number heads.0.0 tail)) joined,
      );
      heads = heads_read.each;
      atoms = body_read.atoms;
      bound = sym len;
      ones = body_read.ones;
      ordered = body_read.ordered;
      few_heads = heads_read.count.numeral.small;
      few_literals = both.few;
    })

-- a kind that has these heads and this bound, and whose weights are ones
many_good : (kind : Kind) (bytes : List ℕ) (rule : Rule) (rest : List ℕ) → HeadsFit kind rule.heads
    → BoundFits kind rule.bound rule.body → ((weight : ℕ) → weight ≡ 1 → WeightFits kind weight)
    → ManyHeads kind bytes rule rest → IsReadRule rule
many_good kind bytes rule rest heads bound weights many = record {
  is_rule = record {
    heads = subst (λ (k : Kind). HeadsFit k rule.heads) (sym many.kind_is) heads;
    bound = subst (λ (k : Kind). BoundFits k rule.bound rule.body) (sym many.kind_is) bound;
    bound_number = omega (arith, many.bound, many.few_literals);
    weights =
        subst (λ (k : Kind). All (λ part. WeightFits k part.weight) rule.body) (sym many.kind_is)
        (All-from_recursion (λ part. WeightFits kind part.weight) rule.body
        (all_ones kind rule.body weights many.ones));
    order = first_from_ordered rule.body many.ordered;
    few_heads = many.few_heads;
    few_literals = many.few_literals;
  };
  heads = many.heads;
  atoms = many.atoms;
}

choice_stands : (bytes : List ℕ) (rule : Rule) (rest : List ℕ) → ManyHeads Choice bytes rule rest
    → RuleStands Choice bytes rule rest
choice_stands bytes rule rest many = record {
  kind_is = many.kind_is;
  row = many.row;
  good = many_good Choice bytes rule rest tt many.bound (λ weight one. one) many;
}

disjunctive_stands : (bytes : List ℕ) (rule : Rule) (rest : List ℕ)
    → ManyHeads Disjunctive bytes rule rest → RuleStands Disjunctive bytes rule rest
disjunctive_stands bytes rule rest many = record {
  kind_is = many.kind_is;
  row = many.row;
  good = many_good Disjunctive bytes rule rest tt many.bound (λ weight one. one) many;
}

-- ---- weight rules

abbrev weight_end : ℕ → ℕ → List Weighted × List ℕ → Result (Rule × List ℕ) Fault
weight_end head bound weighed = Ok (made Weight (head ∷ []) bound weighed.0, weighed.1)

abbrev weight_weights : ℕ → ℕ → List Weighted × List ℕ → Result (Rule × List ℕ) Fault
weight_weights head bound body = weighed_at body.0 body.1 >>= weight_end head bound

abbrev weight_body : ℕ → ℕ → Counts × List ℕ → Result (Rule × List ℕ) Fault
weight_body head bound counts = body_at counts.0 counts.1 >>= weight_weights head bound

abbrev weight_rest : ℕ → ℕ × List ℕ → Result (Rule × List ℕ) Fault
weight_rest head bound = counts_at bound.1 >>= weight_body head bound.0

weight_stands : (bytes : List ℕ) (rule : Rule) (rest : List ℕ) → weight_at bytes ≡ Ok (rule, rest)
    → RuleStands Weight bytes rule rest
unfolding weight_at
weight_stands bytes rule rest e =
    let head =
    bind_ok (atom_at bytes) (λ head. number_at head.1 >>= weight_rest head.0) (rule, rest) e in
    let bound = bind_ok (number_at head.0.1) (weight_rest head.0.0) (rule, rest) head.2 in
    let counts =
    bind_ok (counts_at bound.0.1) (weight_body head.0.0 bound.0.0) (rule, rest) bound.2 in
    let body =
    bind_ok (body_at counts.0.0 counts.0.1) (weight_weights head.0.0 bound.0.0) (rule, rest)
    counts.2 in
    let weighed =
    bind_ok (weighed_at body.0.0 body.0.1) (weight_end head.0.0 bound.0.0) (rule, rest)
    body.2 in
    let head_stands = atom_stands bytes head.0.0 head.0.1 head.1 in
    let bound_stands = number_stands head.0.1 bound.0.0 bound.0.1 bound.1 in
    let counts_read = counts_stand bound.0.1 counts.0.0 counts.0.1 counts.1 in
    let body_read = body_stands counts.0.0 counts.0.1 body.0.0 body.0.1 body.1 in
    let weights =
    weights_stand body.0.0 body.0.1 weighed.0.0 weighed.0.1 body_read.ones weighed.1 in
    let both =
    counts_and_body counts.0.0 bound.0.1 counts.0.1 body.0.0 body.0.1 counts_read body_read in
    let whole = weighed.0.0 in
    let as_plain =
    subst (λ (ps : List Weighted). CountsAndBody bound.0.1 ps body.0.1) (sym weights.parts_are)
    both in
    let plain_row : PieceRow (numbers (length whole ∷ negatives whole ∷ body_atoms whole)) bound.0.1
    body.0.1 =
    subst (λ (ns : List ℕ). PieceRow (numbers ns) bound.0.1 body.0.1)
    (ap (λ (n : ℕ). n ∷ negatives (plain whole) ∷ body_atoms (plain whole)) (plain_length whole)
    ∙ ap (λ (n : ℕ). length whole ∷ n ∷ body_atoms (plain whole)) (plain_negatives whole)
    ∙ ap (λ (ns : List ℕ). length whole ∷ negatives whole ∷ ns) (plain_atoms whole)) as_plain.row in
    let joined =
    row_join (numbers (length whole ∷ negatives whole ∷ body_atoms whole))
    (numbers (body_weights whole)) bound.0.1 body.0.1 weighed.0.1 plain_row weights.row in
    subst (λ (p : Rule × List ℕ). RuleStands Weight bytes p.0 p.1)
    (ok_is (made Weight (head.0.0 ∷ []) bound.0.0 whole, weighed.0.1) (rule, rest) weighed.2)
    (record {
      kind_is = refl;
      row = (
        head.0.1,
        head_stands.0,
        (
          bound.0.1,
          bound_stands,
          subst (λ (is : List Item). PieceRow is bound.0.1 weighed.0.1)
              (sym
              (map-append number (length whole ∷ negatives whole ∷ body_atoms whole)
              (body_weights whole))) joined,
        ),
      );
      good = record {
        is_rule = record {
          heads = refl;
          bound = tt;
          bound_number = bound_stands.numeral.small;
          weights = All-from_recursion (λ part. WeightFits Weight part.weight) whole weights.small;
          order =
              first_from_ordered whole
              (ordered_of_plain whole
              (subst Ordered (sym weights.parts_are) body_read.ordered));
          few_heads = omega arith;
          few_literals = omega (arith, as_plain.few, plain_length whole);
        };
        heads = (head_stands.1, tt);
        atoms = atoms_of_plain whole (subst AreAtoms (sym weights.parts_are) body_read.atoms);
      };
    })

pub rule_stands : (kind : Kind) (bytes : List ℕ) (rule : Rule) (rest : List ℕ)
    → rule_at kind bytes ≡ Ok (rule, rest) → RuleStands kind bytes rule rest
rule_stands Basic bytes rule rest e = basic_stands bytes rule rest e
rule_stands Constraint bytes rule rest e = constraint_stands bytes rule rest e
rule_stands Choice bytes rule rest e =
    choice_stands bytes rule rest (many_heads_stand Choice bytes rule rest e)
rule_stands Weight bytes rule rest e = weight_stands bytes rule rest e
rule_stands Disjunctive bytes rule rest e =
    disjunctive_stands bytes rule rest (many_heads_stand Disjunctive bytes rule rest e)
