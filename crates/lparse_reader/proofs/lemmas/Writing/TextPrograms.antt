-- The canonical text of a program is a row of pieces, one for each of its fields.
use Rattle.std.proofs.Common.{◌≡◌, ℕ, ◌≤◌, List, [], ◌∷◌, ◌++◌, length, map, Ok, refl, sym, ap}
use Rattle.std.proofs.Common.{subst, ◌∙◌, append_assoc, arith}
use Rattle.std.specs.List.{AllByRecursion, flat_map}
use Rattle.std.proofs.lemmas.List.{append-nil}
use Rattle.std.proofs.lemmas.List.Concat.{flat_map_single}
use Rattle.std.proofs.lemmas.List.Elements.{recursion_from_All}
use Rattle.std.proofs.lemmas.List.Sums.{count_by-le-length}
use Rattle.ground_program.specs.declared.program.Kind.{Kind}
use Rattle.ground_program.specs.declared.program.Kind.TheVariants.{Basic, Constraint, Choice}
use Rattle.ground_program.specs.declared.program.Kind.TheVariants.{Weight, Disjunctive}
use Rattle.ground_program.specs.declared.program.Weighted.{Weighted}
use Rattle.ground_program.specs.declared.program.Rule.{Rule}
use Rattle.ground_program.specs.declared.program.Named.{Named}
use Rattle.ground_program.specs.declared.program.Program.{Program}
use Rattle.ground_program.specs.Program.{IsNumber, IsRule, IsProgram, WeightFits, atoms_of_rule}
use Rattle.ground_program.specs.Program.{atoms_of}
use Rattle.lparse_reader.specs.Pieces.{Item, number, mark, PieceRow, Reads, kind_number}
use Rattle.lparse_reader.specs.Pieces.{numbers_of_kind, body_atoms, body_weights, negatives}
use Rattle.lparse_reader.specs.Pieces.{numbers, rule_items, entry_item, program_items}
use Rattle.lparse_reader.specs.Text.{number_line, entry_line, rule_line, ended_lines, marked_atoms}
use Rattle.lparse_reader.specs.Text.{text}
use Rattle.lparse_reader.specs.Reading.{program_at}
use Rattle.lparse_reader.proofs.lemmas.Pieces.NumberPieces.{ok_is}
use Rattle.lparse_reader.proofs.lemmas.Pieces.WholePieces.{program_again}
use Rattle.lparse_reader.proofs.lemmas.Writing.TextRows.{Spells, spells_then, number_spells}
use Rattle.lparse_reader.proofs.lemmas.Writing.TextRows.{entry_spells}
use Rattle.lparse_reader.proofs.lemmas.Writing.TextRows.{mark_spells, line_spells, ended_spells}

-- ---- facts on each item of a list

all_split : {X : Type 0} (P : X → Type 0) (xs ys : List X) → AllByRecursion P (xs ++ ys)
    → AllByRecursion P xs × AllByRecursion P ys
all_split P [] ys all = (tt, all)
all_split P (x ∷ xs) ys all = let rest = all_split P xs ys all.1 in ((all.0, rest.0), rest.1)

all_join : {X : Type 0} (P : X → Type 0) (xs ys : List X) → AllByRecursion P xs
    → AllByRecursion P ys → AllByRecursion P (xs ++ ys)
all_join P [] ys first second = second
all_join P (x ∷ xs) ys first second = (first.0, all_join P xs ys first.1 second)

all_parts : {X Y : Type 0} (P : Y → Type 0) (f : X → List Y) (xs : List X)
    → AllByRecursion P (flat_map f xs) → AllByRecursion (λ x. AllByRecursion P (f x)) xs
all_parts P f [] all = tt
all_parts P f (x ∷ xs) all = let parts = all_split P (f x) (flat_map f xs) all in
    (parts.0, all_parts P f xs parts.1)

all_mapped : {X Y : Type 0} (P : Y → Type 0) (f : X → Y) (xs : List X) → AllByRecursion P (map f xs)
    → AllByRecursion (λ x. P (f x)) xs
all_mapped P f [] all = tt
all_mapped P f (x ∷ xs) all = (all.0, all_mapped P f xs all.1)

all_map : {X Y : Type 0} (P : Y → Type 0) (f : X → Y) (xs : List X)
    → AllByRecursion (λ x. P (f x)) xs → AllByRecursion P (map f xs)
all_map P f [] all = tt
all_map P f (x ∷ xs) all = (all.0, all_map P f xs all.1)

all_weaker : {X : Type 0} (P Q : X → Type 0) → ((x : X) → P x → Q x) → (xs : List X)
    → AllByRecursion P xs → AllByRecursion Q xs
all_weaker P Q weaker [] all = tt
all_weaker P Q weaker (x ∷ xs) all = (weaker x all.0, all_weaker P Q weaker xs all.1)

all_both : {X : Type 0} (P Q R : X → Type 0) → ((x : X) → P x → Q x → R x) → (xs : List X)
    → AllByRecursion P xs → AllByRecursion Q xs → AllByRecursion R xs
all_both P Q R both [] first second = tt
all_both P Q R both (x ∷ xs) first second =
    (both x first.0 second.0, all_both P Q R both xs first.1 second.1)

-- ---- the numbers of a rule

kind_small : (kind : Kind) → IsNumber (kind_number kind)
kind_small Basic = omega arith
kind_small Constraint = omega arith
kind_small Choice = omega arith
kind_small Weight = omega arith
kind_small Disjunctive = omega arith

module _ (rule : Rule) (valid : IsRule rule) (heads : AllByRecursion IsNumber rule.heads)
    (atoms : AllByRecursion IsNumber (body_atoms rule.body)) where
  negatives_small : IsNumber (negatives rule.body)
  negatives_small =
      omega (
        arith,
        count_by-le-length (λ (part : Weighted). part.lit.negated) rule.body,
        valid.few_literals,
      )

  body_small : AllByRecursion IsNumber
      (length rule.body ∷ negatives rule.body ∷ body_atoms rule.body)
  body_small = (valid.few_literals, (negatives_small, atoms))

  many_small : AllByRecursion IsNumber
      (length rule.heads ∷ rule.heads
      ++ (length rule.body ∷ negatives rule.body ∷ body_atoms rule.body))
  many_small = (
    valid.few_heads,
    all_join IsNumber rule.heads
        (length rule.body ∷ negatives rule.body ∷ body_atoms rule.body) heads body_small,
  )

  fields_small : (kind : Kind) → AllByRecursion (λ part. WeightFits kind part.weight) rule.body
      → AllByRecursion IsNumber (numbers_of_kind kind rule.heads rule.bound rule.body)
  fields_small Basic weigh =
      all_join IsNumber rule.heads (length rule.body ∷ negatives rule.body ∷ body_atoms rule.body)
      heads body_small
  fields_small Constraint weigh =
      all_join IsNumber rule.heads
      (length rule.body ∷ negatives rule.body ∷ rule.bound ∷ body_atoms rule.body) heads
      (valid.few_literals, (negatives_small, (valid.bound_number, atoms)))
  fields_small Choice weigh = many_small
  fields_small Weight weigh =
      all_join IsNumber rule.heads
      (rule.bound ∷ length rule.body ∷ negatives rule.body
      ∷ (body_atoms rule.body ++ body_weights rule.body)) heads (
        valid.bound_number,
        (
          valid.few_literals,
          (
            negatives_small,
            all_join IsNumber (body_atoms rule.body) (body_weights rule.body) atoms
                (all_map IsNumber (λ (part : Weighted). part.weight) rule.body weigh),
          ),
        ),
      )
  fields_small Disjunctive weigh = many_small

rule_spells : (rule : Rule) → IsRule rule → AllByRecursion IsNumber (atoms_of_rule rule)
    → Spells (rule_line rule) (rule_items rule)
rule_spells rule valid small =
    let parts = all_split IsNumber rule.heads (body_atoms rule.body) small in
    let weigh =
    recursion_from_All (λ (part : Weighted). WeightFits rule.kind part.weight) rule.body
    valid.weights in
    line_spells (kind_number rule.kind) (numbers_of_kind rule.kind rule.heads rule.bound rule.body)
    (kind_small rule.kind)
    (fields_small rule valid parts.0 parts.1 rule.kind weigh)

-- ---- the whole text

marked_spells : (sign : ℕ) (atoms : List ℕ) → AllByRecursion IsNumber atoms
    → Spells (marked_atoms (66 ∷ sign ∷ 10 ∷ []) atoms)
    (mark sign ∷ (numbers atoms ++ number 0 ∷ []))
marked_spells sign atoms small =
    let lines =
    ended_spells number_line (λ atom. number atom ∷ []) atoms
    (all_weaker IsNumber (λ atom. Spells (number_line atom) (number atom ∷ []))
    number_spells atoms small) in
    subst
    (λ items. Spells (marked_atoms (66 ∷ sign ∷ 10 ∷ []) atoms)
    (mark sign ∷ (items ++ number 0 ∷ []))) (flat_map_single number atoms)
    (spells_then (66 ∷ sign ∷ 10 ∷ []) (ended_lines number_line atoms) (mark sign ∷ [])
    (flat_map (λ atom. number atom ∷ []) atoms ++ number 0 ∷ []) (mark_spells sign) lines)

-- the atoms of a program are numbers
record AreNumbers (program : Program) : Type 0 where
  rules : AllByRecursion (λ rule. AllByRecursion IsNumber (atoms_of_rule rule)) program.rules
  names : AllByRecursion (λ named. IsNumber named.atom) program.names
  must : AllByRecursion IsNumber program.must
  must_not : AllByRecursion IsNumber program.must_not

are_numbers : (program : Program) → IsProgram program → AreNumbers program
are_numbers program valid =
    let of_rules = flat_map atoms_of_rule program.rules in
    let of_names = map (λ (named : Named). named.atom) program.names in
    let each =
    recursion_from_All (λ atom. (1 ≤ atom) × IsNumber atom) (atoms_of program)
    valid.each_atom in
    let all =
    all_weaker (λ atom. (1 ≤ atom) × IsNumber atom) IsNumber (λ atom both. both.1)
    (atoms_of program) each in
    let last = all_split IsNumber (of_rules ++ of_names ++ program.must) program.must_not all in
    let third = all_split IsNumber (of_rules ++ of_names) program.must last.0 in
    let second = all_split IsNumber of_rules of_names third.0 in
    record {
      rules = all_parts IsNumber atoms_of_rule program.rules second.0;
      names = all_mapped IsNumber (λ (named : Named). named.atom) program.names second.1;
      must = third.1;
      must_not = last.1;
    }

rules_spell : (program : Program) → IsProgram program
    → Spells (ended_lines rule_line program.rules)
    (flat_map rule_items program.rules ++ number 0 ∷ [])
rules_spell program valid =
    let each = recursion_from_All IsRule program.rules valid.rules in
    ended_spells rule_line rule_items program.rules
    (all_both IsRule (λ rule. AllByRecursion IsNumber (atoms_of_rule rule))
    (λ rule. Spells (rule_line rule) (rule_items rule)) rule_spells program.rules each
    (are_numbers program valid).rules)

names_spell : (program : Program) → IsProgram program
    → Spells (ended_lines entry_line program.names) (map entry_item program.names ++ number 0 ∷ [])
names_spell program valid =
    let lines = ended_spells entry_line (λ named. entry_item named ∷ []) program.names
    (all_weaker (λ named. IsNumber named.atom)
    (λ named. Spells (entry_line named) (entry_item named ∷ [])) entry_spells program.names
    (are_numbers program valid).names) in
    subst (λ items. Spells (ended_lines entry_line program.names) (items ++ number 0 ∷ []))
    (flat_map_single entry_item program.names) lines

-- the items of a program, part by part
read_parts : Program → List Item
read_parts program =
    (flat_map rule_items program.rules ++ number 0 ∷ [])
    ++ (map entry_item program.names ++ number 0 ∷ [])
    ++ (mark 43 ∷ (numbers program.must ++ number 0 ∷ []))
    ++ (mark 45 ∷ (numbers program.must_not ++ number 0 ∷ []))
    ++ number program.models ∷ []

parts_are : (program : Program) → read_parts program ≡ program_items program
unfolding read_parts
parts_are program = simp append_assoc

text_spells : (program : Program) → IsProgram program → Spells (text program) (read_parts program)
unfolding read_parts
text_spells program valid =
    let small = are_numbers program valid in
    spells_then _ _ _ _
    (spells_then _ _ _ _
    (spells_then _ _ _ _
    (spells_then _ _ _ _ (rules_spell program valid) (names_spell program valid))
    (marked_spells 43 program.must small.must))
    (marked_spells 45 program.must_not small.must_not))
    (number_spells program.models valid.models)

-- the text of a program reads as that program
pub text_reads : (program : Program) → IsProgram program → Reads (text program) program
text_reads program valid =
    let row = text_spells program valid [] [] [] (10 ∷ []) tt refl in
    let whole =
    subst (λ items. PieceRow items (text program ++ []) (10 ∷ []))
    (append-nil (read_parts program) ∙ parts_are program) row in
    record {
      valid = valid;
      rest = 10 ∷ [];
      row =
          subst (λ bytes. PieceRow (program_items program) bytes (10 ∷ []))
          (append-nil (text program)) whole;
      blank = (refl, tt);
    }

-- reading it gives the program again
pub reading_gives : (program : Program) → IsProgram program → program_at (text program) ≡ Ok program
reading_gives program valid = program_again (text program) program (text_reads program valid)

-- no other program has this text
pub text_tells : (one other : Program) → IsProgram one → IsProgram other → text one ≡ text other
    → one ≡ other
text_tells one other one_valid other_valid same =
    ok_is one other
    (sym (reading_gives one one_valid) ∙ ap program_at same ∙ reading_gives other other_valid)
