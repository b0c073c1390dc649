-- A whole text is read as a program exactly where it is a row of the program's pieces.
use Rattle.std.proofs.Common.{◌≡◌, ℕ, ◌≤◌, List, [], ◌∷◌, ◌++◌, length, map, Result, Ok, refl, sym}
use Rattle.std.proofs.Common.{ap, subst, append_assoc, arith}
use Rattle.std.specs.Prelude.{All}
use Rattle.std.specs.List.{AllByRecursion, flat_map}
use Rattle.std.proofs.lemmas.List.{length-append, length-map}
use Rattle.std.proofs.lemmas.List.Elements.{All-from_recursion, recursion_from_All, All-append}
use Rattle.std.proofs.lemmas.List.Elements.{All-nil}
use Rattle.ground_program.specs.declared.program.Weighted.{Weighted}
use Rattle.ground_program.specs.declared.program.Rule.{Rule}
use Rattle.ground_program.specs.declared.program.Named.{Named}
use Rattle.ground_program.specs.declared.program.Program.{Program}
use Rattle.ground_program.specs.Program.{IsNumber, IsRule, IsName, IsProgram, atoms_of_rule}
use Rattle.ground_program.specs.Program.{atoms_of}
use Rattle.lparse_reader.specs.declared.fault.Fault.{Fault}
use Rattle.lparse_reader.specs.Fields.{◌>>=◌, atom_or_end_at, entry_or_end_at, mark_at, models_at}
use Rattle.lparse_reader.specs.Fields.{end_at}
use Rattle.lparse_reader.specs.Reading.{rule_or_end_at, all_at, made, program_at}
use Rattle.lparse_reader.specs.Pieces.{Item, number, mark, IsGap, PieceRow, numbers, rule_items}
use Rattle.lparse_reader.specs.Pieces.{entry_item, Reads}
use Rattle.lparse_reader.proofs.lemmas.Pieces.NumberPieces.{bind_ok, ok_is}
use Rattle.lparse_reader.proofs.lemmas.Pieces.RowPieces.{row_shrinks, row_join, row_split}
use Rattle.lparse_reader.proofs.lemmas.Pieces.RowPieces.{mark_shrinks, UpToEnd}
use Rattle.lparse_reader.proofs.lemmas.Pieces.RowPieces.{until_stands, until_again}
use Rattle.lparse_reader.proofs.lemmas.Pieces.FieldPieces.{IsAtom, atom_items, atoms_read}
use Rattle.lparse_reader.proofs.lemmas.Pieces.FieldPieces.{atoms_again}
use Rattle.lparse_reader.proofs.lemmas.Pieces.FieldPieces.{mark_stands, mark_again, models_stands}
use Rattle.lparse_reader.proofs.lemmas.Pieces.FieldPieces.{models_again}
use Rattle.lparse_reader.proofs.lemmas.Pieces.FieldPieces.{end_stands, end_again}
use Rattle.lparse_reader.proofs.lemmas.Pieces.EntryPieces.{IsEntry, entry_items, entries_read}
use Rattle.lparse_reader.proofs.lemmas.Pieces.EntryPieces.{entries_again}
use Rattle.lparse_reader.proofs.lemmas.Pieces.BodyPieces.{AreAtoms}
use Rattle.lparse_reader.proofs.lemmas.Pieces.RulePieces.{IsReadRule}
use Rattle.lparse_reader.proofs.lemmas.Pieces.RuleAgain.{rules_read, rules_again}

-- ---- rows of one list behind another

single : {A : Type 0} (item : A → Item) (xs : List A) → flat_map (λ x. item x ∷ []) xs ≡ map item xs
single item [] = refl
single item (x ∷ xs) = ap (λ (items : List Item). item x ∷ items) (single item xs)

-- items up to a 0, and more behind them
end_join : (front more : List Item) (bytes middle rest : List ℕ)
    → PieceRow (front ++ number 0 ∷ []) bytes middle → PieceRow more middle rest
    → PieceRow (front ++ (number 0 ∷ more)) bytes rest
end_join front more bytes middle rest first second =
    subst (λ (is : List Item). PieceRow is bytes rest) (append_assoc front (number 0 ∷ []) more)
    (row_join (front ++ number 0 ∷ []) more bytes middle rest first second)

end_split : (front more : List Item) (bytes rest : List ℕ)
    → PieceRow (front ++ (number 0 ∷ more)) bytes rest
    → (middle : List ℕ) × PieceRow (front ++ number 0 ∷ []) bytes middle
    × PieceRow more middle rest
end_split front more bytes rest row =
    row_split (front ++ number 0 ∷ []) more bytes rest
    (subst (λ (is : List Item). PieceRow is bytes rest)
    (sym (append_assoc front (number 0 ∷ []) more)) row)

-- ---- what holds of each atom, rule and name

abbrev IsOne : ℕ → Type 0
IsOne atom = (1 ≤ atom) × IsNumber atom

each_one : (atoms : List ℕ) → AllByRecursion IsAtom atoms → AllByRecursion IsOne atoms
each_one [] each = tt
each_one (atom ∷ atoms) each = ((each.0.some, each.0.small), each_one atoms each.1)

ones_of_body : (body : List Weighted) → AreAtoms body
    → AllByRecursion IsOne (map (λ part. part.lit.atom) body)
ones_of_body [] each = tt
ones_of_body (part ∷ body) each = ((each.0.some, each.0.small), ones_of_body body each.1)

ones_of_names : (names : List Named) → AllByRecursion IsEntry names
    → AllByRecursion IsOne (map (λ named. named.atom) names)
ones_of_names [] each = tt
ones_of_names (named ∷ names) each =
    ((each.0.atom.some, each.0.atom.small), ones_of_names names each.1)

ones_of_rules : (rules : List Rule) → AllByRecursion IsReadRule rules
    → All IsOne (flat_map atoms_of_rule rules)
ones_of_rules [] each = All-nil IsOne
ones_of_rules (rule ∷ rules) each =
    let heads = All-from_recursion IsOne rule.heads (each_one rule.heads each.0.heads) in
    let body =
    All-from_recursion IsOne (map (λ part. part.lit.atom) rule.body)
    (ones_of_body rule.body each.0.atoms) in
    All-append IsOne (atoms_of_rule rule) (flat_map atoms_of_rule rules)
    (All-append IsOne rule.heads (map (λ part. part.lit.atom) rule.body) heads body)
    (ones_of_rules rules each.1)

rules_of_format : (rules : List Rule) → AllByRecursion IsReadRule rules
    → AllByRecursion IsRule rules
rules_of_format [] each = tt
rules_of_format (rule ∷ rules) each = (each.0.is_rule, rules_of_format rules each.1)

names_of_format : (names : List Named) → AllByRecursion IsEntry names
    → AllByRecursion (λ named. IsName named.name) names
names_of_format [] each = tt
names_of_format (named ∷ names) each = (each.0.name, names_of_format names each.1)

rules_are_few : (rules : List Rule) → length rules ≤ length (flat_map rule_items rules)
rules_are_few [] = omega arith
rules_are_few (rule ∷ rules) =
    omega (arith, length-append (rule_items rule) (flat_map rule_items rules), rules_are_few rules)

-- ---- the sections of a program, from the last to the first

abbrev models_items : ℕ → List Item
models_items models = number models ∷ []

abbrev must_not_items : List ℕ → ℕ → List Item
must_not_items must_not models = numbers must_not ++ (number 0 ∷ models_items models)

abbrev must_items : List ℕ → List ℕ → ℕ → List Item
must_items must must_not models =
    numbers must ++ (number 0 ∷ (mark 45 ∷ must_not_items must_not models))

abbrev names_items : List Named → List ℕ → List ℕ → ℕ → List Item
names_items names must must_not models =
    map entry_item names ++ (number 0 ∷ (mark 43 ∷ must_items must must_not models))

abbrev all_items : List Rule → List Named → List ℕ → List ℕ → ℕ → List Item
all_items rules names must must_not models =
    flat_map rule_items rules ++ (number 0 ∷ names_items names must must_not models)

-- each section has no more items than the text has bytes
record Few (rules : List Rule) (names : List Named) (must must_not : List ℕ) (models bytes : ℕ) :
    Type 0 where
  pub few_rules : length rules ≤ bytes
  pub few_names : length names ≤ bytes
  pub few_must : length must ≤ bytes
  pub few_must_not : length must_not ≤ bytes

all_few : (rules : List Rule) (names : List Named) (must must_not : List ℕ) (models bytes : ℕ)
    → length (all_items rules names must must_not models) ≤ bytes
    → Few rules names must must_not models bytes
all_few rules names must must_not models bytes within =
    let last = length-append (numbers must_not) (number 0 ∷ models_items models) in
    let third =
    length-append (numbers must) (number 0 ∷ (mark 45 ∷ must_not_items must_not models)) in
    let second =
    length-append (map entry_item names)
    (number 0 ∷ (mark 43 ∷ must_items must must_not models)) in
    let first =
    length-append (flat_map rule_items rules)
    (number 0 ∷ names_items names must must_not models) in
    record {
      few_rules = omega (arith, first, rules_are_few rules, within);
      few_names = omega (arith, first, second, length-map names entry_item, within);
      few_must = omega (arith, first, second, third, length-map must number, within);
      few_must_not = omega (arith, first, second, third, last, length-map must_not number, within);
    }

-- ---- the steps of reading, from the last to the first

abbrev pub after_end : List Rule → List Named → List ℕ → List ℕ → ℕ → List ℕ → Result Program Fault
after_end rules names must must_not models nothing = Ok (made rules names must must_not models)

abbrev pub after_models : List Rule → List Named → List ℕ → List ℕ → ℕ × List ℕ
    → Result Program Fault
after_models rules names must must_not models =
    end_at models.1 >>= after_end rules names must must_not models.0

abbrev pub after_must_not : List Rule → List Named → List ℕ → List ℕ × List ℕ → Result Program Fault
after_must_not rules names must must_not =
    models_at must_not.1 >>= after_models rules names must must_not.0

abbrev pub after_minus : List Rule → List Named → List ℕ → List ℕ → Result Program Fault
after_minus rules names must minus = all_at atom_or_end_at minus >>= after_must_not rules names must

abbrev pub after_must : List Rule → List Named → List ℕ × List ℕ → Result Program Fault
after_must rules names must = mark_at 45 2 must.1 >>= after_minus rules names must.0

abbrev pub after_plus : List Rule → List Named → List ℕ → Result Program Fault
after_plus rules names plus = all_at atom_or_end_at plus >>= after_must rules names

abbrev pub after_names : List Rule → List Named × List ℕ → Result Program Fault
after_names rules names = mark_at 43 1 names.1 >>= after_plus rules names.0

abbrev pub after_rules : List Rule × List ℕ → Result Program Fault
after_rules rules = all_at entry_or_end_at rules.1 >>= after_names rules.0

-- ---- a program is read where its pieces stand

atoms_row : (atoms bytes rest : List ℕ) → UpToEnd atom_items IsAtom bytes atoms rest
    → PieceRow (numbers atoms ++ number 0 ∷ []) bytes rest
atoms_row atoms bytes rest read =
    subst (λ (is : List Item). PieceRow (is ++ number 0 ∷ []) bytes rest) (single number atoms)
    read.row

names_row : (names : List Named) (bytes rest : List ℕ)
    → UpToEnd entry_items IsEntry bytes names rest
    → PieceRow (map entry_item names ++ number 0 ∷ []) bytes rest
names_row names bytes rest read =
    subst (λ (is : List Item). PieceRow (is ++ number 0 ∷ []) bytes rest) (single entry_item names)
    read.row

pub reads_program : (bytes : List ℕ) (program : Program) → length bytes ≤ 67108864
    → program_at bytes ≡ Ok program → Reads bytes program
unfolding program_at
reads_program bytes program few e =
    let rules = bind_ok (all_at rule_or_end_at bytes) after_rules program e in
    let names =
    bind_ok (all_at entry_or_end_at rules.0.1) (after_names rules.0.0) program rules.2 in
    let plus = bind_ok (mark_at 43 1 names.0.1) (after_plus rules.0.0 names.0.0) program names.2 in
    let must =
    bind_ok (all_at atom_or_end_at plus.0) (after_must rules.0.0 names.0.0) program plus.2 in
    let minus =
    bind_ok (mark_at 45 2 must.0.1) (after_minus rules.0.0 names.0.0 must.0.0) program must.2 in
    let must_not =
    bind_ok (all_at atom_or_end_at minus.0) (after_must_not rules.0.0 names.0.0 must.0.0)
    program minus.2 in
    let models =
    bind_ok (models_at must_not.0.1) (after_models rules.0.0 names.0.0 must.0.0 must_not.0.0)
    program must_not.2 in
    let ended =
    bind_ok (end_at models.0.1) (after_end rules.0.0 names.0.0 must.0.0 must_not.0.0 models.0.0)
    program models.2 in
    let rules_stand =
    until_stands rule_or_end_at rule_items IsReadRule rules_read (length bytes) bytes rules.0.0
    rules.0.1 (omega (arith, few)) rules.1 in
    let shorter : length rules.0.1 ≤ length bytes =
    omega (
      arith,
      row_shrinks (flat_map rule_items rules.0.0 ++ number 0 ∷ []) bytes rules.0.1
          rules_stand.row,
    ) in
    let names_stand =
    until_stands entry_or_end_at entry_items IsEntry entries_read (length rules.0.1) rules.0.1
    names.0.0 names.0.1 (omega (arith, few, shorter)) names.1 in
    let shorter_still : length names.0.1 ≤ length bytes =
    omega (
      arith,
      shorter,
      row_shrinks (flat_map entry_items names.0.0 ++ number 0 ∷ []) rules.0.1
          names.0.1 names_stand.row,
    ) in
    let plus_stands = mark_stands 43 1 names.0.1 plus.0 plus.1 in
    let after_plus_shorter : length plus.0 ≤ length bytes =
    omega (arith, shorter_still, mark_shrinks 43 names.0.1 plus.0 plus_stands) in
    let must_stand =
    until_stands atom_or_end_at atom_items IsAtom atoms_read (length plus.0) plus.0 must.0.0
    must.0.1 (omega (arith, few, after_plus_shorter)) must.1 in
    let after_must_shorter : length must.0.1 ≤ length bytes =
    omega (
      arith,
      after_plus_shorter,
      row_shrinks (flat_map atom_items must.0.0 ++ number 0 ∷ []) plus.0 must.0.1
          must_stand.row,
    ) in
    let minus_stands = mark_stands 45 2 must.0.1 minus.0 minus.1 in
    let after_minus_shorter : length minus.0 ≤ length bytes =
    omega (arith, after_must_shorter, mark_shrinks 45 must.0.1 minus.0 minus_stands) in
    let must_not_stand =
    until_stands atom_or_end_at atom_items IsAtom atoms_read (length minus.0) minus.0
    must_not.0.0 must_not.0.1 (omega (arith, few, after_minus_shorter)) must_not.1 in
    let models_stand = models_stands must_not.0.1 models.0.0 models.0.1 models.1 in
    let blank = end_stands models.0.1 ended.0 ended.1 in
    let last : PieceRow (must_not_items must_not.0.0 models.0.0) minus.0 models.0.1 =
    end_join (numbers must_not.0.0) (models_items models.0.0) minus.0 must_not.0.1 models.0.1
    (atoms_row must_not.0.0 minus.0 must_not.0.1 must_not_stand)
    (models.0.1, models_stand, refl) in
    let third : PieceRow (must_items must.0.0 must_not.0.0 models.0.0) plus.0 models.0.1 =
    end_join (numbers must.0.0) (mark 45 ∷ must_not_items must_not.0.0 models.0.0) plus.0 must.0.1
    models.0.1 (atoms_row must.0.0 plus.0 must.0.1 must_stand) (minus.0, minus_stands, last) in
    let second : PieceRow (names_items names.0.0 must.0.0 must_not.0.0 models.0.0) rules.0.1
    models.0.1 =
    end_join (map entry_item names.0.0) (mark 43 ∷ must_items must.0.0 must_not.0.0 models.0.0)
    rules.0.1 names.0.1 models.0.1 (names_row names.0.0 rules.0.1 names.0.1 names_stand)
    (plus.0, plus_stands, third) in
    let row : PieceRow (all_items rules.0.0 names.0.0 must.0.0 must_not.0.0 models.0.0) bytes
    models.0.1 =
    end_join (flat_map rule_items rules.0.0)
    (names_items names.0.0 must.0.0 must_not.0.0 models.0.0) bytes rules.0.1 models.0.1
    rules_stand.row second in
    let short = all_few rules.0.0 names.0.0 must.0.0 must_not.0.0 models.0.0 (length bytes)
    (omega (
      arith,
      row_shrinks (all_items rules.0.0 names.0.0 must.0.0 must_not.0.0 models.0.0) bytes
          models.0.1 row,
    )) in
    let rule_atoms = ones_of_rules rules.0.0 rules_stand.each in
    let name_atoms =
    All-from_recursion IsOne (map (λ named. named.atom) names.0.0)
    (ones_of_names names.0.0 names_stand.each) in
    let must_atoms = All-from_recursion IsOne must.0.0 (each_one must.0.0 must_stand.each) in
    let must_not_atoms =
    All-from_recursion IsOne must_not.0.0 (each_one must_not.0.0 must_not_stand.each) in
    let first_two =
    All-append IsOne (flat_map atoms_of_rule rules.0.0) (map (λ named. named.atom) names.0.0)
    rule_atoms name_atoms in
    let first_three =
    All-append IsOne (flat_map atoms_of_rule rules.0.0 ++ map (λ named. named.atom) names.0.0)
    must.0.0 first_two must_atoms in
    let each_atom =
    All-append IsOne
    (flat_map atoms_of_rule rules.0.0 ++ map (λ named. named.atom) names.0.0 ++ must.0.0)
    must_not.0.0 first_three must_not_atoms in
    subst (Reads bytes)
    (ok_is (made rules.0.0 names.0.0 must.0.0 must_not.0.0 models.0.0) program ended.2)
    (record {
      valid = record {
        atoms = refl;
        each_atom = each_atom;
        rules = All-from_recursion IsRule rules.0.0 (rules_of_format rules.0.0 rules_stand.each);
        names =
            All-from_recursion (λ named. IsName named.name) names.0.0
            (names_of_format names.0.0 names_stand.each);
        models = models_stand.numeral.small;
        few_rules = omega (arith, short.few_rules, few);
        few_names = omega (arith, short.few_names, few);
        few_must = omega (arith, short.few_must, few);
        few_must_not = omega (arith, short.few_must_not, few);
      };
      rest = models.0.1;
      row = row;
      blank = blank;
    })

-- ---- and the other way round

each_front : (P : ℕ → Type 0) (front back : List ℕ) → AllByRecursion P (front ++ back)
    → AllByRecursion P front
each_front P [] back each = tt
each_front P (x ∷ front) back each = (each.0, each_front P front back each.1)

each_back : (P : ℕ → Type 0) (front back : List ℕ) → AllByRecursion P (front ++ back)
    → AllByRecursion P back
each_back P [] back each = each
each_back P (x ∷ front) back each = each_back P front back each.1

atoms_again_of : (atoms : List ℕ) → AllByRecursion IsOne atoms → AllByRecursion IsAtom atoms
atoms_again_of [] each = tt
atoms_again_of (atom ∷ atoms) each =
    (record { some = each.0.0; small = each.0.1 }, atoms_again_of atoms each.1)

body_again_of : (body : List Weighted) → AllByRecursion IsOne (map (λ part. part.lit.atom) body)
    → AreAtoms body
body_again_of [] each = tt
body_again_of (part ∷ body) each =
    (record { some = each.0.0; small = each.0.1 }, body_again_of body each.1)

rules_again_of : (rules : List Rule) → AllByRecursion IsRule rules
    → AllByRecursion IsOne (flat_map atoms_of_rule rules) → AllByRecursion IsReadRule rules
rules_again_of [] good each = tt
rules_again_of (rule ∷ rules) good each =
    let here = each_front IsOne (atoms_of_rule rule) (flat_map atoms_of_rule rules) each in
    let others = each_back IsOne (atoms_of_rule rule) (flat_map atoms_of_rule rules) each in (
      record {
        is_rule = good.0;
        heads =
            atoms_again_of rule.heads
            (each_front IsOne rule.heads (map (λ part. part.lit.atom) rule.body) here);
        atoms =
            body_again_of rule.body
            (each_back IsOne rule.heads (map (λ part. part.lit.atom) rule.body) here);
      },
      rules_again_of rules good.1 others,
    )

names_again_of : (names : List Named) → AllByRecursion (λ named. IsName named.name) names
    → AllByRecursion IsOne (map (λ named. named.atom) names) → AllByRecursion IsEntry names
names_again_of [] good each = tt
names_again_of (named ∷ names) good each = (
  record { atom = record { some = each.0.0; small = each.0.1 }; name = good.0 },
  names_again_of names good.1 each.1,
)

-- a valid program is the one that is made of its parts
made_again : (program : Program) → IsProgram program
    → made program.rules program.names program.must program.must_not program.models ≡ program
made_again program valid =
    ap (λ (n : ℕ). with_atoms program n) (sym valid.atoms)
  where
    with_atoms : Program → ℕ → Program
    with_atoms program n =
        record {
          atoms = n;
          rules = program.rules;
          names = program.names;
          must =
              program.must;
          must_not = program.must_not;
          models = program.models;
        }

pub program_again : (bytes : List ℕ) (program : Program) → Reads bytes program
    → program_at bytes ≡ Ok program
unfolding program_at
program_again bytes program reads =
    let valid = reads.valid in
    let atoms = recursion_from_All IsOne (atoms_of program) valid.each_atom in
    let first_three =
    each_front IsOne
    (flat_map atoms_of_rule program.rules ++ map (λ named. named.atom) program.names
    ++ program.must) program.must_not atoms in
    let must_not_atoms =
    each_back IsOne
    (flat_map atoms_of_rule program.rules ++ map (λ named. named.atom) program.names
    ++ program.must) program.must_not atoms in
    let first_two =
    each_front IsOne
    (flat_map atoms_of_rule program.rules ++ map (λ named. named.atom) program.names)
    program.must first_three in
    let must_atoms =
    each_back IsOne
    (flat_map atoms_of_rule program.rules ++ map (λ named. named.atom) program.names)
    program.must first_three in
    let rule_atoms =
    each_front IsOne (flat_map atoms_of_rule program.rules)
    (map (λ named. named.atom) program.names) first_two in
    let name_atoms =
    each_back IsOne (flat_map atoms_of_rule program.rules)
    (map (λ named. named.atom) program.names) first_two in
    let good_rules =
    rules_again_of program.rules (recursion_from_All IsRule program.rules valid.rules)
    rule_atoms in
    let good_names =
    names_again_of program.names
    (recursion_from_All (λ named. IsName named.name) program.names valid.names)
    name_atoms in
    let rules =
    end_split (flat_map rule_items program.rules)
    (names_items program.names program.must program.must_not program.models) bytes
    reads.rest reads.row in
    let names =
    end_split (map entry_item program.names)
    (mark 43 ∷ must_items program.must program.must_not program.models) rules.0 reads.rest
    rules.2 in
    let after_plus_begins = names.2.0 in
    let must =
    end_split (numbers program.must) (mark 45 ∷ must_not_items program.must_not program.models)
    after_plus_begins reads.rest names.2.2 in
    let after_minus_begins = must.2.0 in
    let must_not =
    end_split (numbers program.must_not) (models_items program.models) after_minus_begins
    reads.rest must.2.2 in
    let rules_read_again =
    until_again rule_or_end_at rule_items IsReadRule rules_again program.rules (length bytes)
    bytes rules.0 (omega arith) good_rules rules.1 in
    let names_read_again =
    until_again entry_or_end_at entry_items IsEntry entries_again program.names (length rules.0)
    rules.0 names.0 (omega arith) good_names
    (subst (λ (is : List Item). PieceRow (is ++ number 0 ∷ []) rules.0 names.0)
    (sym (single entry_item program.names)) names.1) in
    let plus_again = mark_again 43 1 names.0 after_plus_begins refl names.2.1 in
    let must_read_again =
    until_again atom_or_end_at atom_items IsAtom atoms_again program.must
    (length after_plus_begins) after_plus_begins must.0 (omega arith)
    (atoms_again_of program.must must_atoms)
    (subst (λ (is : List Item). PieceRow (is ++ number 0 ∷ []) after_plus_begins must.0)
    (sym (single number program.must)) must.1) in
    let minus_again = mark_again 45 2 must.0 after_minus_begins refl must.2.1 in
    let must_not_read_again =
    until_again atom_or_end_at atom_items IsAtom atoms_again program.must_not
    (length after_minus_begins) after_minus_begins must_not.0 (omega arith)
    (atoms_again_of program.must_not must_not_atoms)
    (subst (λ (is : List Item). PieceRow (is ++ number 0 ∷ []) after_minus_begins must_not.0)
    (sym (single number program.must_not)) must_not.1) in
    let models_read_again = models_again must_not.0 program.models must_not.2.0 must_not.2.1 in
    let end_read_again = end_again must_not.2.0 (subst IsGap (sym must_not.2.2) reads.blank) in
    rw (
      rules_read_again,
      names_read_again,
      plus_again,
      must_read_again,
      minus_again,
      must_not_read_again,
      models_read_again,
      end_read_again,
    )
    (ap (λ (p : Program). Ok p) (made_again program valid))
