-- The canonical text of a program in the numeric format. Each rule, entry and atom has a line of
-- its own.
use Rattle.std.specs.Prelude.{ℕ, List, ◌++◌, flat_map, decimal, codes}
use Rattle.ground_program.specs.declared.program.Rule.{Rule}
use Rattle.ground_program.specs.declared.program.Named.{Named}
use Rattle.ground_program.specs.declared.program.Program.{Program}
use Rattle.lparse_reader.specs.Pieces.{kind_number, numbers_of_kind}

-- a field behind another: one blank and the number
abbrev pub next_field : ℕ → List ℕ
next_field number = codes " " ++ decimal number

-- fields behind another
abbrev pub next_fields : List ℕ → List ℕ
next_fields numbers = flat_map next_field numbers

-- the line of a rule: its kind, and then each field behind a blank
abbrev pub rule_line : Rule → List ℕ
rule_line rule =
    decimal (kind_number rule.kind)
    ++ next_fields (numbers_of_kind rule.kind rule.heads rule.bound rule.body) ++ codes "\n"

-- the line of an entry of the symbol table
abbrev pub entry_line : Named → List ℕ
entry_line named = decimal named.atom ++ codes " " ++ named.name ++ codes "\n"

-- the line of one number
abbrev pub number_line : ℕ → List ℕ
number_line number = decimal number ++ codes "\n"

-- the lines of the items, and the 0 that ends them
abbrev pub ended_lines : {X : Type 0} → (X → List ℕ) → List X → List ℕ
ended_lines line items = flat_map line items ++ number_line 0

-- a mark and the atoms behind it
abbrev pub marked_atoms : List ℕ → List ℕ → List ℕ
marked_atoms mark atoms = mark ++ ended_lines number_line atoms

-- the text of a program
abbrev pub text : Program → List ℕ
text program =
    ended_lines rule_line program.rules
    ++ ended_lines entry_line program.names
    ++ marked_atoms (codes "B+\n") program.must
    ++ marked_atoms (codes "B-\n") program.must_not
    ++ number_line program.models
