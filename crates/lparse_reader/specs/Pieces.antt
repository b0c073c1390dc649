-- Texts as rows of pieces, one for each field, apart from any way to read them.
use Rattle.std.specs.Prelude.{◌≡◌, ◌+◌, ◌-◌, ◌*◌, ◌≤◌, ◌⊎◌, ℕ, true, List, [], ◌∷◌, ◌++◌, length}
use Rattle.std.specs.Prelude.{map, count_by}
use Rattle.std.specs.List.{AllByRecursion, flat_map}
use Rattle.std.specs.Char.{is_ascii_digit}
use Rattle.ground_program.specs.declared.program.Kind.{Kind}
use Rattle.ground_program.specs.declared.program.Kind.TheVariants.{Basic, Constraint, Choice}
use Rattle.ground_program.specs.declared.program.Kind.TheVariants.{Weight, Disjunctive}
use Rattle.ground_program.specs.declared.program.Weighted.{Weighted}
use Rattle.ground_program.specs.declared.program.Rule.{Rule}
use Rattle.ground_program.specs.declared.program.Named.{Named}
use Rattle.ground_program.specs.declared.program.Program.{Program}
use Rattle.ground_program.specs.Program.{IsNumber, IsProgram}
use Rattle.lparse_reader.specs.Tokens.{is_separator, is_token_end}

-- what a piece of the text stands for: a number, an entry of the symbol table, or a `B` and a sign
pub data Item : Type 0 where
  number : ℕ → Item
  entry : ℕ → List ℕ → Item
  mark : ℕ → Item

-- separators alone, maybe none
abbrev pub IsGap : List ℕ → Type 0
IsGap bytes = AllByRecursion (λ byte. is_separator byte ≡ true) bytes

-- the value of a number's digits, behind digits of the value so far
abbrev pub value_of : ℕ → List ℕ → ℕ
value_of so_far [] = so_far
value_of so_far (digit ∷ rest) = value_of (10 * so_far + (digit - 48)) rest

-- a token of digits with this value
pub record IsNumeral (value : ℕ) (token : List ℕ) : Type 0 where
  pub some : 1 ≤ length token
  pub digits : AllByRecursion (λ byte. is_ascii_digit byte ≡ true) token
  pub value_is : value_of 0 token ≡ value
  pub small : IsNumber value

-- a number stands at the front: separators and its token
pub record StandsNumber (value : ℕ) (bytes rest : List ℕ) : Type 0 where
  pub gap : List ℕ
  pub token : List ℕ
  pub between : IsGap gap
  pub numeral : IsNumeral value token
  pub parts : bytes ≡ gap ++ (token ++ rest)
  pub ends : is_token_end rest ≡ true

-- a mark stands at the front: separators, a `B` and the sign
pub record StandsMark (sign : ℕ) (bytes rest : List ℕ) : Type 0 where
  pub gap : List ℕ
  pub between : IsGap gap
  pub parts : bytes ≡ gap ++ (66 ∷ sign ∷ rest)
  pub ends : is_token_end rest ≡ true

-- a line's end: the end of the text, or a line feed
abbrev pub IsLineEnd : List ℕ → Type 0
IsLineEnd [] = Unit {0}
IsLineEnd (byte ∷ rest) = byte ≡ 10

-- an entry stands at the front: its atom, one blank or tab, its name, and carriage returns up to
-- the line's end
pub record StandsEntry (atom : ℕ) (name bytes rest : List ℕ) : Type 0 where
  pub after : List ℕ
  pub blank : ℕ
  pub returns : List ℕ
  pub atom_stands : StandsNumber atom bytes after
  pub gap : (blank ≡ 32) ⊎ (blank ≡ 9)
  pub returns_only : AllByRecursion (λ byte. byte ≡ 13) returns
  pub parts : after ≡ blank ∷ (name ++ (returns ++ rest))
  pub ends : IsLineEnd rest

-- the piece of an item stands at the front
abbrev pub Stands : Item → List ℕ → List ℕ → Type 0
Stands (number value) bytes rest = StandsNumber value bytes rest
Stands (entry atom name) bytes rest = StandsEntry atom name bytes rest
Stands (mark sign) bytes rest = StandsMark sign bytes rest

-- the pieces of these items stand one after the other
abbrev pub PieceRow : List Item → List ℕ → List ℕ → Type 0
PieceRow [] bytes rest = bytes ≡ rest
PieceRow (item ∷ items) bytes rest =
    (middle : List ℕ) × Stands item bytes middle × PieceRow items middle rest

-- the atoms of a body, its weights, and how many of its literals are negative
abbrev pub body_atoms : List Weighted → List ℕ
body_atoms body = map (λ part. part.lit.atom) body

abbrev pub body_weights : List Weighted → List ℕ
body_weights body = map (λ part. part.weight) body

abbrev pub negatives : List Weighted → ℕ
negatives body = count_by (λ part. part.lit.negated) body

-- the number of a kind
abbrev pub kind_number : Kind → ℕ
kind_number Basic = 1
kind_number Constraint = 2
kind_number Choice = 3
kind_number Weight = 5
kind_number Disjunctive = 8

-- the numbers behind the kind of a rule, by its heads, bound and body
abbrev pub numbers_of_kind : Kind → List ℕ → ℕ → List Weighted → List ℕ
numbers_of_kind Basic heads bound body =
    heads ++ (length body ∷ negatives body ∷ body_atoms body)
numbers_of_kind Constraint heads bound body =
    heads ++ (length body ∷ negatives body ∷ bound ∷ body_atoms body)
numbers_of_kind Choice heads bound body =
    length heads ∷ (heads ++ (length body ∷ negatives body ∷ body_atoms body))
numbers_of_kind Weight heads bound body =
    heads ++ (bound ∷ length body ∷ negatives body ∷ (body_atoms body ++ body_weights body))
numbers_of_kind Disjunctive heads bound body =
    length heads ∷ (heads ++ (length body ∷ negatives body ∷ body_atoms body))

-- the items of a list of numbers, and of a rule
abbrev pub numbers : List ℕ → List Item
numbers values = map number values

abbrev pub rule_items : Rule → List Item
rule_items rule =
    numbers (kind_number rule.kind ∷ numbers_of_kind rule.kind rule.heads rule.bound rule.body)

-- the item of an entry
abbrev pub entry_item : Named → Item
entry_item named = entry named.atom named.name

-- the items of a program: 43 is the plus sign and 45 the minus sign
abbrev pub program_items : Program → List Item
program_items program =
    flat_map rule_items program.rules ++ (number 0 ∷ (
    map entry_item program.names ++ (number 0 ∷ mark 43 ∷ (
    numbers program.must ++ (number 0 ∷ mark 45 ∷ (
    numbers program.must_not ++ (number 0 ∷ number program.models ∷ [])))))))

-- the text is a row of pieces, one for each field of the program, and then separators alone
pub record Reads (bytes : List ℕ) (program : Program) : Type 0 where
  pub valid : IsProgram program
  pub rest : List ℕ
  pub row : PieceRow (program_items program) bytes rest
  pub blank : IsGap rest
