-- Reading rules and whole texts from left to right, with the first fault that is met.
use Rattle.std.specs.Prelude.{◌==◌, ◌-◌, ℕ, true, false, if◌then◌else◌, List, [], ◌∷◌, length}
use Rattle.std.specs.Prelude.{Option, Some, None, Result, Ok, Err, nat_lt}
use Rattle.ground_program.specs.declared.program.Kind.{Kind}
use Rattle.ground_program.specs.declared.program.Kind.TheVariants.{Basic, Constraint, Choice}
use Rattle.ground_program.specs.declared.program.Kind.TheVariants.{Weight, Disjunctive}
use Rattle.ground_program.specs.declared.program.Weighted.{Weighted}
use Rattle.ground_program.specs.declared.program.Rule.{Rule}
use Rattle.ground_program.specs.declared.program.Named.{Named}
use Rattle.ground_program.specs.declared.program.Program.{Program}
use Rattle.ground_program.specs.Program.{greatest, atoms_of}
use Rattle.lparse_reader.specs.declared.fault.TextFault.TheVariants.{UnknownKind, MinimizeRule}
use Rattle.lparse_reader.specs.declared.fault.TextFault.TheVariants.{NegativeCount}
use Rattle.lparse_reader.specs.declared.fault.Fault.{Fault}
use Rattle.lparse_reader.specs.declared.fault.Fault.TheVariants.{At}
use Rattle.lparse_reader.specs.declared.rule_text.Counts.{Counts}
use Rattle.lparse_reader.specs.Tokens.{skipped}
use Rattle.lparse_reader.specs.Fields.{◌>>=◌, behind, Field, number_at, atom_at, atom_or_end_at}
use Rattle.lparse_reader.specs.Fields.{counted_at, until_end_at, part_at, weighed_at, mark_at}
use Rattle.lparse_reader.specs.Fields.{models_at, end_at, entry_or_end_at}

-- the kind of a number, where `from` bytes are left at it: nothing for 0
abbrev pub kind_of : ℕ → ℕ → Result (Option Kind) Fault
kind_of from number =
    if number == 0 then Ok None
    else if number == 1 then Ok (Some Basic)
    else if number == 2 then Ok (Some Constraint)
    else if number == 3 then Ok (Some Choice)
    else if number == 5 then Ok (Some Weight)
    else if number == 8 then Ok (Some Disjunctive)
    else if number == 6 then Err (At MinimizeRule from 6)
    else Err (At UnknownKind from number)

-- a kind, or nothing at a 0
unfoldable pub kind_or_end_at : Field (Option Kind)
kind_or_end_at bytes = do
  number ← number_at bytes
  kind ← kind_of (length (skipped bytes)) number.0
  Ok (kind, number.1)

-- the number of literals, and how many of them are negative
unfoldable pub counts_at : Field Counts
counts_at bytes = do
  literals ← number_at bytes
  negatives ← number_at literals.1
  if nat_lt literals.0 negatives.0
      then Err (At NegativeCount (length (skipped literals.1)) negatives.0)
      else Ok (
        record {
          literals = literals.0;
          negatives = negatives.0;
          positives =
              literals.0 - negatives.0;
        },
        negatives.1,
      )

-- the negative literals and then the positive ones
unfoldable pub body_at : Counts → Field (List Weighted)
body_at counts bytes = do
  negatives ← counted_at (part_at true) counts.negatives bytes
  behind negatives.0 (counted_at (part_at false) counts.positives negatives.1)

-- the number of heads and then the heads
unfoldable pub heads_at : Field (List ℕ)
heads_at bytes = do
  count ← number_at bytes
  counted_at atom_at count.0 count.1

-- the fields of a basic rule
unfoldable pub basic_at : Field Rule
basic_at bytes = do
  head ← atom_at bytes
  counts ← counts_at head.1
  body ← body_at counts.0 counts.1
  Ok (
    record { kind = Basic; heads = head.0 ∷ []; bound = counts.0.literals; body = body.0 },
    body.1,
  )

-- those of a constraint rule, whose bound comes before its literals
unfoldable pub constraint_at : Field Rule
constraint_at bytes = do
  head ← atom_at bytes
  counts ← counts_at head.1
  bound ← number_at counts.1
  body ← body_at counts.0 bound.1
  Ok (record { kind = Constraint; heads = head.0 ∷ []; bound = bound.0; body = body.0 }, body.1)

-- those of a weight rule, whose bound comes before the counts and whose weights come last
unfoldable pub weight_at : Field Rule
weight_at bytes = do
  head ← atom_at bytes
  bound ← number_at head.1
  counts ← counts_at bound.1
  body ← body_at counts.0 counts.1
  weighed ← weighed_at body.0 body.1
  Ok (record { kind = Weight; heads = head.0 ∷ []; bound = bound.0; body = weighed.0 }, weighed.1)

-- those of a choice or a disjunctive rule, which have any heads
unfoldable pub many_heads_at : Kind → Field Rule
many_heads_at kind bytes = do
  heads ← heads_at bytes
  counts ← counts_at heads.1
  body ← body_at counts.0 counts.1
  Ok (record { kind = kind; heads = heads.0; bound = counts.0.literals; body = body.0 }, body.1)

-- the fields of a rule of a kind
abbrev pub rule_at : Kind → Field Rule
rule_at Basic bytes = basic_at bytes
rule_at Constraint bytes = constraint_at bytes
rule_at Choice bytes = many_heads_at Choice bytes
rule_at Weight bytes = weight_at bytes
rule_at Disjunctive bytes = many_heads_at Disjunctive bytes

-- the rule of a kind, or nothing where there is no kind
abbrev pub rule_of_kind : Option Kind → Field (Option Rule)
rule_of_kind None bytes = Ok (None, bytes)
rule_of_kind (Some kind) bytes = do
  rule ← rule_at kind bytes
  Ok (Some rule.0, rule.1)

-- a rule, or nothing at a 0
unfoldable pub rule_or_end_at : Field (Option Rule)
rule_or_end_at bytes = do
  kind ← kind_or_end_at bytes
  rule_of_kind kind.0 kind.1

-- all items up to their end
abbrev pub all_at : {A : Type 0} → Field (Option A) → Field (List A)
all_at field bytes = until_end_at field (length bytes) bytes

-- a program of the greatest atom that occurs
abbrev pub made : List Rule → List Named → List ℕ → List ℕ → ℕ → Program
made rules names must must_not models =
    let whole : Program =
    record {
      atoms = 0;
      rules = rules;
      names = names;
      must = must;
      must_not = must_not;
      models =
          models;
    } in
    record whole { atoms = greatest (atoms_of whole) }

-- the program of a whole text
unfoldable pub program_at : List ℕ → Result Program Fault
program_at bytes = do
  rules ← all_at rule_or_end_at bytes
  names ← all_at entry_or_end_at rules.1
  plus ← mark_at 43 1 names.1
  must ← all_at atom_or_end_at plus
  minus ← mark_at 45 2 must.1
  must_not ← all_at atom_or_end_at minus
  models ← models_at must_not.1
  nothing ← end_at models.1
  Ok (made rules.0 names.0 must.0 must_not.0 models.0)
