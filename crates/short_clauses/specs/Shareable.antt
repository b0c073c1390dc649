-- Clauses that actors tell each other.
use Rattle.std.specs.Prelude.{◌≤◌, [], length, All}
use Rattle.clause_store.specs.declared.theory_says.Short.{Short}
use Rattle.clause_store.specs.Clause.{HasNoVariableTwice, IsOver}
use Rattle.normal_program.specs.declared.normal.Normal.{Normal}
use Rattle.normal_program.specs.Normal.{greatest_body_var}
use Rattle.normal_program.specs.Clauses.{IsEntailed}
use Rattle.short_clauses.specs.Short.{AreAscending, literals_of_short}

-- a clause of one to three literals over atoms and bodies that holds in every answer set
pub record IsShareable (normal : Normal) (short : Short) : Type 0 where
  pub some : 1 ≤ length (literals_of_short short)
  pub few : length (literals_of_short short) ≤ 3
  pub order : AreAscending short.lits
  pub over : All (IsOver (greatest_body_var normal)) (literals_of_short short)
  pub once : HasNoVariableTwice (literals_of_short short)
  pub entailed : IsEntailed normal [] (literals_of_short short)
