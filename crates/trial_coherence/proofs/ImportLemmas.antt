-- A clause that a slow check finds entailed may be imported.
use Rattle.std.proofs.Common.{◌≡◌, ℕ, List, [], All, subst}
use Rattle.clause_store.specs.declared.literal.Lit.{Lit}
use Rattle.clause_store.specs.Clause.{HasNoVariableTwice, IsOver}
use Rattle.normal_program.specs.declared.normal.Normal.{Normal}
use Rattle.normal_program.specs.Normal.{greatest_body_var}
use Rattle.normal_program.specs.Clauses.{IsEntailed}
use Rattle.coherence_test.specs.Selectors.{IsImport}

pub import_of : (normal : Normal) (greatest : ℕ) (none : List (List Lit)) (lits clause : List Lit)
    → greatest ≡ greatest_body_var normal → lits ≡ clause → none ≡ []
    → All (IsOver greatest) lits → HasNoVariableTwice lits
    → IsEntailed normal none clause → IsImport normal clause
import_of normal greatest none lits clause is same nothing over once entailed = record {
  over =
      subst (λ (most : ℕ). All (IsOver most) clause) is
      (subst (λ (those : List Lit). All (IsOver greatest) those) same over);
  once = subst HasNoVariableTwice same once;
  entailed =
      subst (λ (lists : List (List Lit)). IsEntailed normal lists clause) nothing entailed;
}
