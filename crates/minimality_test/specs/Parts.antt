-- What the search among the parts of a set knows: its theory.
use Rattle.std.specs.Prelude.{◌≡◌, Bool, List, Some}
use Rattle.ground_program.specs.Meaning.{IsSetOver}
use Rattle.clause_store.specs.Standing.{Followed}
use Rattle.normal_program.specs.declared.normal.Normal.{Normal}
use Rattle.normal_program.specs.Limit.{IsNormal}
use Rattle.normal_program.specs.Loop.{IsLocalWithin}
use Rattle.normal_program.specs.Models.{IsAssignmentOf}
use Rattle.normal_program.specs.Normal.{greatest_body_var}
use Rattle.normal_program.specs.Spent.{inner_clauses}
use Rattle.completion.specs.Within.{IsMetWithin}
use Rattle.weight_propagator.specs.Weighed.{Weighed}
use Rattle.assumption_engine.specs.Theory.{Meaning}

-- an assignment that meets the clauses for the parts of a set and the meaning of the weight bodies
pub record IsPartModel (normal : Normal) (set values : List Bool) : Type 0 where
  pub assigns : IsAssignmentOf normal values
  pub met : IsMetWithin normal set values

-- the theory: it needs the clauses for the parts, gives clauses local within the set, and has no
-- spent check
abbrev pub meaning_of : Normal → List Bool → Meaning
meaning_of normal set = record {
  models = IsPartModel normal set;
  greatest = greatest_body_var normal;
  needs = inner_clauses normal set;
  may_give = IsLocalWithin normal set;
  is_spent = λ values inside units. ⊥;
}

-- what contracts see of the theory: the normal form, the set, and what is followed
pub record PartsOf : Type 0 where
  pub normal : Normal
  pub set : List Bool
  pub followed : List Followed

-- the weight bodies are those of the normal form, as the set judges them
pub record AreParts (normal : Normal) (set : List Bool) (weights : Weighed) : Type 0 where
  pub normal_form : IsNormal normal
  pub over : IsSetOver normal.atoms set
  pub same : weights.normal ≡ normal
  pub inside : weights.inside ≡ Some set
