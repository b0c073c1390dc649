-- What the search among the models of a pair program knows: its theory.
use Rattle.std.specs.Prelude.{◌≡◌, List, None}
use Rattle.clause_store.specs.Standing.{Followed}
use Rattle.normal_program.specs.declared.normal.Normal.{Normal}
use Rattle.normal_program.specs.Clauses.{base_clauses}
use Rattle.normal_program.specs.Limit.{IsNormal}
use Rattle.normal_program.specs.Loop.{FollowsFromBody}
use Rattle.normal_program.specs.Models.{IsModelOf}
use Rattle.normal_program.specs.Normal.{greatest_body_var}
use Rattle.weight_propagator.specs.Weighed.{Weighed}
use Rattle.assumption_engine.specs.Theory.{Meaning}

-- the theory: its models begin with the extension of a model of the pair program, it needs the base
-- clauses, gives clauses that follow from one weight body, and has no spent check
abbrev pub meaning_of : Normal → Meaning
meaning_of pair = record {
  models = IsModelOf pair;
  greatest = greatest_body_var pair;
  needs = base_clauses pair;
  may_give = FollowsFromBody pair;
  is_spent = λ values set units. ⊥;
}

-- what contracts see of the theory: the normal form of the pair program, and what is followed
pub record Paired : Type 0 where
  pub pair : Normal
  pub followed : List Followed

-- the weight bodies are those of the normal form, as the assignments judge them
pub record AreOfPair (pair : Normal) (weights : Weighed) : Type 0 where
  pub is_normal : IsNormal pair
  pub same : weights.normal ≡ pair
  pub everywhere : weights.inside ≡ None
