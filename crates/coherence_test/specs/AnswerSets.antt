-- The theory of answer sets: what it means for a search.
use Rattle.std.specs.Prelude.{◌≡◌, ◌≢◌, ◌↔◌, Bool, if◌then◌else◌, nat_lt, List, length, take, All}
use Rattle.std.specs.Prelude.{IsTrue, None}
use Rattle.ground_program.specs.declared.program.Kind.TheVariants.{Disjunctive}
use Rattle.ground_program.specs.Meaning.{IsSetOver}
use Rattle.clause_store.specs.declared.literal.Lit.{Lit}
use Rattle.clause_store.specs.Clause.{IsOver}
use Rattle.clause_store.specs.Entailment.{AreUnits}
use Rattle.clause_store.specs.History.{AreRefutedWith}
use Rattle.clause_store.specs.Standing.{Followed}
use Rattle.normal_program.specs.declared.normal.Normal.{Normal}
use Rattle.normal_program.specs.Normal.{IsAnswerSetN, extension, greatest_body_var}
use Rattle.normal_program.specs.Normal.{KeepsAllN, MeetsComputeN}
use Rattle.normal_program.specs.Clauses.{base_clauses}
use Rattle.normal_program.specs.Loop.{IsLocal, IsLocalWithin}
use Rattle.normal_program.specs.Limit.{IsNormal}
use Rattle.normal_program.specs.Models.{set_of, front_of}
use Rattle.normal_program.specs.Spent.{inner_clauses, IsDisjunctive}
use Rattle.weight_propagator.specs.Weighed.{Weighed}
use Rattle.unfounded_sets.specs.Followed.{Founding}
use Rattle.assumption_engine.specs.Theory.{Meaning}

-- the atoms of an assignment are an answer set, and the assignment begins with its extension;
-- variables behind the bodies are free
pub record ExtendsAnswerSet (normal : Normal) (values : List Bool) : Type 0 where
  pub answers : IsAnswerSetN normal (set_of normal values)
  pub extends :
      front_of normal values ≡ extension normal (set_of normal values) (set_of normal values)

-- a local clause over atoms and bodies
pub record IsLocalOver (normal : Normal) (clause : List Lit) : Type 0 where
  pub local : IsLocal normal clause
  pub over : All (IsOver (greatest_body_var normal)) clause

-- the units of a spent test whether a set is minimal: in a program with a disjunctive rule the set
-- keeps the rules of its reduct and meets the compute statement, and the units are worth counting
-- inside it
pub record IsSpentWithin (normal : Normal) (set : List Bool) (units : List (List Lit)) : Type 0
  where
    pub disjunctive : IsDisjunctive normal
    pub over : IsSetOver normal.atoms set
    pub keeps : KeepsAllN normal set set
    pub compute : MeetsComputeN normal set
    pub units_over : All (All (IsOver (greatest_body_var normal))) units
    pub are_units : AreUnits (inner_clauses normal set) units
    pub refuted : AreRefutedWith (IsLocalWithin normal set) (inner_clauses normal set) units

-- a spent check of an assignment: the set has its atoms, and it begins with their extension
pub record IsSpentOn (normal : Normal) (values set : List Bool) (units : List (List Lit)) : Type 0
  where
    pub atoms : set ≡ set_of normal values
    pub extends : front_of normal values ≡ extension normal set set
    pub within : IsSpentWithin normal set units

-- what the theory of a normal form says: it needs the base clauses, gives local ones over atoms and
-- bodies, and its checks are spent inside the atoms of the assignment
abbrev pub answer_sets : Normal → Meaning
answer_sets normal = record {
  models = ExtendsAnswerSet normal;
  greatest = greatest_body_var normal;
  needs = base_clauses normal;
  may_give = IsLocalOver normal;
  is_spent = IsSpentOn normal;
}

-- no rule is disjunctive
abbrev pub HasNoDisjunction : Normal → Type 0
HasNoDisjunction normal = All (λ rule. rule.kind ≢ Disjunctive) normal.rules

-- what contracts see of the theory: its normal form, and the assignments that are followed
pub record Theorised : Type 0 where
  pub normal : Normal
  pub followed : List Followed

-- the longer of two lists of assignments
abbrev pub longer : List Followed → List Followed → List Followed
longer one two = if nat_lt (length one) (length two) then two else one

-- assignments are the first of others
abbrev pub IsFrontOf : List Followed → List Followed → Type 0
IsFrontOf one two = one ≡ take (length one) two

-- the parts of the theory are of one normal form, each follows a front of the assignments that are
-- followed, and it is known whether a rule is disjunctive
pub record AreOfOne (normal : Normal) (weights : Weighed) (unfounded : Founding)
    (disjunctive : Bool) : Type 0 where
  pub is_normal : IsNormal normal
  pub weighed : weights.normal ≡ normal
  pub everywhere : weights.inside ≡ None
  pub founded : unfounded.normal ≡ normal
  pub weights_front : IsFrontOf weights.followed (longer weights.followed unfounded.followed)
  pub founded_front : IsFrontOf unfounded.followed (longer weights.followed unfounded.followed)
  pub judged : IsTrue disjunctive ↔ IsDisjunctive normal
