-- Bodies with each literal once: what merging a rule's body gives, and when such a body holds.
use Rattle.std.specs.Prelude.{◌≡◌, ◌≤◌, ◌<◌, ◌+◌, ℕ, Bool, false, not, ◌&&◌, nat_eq, nat_le}
use Rattle.std.specs.Prelude.{if◌then◌else◌, List, All, Any, AllPairs, sum_by}
use Rattle.std.specs.List.{list_all}
use Rattle.ground_program.specs.declared.program.AtomLit.{AtomLit}
use Rattle.ground_program.specs.declared.program.Weighted.{Weighted}
use Rattle.ground_program.specs.Meaning.{counts}
use Rattle.normal_program.specs.declared.normal.Part.{Part}
use Rattle.normal_program.specs.declared.normal.BodyOf.{BodyOf}

-- the place of a literal in the order of bodies: by atom, and of an atom the negative literal first
abbrev pub rank : AtomLit → ℕ
rank lit = lit.atom + lit.atom + (if lit.negated then 0 else 1)

-- whether two literals are the same
abbrev pub is_same : AtomLit → AtomLit → Bool
is_same one two = nat_eq (rank one) (rank two)

-- the sum of the weights that a literal has in a body, over all its occurrences
abbrev pub total_weight : List Weighted → AtomLit → ℕ
total_weight body lit = sum_by (λ item. if is_same item.lit lit then item.weight else 0) body

-- the parts have just the literals of the body, each once and in order, with the sums of their
-- weights
pub record IsMerged (body : List Weighted) (parts : List Part) : Type 0 where
  pub order : AllPairs (λ earlier later. rank earlier.lit < rank later.lit) parts
  pub weights : All (λ part. part.weight ≡ total_weight body part.lit) parts
  pub occurs : All (λ part. Any (λ item. item.lit ≡ part.lit) body) parts
  pub complete : All (λ item. Any (λ part. part.lit ≡ item.lit) parts) body

-- the sum of all weights of a body
abbrev pub full_weight : BodyOf → ℕ
full_weight body = sum_by (λ part. part.weight) body.parts

-- whether the body asks for all its literals: the bound is the sum of the weights, and no weight is
-- 0
abbrev pub is_conjunctive : BodyOf → Bool
is_conjunctive body =
    nat_eq body.bound (full_weight body) && list_all (λ part. not (nat_eq part.weight 0)) body.parts

-- any other body is a weight body
abbrev pub IsWeightBody : BodyOf → Type 0
IsWeightBody body = is_conjunctive body ≡ false

-- what a part adds to its body in `set` by `by`
abbrev pub part_weight : List Bool → List Bool → Part → ℕ
part_weight by set part = if counts by set part.lit then part.weight else 0

-- the weight of a body in `set` by `by`
abbrev pub weight_of : List Bool → List Bool → BodyOf → ℕ
weight_of by set body = sum_by (part_weight by set) body.parts

-- whether the body holds in `set` by `by`
abbrev pub body_holds : List Bool → List Bool → BodyOf → Bool
body_holds by set body = nat_le body.bound (weight_of by set body)

-- the body holds in `set` by `by`: the weights of the literals that count reach the bound
abbrev pub BodyHoldsN : List Bool → List Bool → BodyOf → Type 0
BodyHoldsN by set body = body.bound ≤ weight_of by set body
