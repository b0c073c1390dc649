-- A clause over the first variables is judged by the front of an assignment.
use Rattle.std.proofs.Common.{◌≡◌, ℕ, ◌+◌, ◌<◌, Bool, false, not, cond, List, take, get_or, sym, ap}
use Rattle.std.proofs.Common.{◌∙◌, arith}
use Rattle.std.specs.Prelude.{Contains}
use Rattle.std.proofs.lemmas.List.{get_or-take}
use Rattle.std.proofs.lemmas.List.Elements.{All-contains}
use Rattle.clause_store.specs.declared.literal.Lit.{Lit}
use Rattle.clause_store.specs.Clause.{variable, is_negated, makes_true, IsTrueIn}
use Rattle.clause_store.specs.Clause.{IsOver}
use Rattle.clause_store.specs.Laws.{HoldsInFront, MeetsInFront}
use Rattle.clause_store.proofs.LiteralLemmas.{any_from}

-- a literal over the first variables is judged by the front
pub true_in_front : (vars : ℕ) (values : List Bool) (lit : Lit) → IsOver vars lit
    → makes_true (take (vars + 1) values) lit ≡ makes_true values lit
true_in_front vars values lit over =
    let within : variable lit < vars + 1 = omega (arith, over.last) in
    ap (λ t. cond (is_negated lit) (not t) t)
    (get_or-take (vars + 1) values (variable lit) false within)

pub holds_in_front : HoldsInFront
holds_in_front vars values clause over = (
  λ holds. any_from (IsTrueIn (take (vars + 1) values)) clause holds.1
      (holds.0, holds.2, holds.3)
      (same holds.1 (holds.0, holds.2, holds.3) ∙ holds.4),
  λ holds. any_from (IsTrueIn values) clause holds.1 (holds.0, holds.2, holds.3)
      (sym (same holds.1 (holds.0, holds.2, holds.3)) ∙ holds.4),
)
  where
    same : (lit : Lit) → Contains clause lit
        → makes_true (take (vars + 1) values) lit ≡ makes_true values lit
    same lit here =
        true_in_front vars values lit (All-contains (IsOver vars) clause lit over here)

pub meets_in_front : MeetsInFront
meets_in_front vars values clauses over = (
  λ meets k d within. (holds_in_front vars values (get_or clauses k d) (over k d within)).0
      (meets k d within),
  λ meets k d within. (holds_in_front vars values (get_or clauses k d) (over k d within)).1
      (meets k d within),
)
