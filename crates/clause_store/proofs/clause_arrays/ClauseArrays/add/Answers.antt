use Rattle.std.proofs.Common.{◌≡◌, ◌++◌, ◌∷◌, [], ◌<◌, ◌+◌, ◌^◌, ◌∙◌, ap, ap₂, arith}
use Rattle.std.proofs.Common.{length, length-append}
use Rattle.clause_store.specs.Layout.{clauses_of}
use Rattle.clause_store.proofs.LayoutLemmas.{clauses_push, laid_out_push, few_lits}
use Rattle.clause_store.proofs.clause_arrays.ClauseArrays.add.Goals as goal
use Rattle.clause_store.proofs.clause_arrays.ClauseArrays.add.Goals.{After-push_reserved}

-- the literals were put behind, and their end behind the bounds
lits_are : (c : After-push_reserved)
    → c.extend_from_slice.new.self.items ≡ c.self.inside.lits.items ++ c.args.lits.now
lits_are c = c.in_ok-extend_from_slice.ensures.items

bounds_are : (c : After-push_reserved) → c.push_reserved.new.self.items
    ≡ c.self.inside.bounds.items ++ length (c.self.inside.lits.items ++ c.args.lits.now) ∷ []
bounds_are c =
    c.push_reserved.ensures.items
    ∙ ap₂ (λ bounds end. bounds ++ end ∷ []) c.in_ok-reserve.ensures.items
    (c.len-2.ensures ∙ c.extend_from_slice.new.self.ok.0 ∙ ap length (lits_are c))

pub invariant_of-self-2 : goal.invariant_of-self-2
invariant_of-self-2 c =
    let fit : length (c.self.inside.lits.items ++ c.args.lits.now) < 2 ^ 32 =
    omega (
      arith,
      c.if-len-lits.false,
      c.len.ensures,
      c.self.inside.lits.ok.0,
      few_lits c.self.inside.lits.items c.self.inside.bounds.items c.self.invariant,
      length-append c.self.inside.lits.items c.args.lits.now,
    ) in
    let few : length (clauses_of c.self.inside.lits.items c.self.inside.bounds.items) + 1 < 2 ^ 32 =
    omega (
      arith,
      c.if-at-eq-MOST.false,
      c.len-at.ensures.len,
      c.len-at.ensures.few,
      ap length c.self.view_is,
    ) in
    rw (lits_are c, bounds_are c)
    (laid_out_push c.self.inside.lits.items c.args.lits.now c.self.inside.bounds.items
    c.self.invariant c.requires fit few)

pub returns-clause-ok : goal.returns-clause-ok
returns-clause-ok c =
    rw (lits_are c, bounds_are c, ← c.self.view_is)
    (clauses_push c.self.inside.lits.items c.args.lits.now c.self.inside.bounds.items
    c.self.invariant)
