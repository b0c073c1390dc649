use Rattle.std.proofs.Common.{arith}
use Rattle.clause_store.proofs.LayoutLemmas.{bounds_more, few_clauses}
use Rattle.clause_store.proofs.clause_arrays.ClauseArrays.len.Goals as goal

pub returns-clause-len : goal.returns-clause-len
returns-clause-len c =
    rw (← c.self.view_is)
    (omega (
      arith,
      c.self.inside.bounds.ok.0,
      bounds_more c.self.inside.lits.items c.self.inside.bounds.items c.self.invariant,
    ))

pub returns-clause-few : goal.returns-clause-few
returns-clause-few c =
    omega (
      arith,
      c.self.inside.bounds.ok.0,
      bounds_more c.self.inside.lits.items c.self.inside.bounds.items c.self.invariant,
      few_clauses c.self.inside.lits.items c.self.inside.bounds.items c.self.invariant,
    )
