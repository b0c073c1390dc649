use Rattle.std.proofs.Common.{arith}
use Rattle.clause_store.proofs.LayoutLemmas.{bound_behind, clause_between}
use Rattle.clause_store.proofs.clause_arrays.ClauseArrays.lits.Goals as goal

pub index-start-requires : goal.index-start-requires
index-start-requires c =
    omega (
      arith,
      c.self.inside.bounds.ok.0,
      bound_behind c.self.inside.lits.items c.self.inside.bounds.items c.args.self.now
          c.args.at.0 c.self.invariant c.self.view_is c.requires,
    )

pub overflow_add-at : goal.overflow_add-at
overflow_add-at c =
    omega (
      arith,
      c.self.inside.bounds.ok.0,
      bound_behind c.self.inside.lits.items c.self.inside.bounds.items c.args.self.now
          c.args.at.0 c.self.invariant c.self.view_is c.requires,
    )

pub index-end-requires : goal.index-end-requires
index-end-requires c =
    omega (
      arith,
      c.self.inside.bounds.ok.0,
      bound_behind c.self.inside.lits.items c.self.inside.bounds.items c.args.self.now
          c.args.at.0 c.self.invariant c.self.view_is c.requires,
    )

pub part-requires : goal.part-requires
part-requires c =
    let between =
    clause_between c.self.inside.lits.items c.self.inside.bounds.items c.args.self.now c.args.at.0
    c.index-start.result.now c.index-end.result.now c.self.invariant c.self.view_is c.requires
    c.index-start.ensures c.index-end.ensures in
    record {
      order = between.0.order;
      within = rw c.as_slice.ensures.value between.0.within;
    }

pub returns : goal.returns
returns c =
    let between =
    clause_between c.self.inside.lits.items c.self.inside.bounds.items c.args.self.now c.args.at.0
    c.index-start.result.now c.index-end.result.now c.self.invariant c.self.view_is c.requires
    c.index-start.ensures c.index-end.ensures in
    record {
      lits = rw (c.part.ensures, c.as_slice.ensures.value) between.0.named;
      clause = rw (c.part.ensures, c.as_slice.ensures.value) between.1;
    }
