use Rattle.std.proofs.Common.{Bool, List, subst}
use Rattle.normal_program.proofs.RangeLemmas.{IsNormal-in_range}
use Rattle.normal_program.specs.Spent.{inner_clauses}
use Rattle.completion.specs.Filling.{Adds}
use Rattle.completion.proofs.AddsLemmas.{Adds-ok, Adds-err}
use Rattle.completion.proofs.GainLemmas.{gain_keeps_trails}
use Rattle.completion.proofs.InnerOverLemmas.{inner_clauses-over}
use Rattle.completion.proofs.PartLemmas.{smaller_meets}
use Rattle.completion.proofs.SmallerLemmas.{met_makes_smaller}
use Rattle.completion.proofs.within.complete_within.Goals as goal

pub add_within-requires : goal.add_within-requires
add_within-requires c = IsNormal-in_range c.args.normal.now c.requires.normal

pub returns-clause-over : goal.returns-clause-over
returns-clause-over c =
    inner_clauses-over c.args.normal.now (IsNormal-in_range c.args.normal.now c.requires.normal)
    c.args.set.now

pub returns-clause-hold : goal.returns-clause-hold
returns-clause-hold c part smaller =
    smaller_meets c.args.normal.now (IsNormal-in_range c.args.normal.now c.requires.normal)
    c.args.set.now c.requires.set part smaller

pub returns-clause-make : goal.returns-clause-make
returns-clause-make c values total met =
    met_makes_smaller c.args.normal.now (IsNormal-in_range c.args.normal.now c.requires.normal)
    c.args.set.now c.requires.set values total met

pub returns-clause-trails : goal.returns-clause-trails
returns-clause-trails c =
    let old = c.args.store.now in
    let new = c.add_within.new.store in
    let clauses = inner_clauses c.args.normal.now c.args.set.now in
    let adds : Adds c.add_within.result old new clauses =
    subst
    (λ (set : List Bool). Adds c.add_within.result old new (inner_clauses c.args.normal.now set))
    c.as_slice.ensures c.add_within.ensures in
    gain_keeps_trails c.add_within.result old new clauses
    (Adds-ok c.add_within.result old new clauses adds)
    (Adds-err c.add_within.result old new clauses adds)
