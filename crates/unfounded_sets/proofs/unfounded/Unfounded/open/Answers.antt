use Rattle.std.proofs.Common.{rules, List, sym, subst}
use Rattle.clause_store.specs.declared.step.Step.{Step}
use Rattle.normal_program.proofs.RangeLemmas.{IsNormal-in_range}
use Rattle.unfounded_sets.specs.Followed.{AreKept}
use Rattle.unfounded_sets.specs.Rounds.{AreTables}
use Rattle.unfounded_sets.proofs.unfounded.Unfounded.open.Goals as goal

pub open-requires : goal.open-requires
open-requires c = IsNormal-in_range c.args.normal.now c.requires

pub open-requires-2 : goal.open-requires-2
open-requires-2 c = IsNormal-in_range c.args.normal.now c.requires

pub invariant_of-result : goal.invariant_of-result
invariant_of-result c =
    let tables : AreTables c.args.normal.now c.in_ok-founded.founded c.in_ok-part.part
    c.in_ok-wanted.wanted = search rules in
    rw c.of.ensures
    (subst
    (λ (steps : List Step). AreKept c.args.normal.now c.in_ok-founded.founded c.in_ok-part.part
    c.in_ok-wanted.wanted c.in_ok-places.places c.in_ok-sources.sources c.in_ok-grown.grown steps)
    (sym c.in_ok-followed.ensures.items)
    (record {
      range = IsNormal-in_range c.args.normal.now c.requires;
      tables = tables;
      places_are = c.in_ok-places.ensures;
      sources_are = c.in_ok-sources.ensures;
      grown_is = c.in_ok-grown.ensures;
    }))
