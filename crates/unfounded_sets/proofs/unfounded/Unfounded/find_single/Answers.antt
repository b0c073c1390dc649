use Rattle.std.proofs.Common.{◌∙◌, ap}
use Rattle.unfounded_sets.specs.Followed.{Founding}
use Rattle.unfounded_sets.proofs.SingleLemmas.{all_supported, cleared, single_part}
use Rattle.unfounded_sets.proofs.SingleLemmas.{single_unsupported}
use Rattle.unfounded_sets.proofs.unfounded.Unfounded.find_single.Goals as goal

pub write_loop-requires-clause-part : goal.write_loop-requires-clause-part
write_loop-requires-clause-part c =
    let empty =
    cleared c.self.inside.made_of.value c.args.normal.now c.self.inside.part
    c.clear-in-Some.new.set (ap (λ (it : Founding). it.normal) c.self.view_is ∙ c.requires.same)
    c.self.invariant.tables.part_places
    c.clear-in-Some.ensures in
    rw c.set.ensures
    (single_part c.args.normal.now c.args.trail.now.steps c.clear-in-Some.new.set
    c.mark_supported.new.supported c.in-Some.atom empty c.clear.new.set c.mark_supported.ensures
    c.in-Some.ensures)

pub returns-in-Some-clause-found : goal.returns-in-Some-clause-found
returns-in-Some-clause-found c =
    let empty =
    cleared c.self.inside.made_of.value c.args.normal.now c.self.inside.part
    c.clear-in-Some.new.set (ap (λ (it : Founding). it.normal) c.self.view_is ∙ c.requires.same)
    c.self.invariant.tables.part_places
    c.clear-in-Some.ensures in
    record {
      some = (
        c.in-Some.atom,
        single_unsupported c.args.normal.now c.args.trail.now.steps c.clear-in-Some.new.set
            c.mark_supported.new.supported c.in-Some.atom empty c.clear.new.set
            c.mark_supported.ensures c.in-Some.ensures,
      );
      written = c.in_ok-write_loop.ensures.written;
    }

pub returns-clause-found : goal.returns-clause-found
returns-clause-found c =
    let empty =
    cleared c.self.inside.made_of.value c.args.normal.now c.self.inside.founded c.clear.new.set
    (ap (λ (it : Founding). it.normal) c.self.view_is ∙ c.requires.same)
    c.self.invariant.tables.founded_places c.clear.ensures in
    all_supported c.args.normal.now c.args.trail.now.steps c.clear.new.set
    c.mark_supported.new.supported empty c.mark_supported.ensures c.in_default.ensures
