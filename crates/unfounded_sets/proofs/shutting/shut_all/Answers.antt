use Rattle.std.proofs.Common.{get_or, rules, subst, sym, take, arith, ◌∙◌}
use Rattle.std.specs.Prelude.{All}
use Rattle.std.proofs.lemmas.List.{take_all, take_more}
use Rattle.unfounded_sets.specs.Grown.{IsShutFor}
use Rattle.unfounded_sets.proofs.GrownLemmas.{adds_then, atoms_then}
use Rattle.unfounded_sets.proofs.shutting.shut_all.Goals as goal

pub loop-atom-preserved : goal.loop-atom-preserved
loop-atom-preserved c =
    let items = c.list-atom-items.result.now in
    let at = c.loop-atom.atom-index in
    let atom = get_or items at 0 in
    let here : IsShutFor c.args.normal.now c.marks.result.now c.shut_rules.new.lits.marks atom =
    search rules in
    record {
      adds =
          adds_then c.args.normal.now c.args.lits.now c.loop-atom.lits c.shut_rules.new.lits
          c.loop-atom.invariant.adds c.shut_rules.ensures.adds;
      shut =
          subst (All (IsShutFor c.args.normal.now c.args.atoms.now.marks
          c.shut_rules.new.lits.marks)) (sym (take_more items at 0 c.loop-atom-test.true))
          (atoms_then c.args.normal.now c.args.atoms.now.marks c.loop-atom.lits
          c.shut_rules.new.lits (take at items) atom c.shut_rules.ensures.adds.more
          c.loop-atom.invariant.shut
          (subst (λ over. IsShutFor c.args.normal.now over c.shut_rules.new.lits.marks atom)
          c.marks.ensures here));
    }

pub returns-clause-shut : goal.returns-clause-shut
returns-clause-shut c =
    let items = c.list-atom-items.result.now in
    subst (All (IsShutFor c.args.normal.now c.args.atoms.now.marks c.loop-atom.lits.marks))
    (take_all c.loop-atom.atom-index items (omega (arith, c.loop-atom-test.false))
    ∙ c.list-atom-items.ensures.is) c.loop-atom.invariant.shut
