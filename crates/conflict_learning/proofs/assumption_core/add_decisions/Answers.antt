use Rattle.std.proofs.Common.{subst}
use Rattle.conflict_learning.specs.Cells.{AddsBlanks}
use Rattle.conflict_learning.proofs.CoreLemmas as lemma
use Rattle.conflict_learning.proofs.assumption_core.add_decisions.Goals as goal

pub explain_all-requires-clause-cells : goal.explain_all-requires-clause-cells
explain_all-requires-clause-cells c =
    lemma.cells_start c.args.trail.now c.args.last c.args.failed c.add_blanks.new.core
    c.mark.new.core c.requires.over c.requires.at
    (subst (λ start. AddsBlanks c.args.trail.now c.args.last start c.add_blanks.new.core)
    c.requires.alone c.in_ok-add_blanks.ensures) c.mark.ensures

pub returns : goal.returns
returns c =
    lemma.adds_decisions c.args.store.now c.args.trail.now c.args.last c.args.failed c.args.core.now
    c.add_blanks.new.core c.mark.new.core c.explain_all.new.core c.drop_blanks.new.core
    c.requires.of_store c.requires.over c.requires.is_false c.requires.at c.requires.alone
    c.in_ok-add_blanks.ensures c.mark.ensures c.explain_all.ensures c.drop_blanks.ensures
