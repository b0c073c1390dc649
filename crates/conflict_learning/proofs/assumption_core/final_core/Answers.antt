use Rattle.std.proofs.Common.{◌∙◌, ap, sym}
use Rattle.std.proofs.lemmas.Result.{on_ok_weaker}
use Rattle.clause_store.specs.Trail.{place_of}
use Rattle.conflict_learning.proofs.CoreLemmas as lemma
use Rattle.conflict_learning.proofs.assumption_core.final_core.Goals as goal

pub returns-in-None-clause-unmet : goal.returns-in-None-clause-unmet
returns-in-None-clause-unmet c values meets all =
    lemma.false_placed c.args.trail.now.steps c.args.failed c.requires.is_false
    (ap (place_of c.args.trail.now.steps) (sym c.var.ensures) ∙ sym c.place_of.ensures
    ∙ c.in-None.is)

pub returns-in-Some-clause-unmet : goal.returns-in-Some-clause-unmet
returns-in-Some-clause-unmet c =
    on_ok_weaker c.add_decisions.result
    (lemma.adds_unmet c.args.store.now c.args.trail.now.steps c.args.failed
    c.add_decisions.new.core) c.add_decisions.ensures
