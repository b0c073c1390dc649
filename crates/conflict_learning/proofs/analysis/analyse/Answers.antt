use Rattle.std.proofs.Common.{◌∙◌, sym, ap, subst}
use Rattle.std.specs.Prelude.{All}
use Rattle.clause_store.specs.Clause.{IsOver}
use Rattle.clause_store.proofs.EntailmentLemmas.{refuted_follows}
use Rattle.conflict_learning.specs.Analysis.{greatest_level}
use Rattle.conflict_learning.proofs.LearnedLemmas as lemma
use Rattle.conflict_learning.proofs.analysis.analyse.Goals as goal

pub greatest_level-learned-requires : goal.greatest_level-learned-requires
greatest_level-learned-requires c =
    subst (All (IsOver c.args.trail.now.vars)) (sym c.as_slice.ensures)
    (lemma.lower_over
    (lemma.derived_enough c.in_ok-asserting.ensures.derived c.in_ok-minimise.ensures.enough))

pub returns-clause-refuted : goal.returns-clause-refuted
returns-clause-refuted c =
    rw c.in_ok-push.ensures.ok
    (lemma.derived_enough c.in_ok-asserting.ensures.derived c.in_ok-minimise.ensures.enough).refuted

pub returns-clause-follows : goal.returns-clause-follows
returns-clause-follows c =
    refuted_follows c.args.store.now c.push.new.self (returns-clause-refuted c)

pub returns-clause-stands : goal.returns-clause-stands
returns-clause-stands c =
    rw c.in_ok-push.ensures.ok
    (lemma.learned_stands
    (lemma.derived_enough c.in_ok-asserting.ensures.derived c.in_ok-minimise.ensures.enough))

pub returns-clause-is_false : goal.returns-clause-is_false
returns-clause-is_false c =
    rw c.in_ok-push.ensures.ok
    (lemma.learned_false
    (lemma.derived_enough c.in_ok-asserting.ensures.derived c.in_ok-minimise.ensures.enough))

pub returns-clause-once : goal.returns-clause-once
returns-clause-once c =
    rw c.in_ok-push.ensures.ok
    (lemma.learned_once
    (lemma.derived_enough c.in_ok-asserting.ensures.derived c.in_ok-minimise.ensures.enough))

pub returns-clause-over : goal.returns-clause-over
returns-clause-over c =
    rw c.in_ok-push.ensures.ok
    (lemma.learned_over
    (lemma.derived_enough c.in_ok-asserting.ensures.derived c.in_ok-minimise.ensures.enough))

pub returns-clause-asserting : goal.returns-clause-asserting
returns-clause-asserting c =
    rw c.in_ok-push.ensures.ok
    (lemma.learned_asserting
    (lemma.derived_enough c.in_ok-asserting.ensures.derived c.in_ok-minimise.ensures.enough))

pub returns-clause-back : goal.returns-clause-back
returns-clause-back c =
    rw c.in_ok-push.ensures.ok
    (c.greatest_level-learned.ensures ∙ ap (greatest_level c.args.trail.now.steps)
    (c.as_slice.ensures
    ∙ sym
    (lemma.learned_others
    (lemma.derived_enough c.in_ok-asserting.ensures.derived c.in_ok-minimise.ensures.enough))))
