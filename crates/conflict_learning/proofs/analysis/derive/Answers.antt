use Rattle.conflict_learning.proofs.LearnedLemmas as lemma
use Rattle.conflict_learning.proofs.analysis.derive.Goals as goal

pub note_all-requires-clause-notable : goal.note_all-requires-clause-notable
note_all-requires-clause-notable c =
    lemma.conflict_notable c.args.trail.now c.begin-walk.result c.lits.result.now
    c.begin-walk.ensures
    (lemma.conflict_false c.args.store.now c.args.trail.now.steps c.args.conflict c.lits.result.now
    c.requires.conflict c.lits.ensures.lits)

pub resolve-requires-clause-some : goal.resolve-requires-clause-some
resolve-requires-clause-some c =
    lemma.some_open c.args.trail.now c.lits.result.now c.begin-walk.result c.note_all.new.self
    c.begin-walk.ensures c.in_ok-note_all.ensures
    (lemma.conflict_false c.args.store.now c.args.trail.now.steps c.args.conflict c.lits.result.now
    c.requires.conflict c.lits.ensures.lits)
    (c.requires.present c.lits.result.now c.lits.ensures.lits) c.requires.above

pub returns-clause-derived : goal.returns-clause-derived
returns-clause-derived c =
    rw c.finish-clause.ensures.clause
    (lemma.derived c.args.store.now c.args.trail.now c.lits.result.now c.begin-walk.result
    c.note_all.new.self c.resolve.new.self c.in_ok-asserting.asserting
    (lemma.is_done c.requires.of_store c.requires.conflict c.lits.ensures.lits
    c.begin-walk.ensures c.in_ok-note_all.ensures c.in_ok-asserting.ensures))
