use Rattle.std.proofs.Common.{arith, sym}
use Rattle.std.proofs.lemmas.Option.{get_or_from_slice_get, slice_get_within}
use Rattle.conflict_learning.proofs.MinimisationLemmas as lemma
use Rattle.conflict_learning.proofs.minimisation.Judge.drop_superfluous.Goals as goal
use Rattle.conflict_learning.proofs.minimisation.Judge.drop_superfluous.Goals.{then-not-branch}
use Rattle.conflict_learning.proofs.minimisation.Judge.drop_superfluous.Goals.{else-not-branch}

pub loop-at-init : goal.loop-at-init
loop-at-init c =
    lemma.dropping_begins c.args.store.now c.args.trail.now c.args.self.now c.args.clause.now
    c.requires.covers c.requires.is_false

pub is_explained-requires-clause-is_false : goal.is_explained-requires-clause-is_false
is_explained-requires-clause-is_false c =
    lemma.next_false c.args.store.now c.args.trail.now c.args.clause.now c.loop-at.self
    c.loop-at.clause c.loop-at.kept c.loop-at.at c.get-lit.result.now c.loop-at.invariant
    c.requires.is_false
    (slice_get_within c.loop-at.clause c.loop-at.at c.get-lit.result.now c.get-lit.ensures)
    (sym
    (get_or_from_slice_get c.loop-at.clause c.loop-at.at c.get-lit.result.now
    c.get-lit.result.now c.get-lit.ensures))

pub loop-at-preserved : goal.loop-at-preserved
loop-at-preserved c =
    let here =
    slice_get_within c.loop-at.clause c.loop-at.at c.get-lit.result.now c.get-lit.ensures in
    let read =
    sym
    (get_or_from_slice_get c.loop-at.clause c.loop-at.at c.get-lit.result.now
    c.get-lit.result.now c.get-lit.ensures) in
    elim c.if-not-branch.branch [
      | then-not-branch w ↦
          rw (w.clause-is, w.kept-is)
          (lemma.dropping_keeps c.args.store.now c.args.trail.now c.args.clause.now c.loop-at.self
          c.is_explained.new.self c.loop-at.clause w.set.new.self c.loop-at.kept c.loop-at.at
          c.get-lit.result.now c.loop-at.invariant c.in_ok-is_explained.ensures.judges here read
          w.set.ensures)
      | else-not-branch w ↦
          rw (w.clause-is, w.kept-is)
          (lemma.dropping_drops c.args.store.now c.args.trail.now c.args.clause.now c.loop-at.self
          c.is_explained.new.self c.loop-at.clause c.loop-at.kept c.loop-at.at
          c.get-lit.result.now c.loop-at.invariant c.in_ok-is_explained.ensures.judges here read
          (c.in_ok-is_explained.ensures.explained w.if-not-branch.false))
    ]

pub returns-clause-enough : goal.returns-clause-enough
returns-clause-enough c =
    lemma.dropping_ends c.args.store.now c.args.trail.now c.args.clause.now c.loop-at.self
    c.loop-at.clause c.truncate.new.self c.loop-at.kept c.loop-at.at c.requires.of_store
    c.requires.is_false c.loop-at.invariant
    (omega (arith, c.loop-at-test.false, c.loop-at.auto.at-end, c.len-at-end.ensures))
    c.truncate.ensures
