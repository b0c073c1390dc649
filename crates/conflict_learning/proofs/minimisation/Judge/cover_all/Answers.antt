use Rattle.std.proofs.Common.{take}
use Rattle.std.proofs.lemmas.List.{take_more}
use Rattle.conflict_learning.proofs.MinimisationLemmas as lemma
use Rattle.conflict_learning.proofs.minimisation.Judge.cover_all.Goals as goal

pub loop-lit-init : goal.loop-lit-init
loop-lit-init c = lemma.covers_none c.args.trail.now c.args.self.now c.requires.ready

pub loop-lit-preserved : goal.loop-lit-preserved
loop-lit-preserved c =
    rw (take_more c.args.lits.now c.loop-lit.lit-index (record { 0 = 0 }) c.loop-lit-test.true)
    (lemma.covers_more c.args.trail.now c.args.self.now c.loop-lit.self c.mark_covered.new.self
    (take c.loop-lit.lit-index c.args.lits.now) _ c.loop-lit.invariant
    c.in_ok-mark_covered.ensures)
