use Rattle.std.proofs.Common.{ap, length, refl}
use Rattle.conflict_learning.proofs.WalkLemmas as lemma
use Rattle.conflict_learning.proofs.walk.Walk.begin.Goals as goal

pub returns : goal.returns
returns c =
    lemma.begins c.args.trail.now _ c.steps.ensures.trail c.requires.few c.requires.sized
    c.requires.unmarked c.clear.ensures c.level.ensures.level refl
    (ap length c.steps.ensures.steps)
