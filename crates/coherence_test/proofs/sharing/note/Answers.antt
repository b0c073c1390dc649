use Rattle.std.proofs.Common.{◌∙◌, ◌∷◌, [], subst, sym}
use Rattle.coherence_test.specs.Sharing.{AreNoted, IsTellable}
use Rattle.coherence_test.proofs.ShareLemmas.{note_more}
use Rattle.coherence_test.proofs.sharing.note.Goals as goal

pub note_one-requires-clause-unit : goal.note_one-requires-clause-unit
note_one-requires-clause-unit c =
    subst (IsTellable c.args.normal.now) (sym c.unit-item.is ∙ sym c.as_slice.ensures)
    (c.requires.units c.loop-unit.unit-index c.unit-item.result c.loop-unit-test.true)

pub loop-unit-preserved : goal.loop-unit-preserved
loop-unit-preserved c = (
  note_more c.args.normal.now c.args.units.now c.loop-unit.unit-index c.unit-item.result
      c.args.left.now.items c.loop-unit.left.items c.note_one.new.left.items c.loop-unit-test.true
      c.unit-item.is c.loop-unit.invariant.0
      (subst (λ unit. AreNoted c.args.normal.now (unit ∷ []) c.loop-unit.left.items
      c.note_one.new.left.items) c.as_slice.ensures c.in_ok-note_one.ensures.noted),
  c.in_ok-note_one.ensures.left,
)
