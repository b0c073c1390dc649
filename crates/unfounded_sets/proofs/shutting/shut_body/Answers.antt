use Rattle.std.proofs.Common.{◌<◌, subst, arith}
use Rattle.std.specs.Prelude.{All}
use Rattle.std.proofs.lemmas.Option.{get_or_from_slice_get}
use Rattle.normal_program.specs.declared.normal.BodyOf.{BodyOf}
use Rattle.normal_program.specs.Loop.{IsAtomOf}
use Rattle.unfounded_sets.specs.Wanted.{weight_off}
use Rattle.unfounded_sets.proofs.GrownLemmas.{adds_one, apart_off, body_over, shut_below}
use Rattle.unfounded_sets.proofs.shutting.shut_body.Goals as goal

pub returns-then-stays_below-clause-shut : goal.returns-then-stays_below-clause-shut
returns-then-stays_below-clause-shut c =
    let body = c.get-body.result.now in
    let low : weight_off c.args.set.now body.parts < body.bound =
    c.stays_below.ensures.0 c.if-stays_below.true in
    shut_below c.args.normal.now c.args.set.now c.args.lits.now.marks c.args.number body
    c.get-body.ensures
    (omega (arith, low, apart_off c.args.set.now c.args.lits.now.marks body.parts))

pub returns-then-is_false-clause-adds : goal.returns-then-is_false-clause-adds
returns-then-is_false-clause-adds c =
    adds_one c.args.normal.now c.args.lits.now c.add.new.self c.positive-holds.result
    c.requires.lits
    (body_over c.args.normal.now c.args.number c.positive-holds.result c.requires.within
    (omega (arith, c.positive-holds.ensures, c.body_var.ensures.is)))
    c.add.ensures

pub lacks-left-requires-clause-atoms : goal.lacks-left-requires-clause-atoms
lacks-left-requires-clause-atoms c =
    subst (λ (one : BodyOf). All (λ part. IsAtomOf c.args.normal.now part.lit.atom) one.parts)
    (get_or_from_slice_get c.args.normal.now.bodies c.args.number c.get-body.result.now
    c.get-body.result.now c.get-body.ensures)
    (c.requires.covered.range.parts c.args.number c.get-body.result.now c.requires.within)

pub pick-requires-clause-atoms : goal.pick-requires-clause-atoms
pick-requires-clause-atoms c =
    subst (λ (one : BodyOf). All (λ part. IsAtomOf c.args.normal.now part.lit.atom) one.parts)
    (get_or_from_slice_get c.args.normal.now.bodies c.args.number c.get-body.result.now
    c.get-body.result.now c.get-body.ensures)
    (c.requires.covered.range.parts c.args.number c.get-body.result.now c.requires.within)
