use Rattle.std.proofs.Common.{arith}
use Rattle.anytime_core.proofs.StepLemmas.{both_is}
use Rattle.anytime_core.proofs.row.add_bits.Goals as goal

pub returns : goal.returns
returns c =
    let i = c.loop-place.invariant in
    both_is c.args.words.now c.args.others.now c.loop-place.words i.same_length c.requires
    (λ at within. i.before at (omega (arith, c.loop-place-test.false)))
