use Rattle.std.proofs.Common.{inl}
use Rattle.ground_program.proofs.ModelLemmas.{present-decides}
use Rattle.ground_program.proofs.meaning.first_unmet.Goals as goal

pub returns-in-None : goal.returns-in-None
returns-in-None c =
    present-decides c.args.program.now c.args.set.now c.first_present.result (cc) (cc)

pub returns-in-Some : goal.returns-in-Some
returns-in-Some c = inl (cc)
