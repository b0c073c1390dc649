use Rattle.propagator.proofs.ExtendLemmas.{extending_goes_on}
use Rattle.propagator.proofs.laws.extending_goes_on.Goals as goal

pub returns : goal.returns
returns c = extending_goes_on
