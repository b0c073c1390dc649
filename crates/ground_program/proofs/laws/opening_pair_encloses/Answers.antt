use Rattle.ground_program.proofs.BoundsLemmas.{opening-encloses}
use Rattle.ground_program.proofs.laws.opening_pair_encloses.Goals as goal

pub returns : goal.returns
returns c = opening-encloses
