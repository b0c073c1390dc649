use Rattle.anytime_core.proofs.LaterLemmas.{encloses_the_program}
use Rattle.anytime_core.proofs.laws.normal_bounds_are_the_programs.Goals as goal

pub returns : goal.returns
returns c = encloses_the_program
