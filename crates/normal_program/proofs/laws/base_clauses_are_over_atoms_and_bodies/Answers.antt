use Rattle.normal_program.proofs.lemmas.Base.OverLemmas.{base_clauses-over}
use Rattle.normal_program.proofs.laws.base_clauses_are_over_atoms_and_bodies.Goals as goal

pub returns : goal.returns
returns c = base_clauses-over
