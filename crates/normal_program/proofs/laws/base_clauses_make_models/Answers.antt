use Rattle.normal_program.proofs.lemmas.Base.ModelLemmas.{base_clauses-make_models}
use Rattle.normal_program.proofs.laws.base_clauses_make_models.Goals as goal

pub returns : goal.returns
returns c = base_clauses-make_models
