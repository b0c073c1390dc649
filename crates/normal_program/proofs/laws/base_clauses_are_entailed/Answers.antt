use Rattle.normal_program.proofs.lemmas.Base.EntailedLemmas.{base_clauses-entailed}
use Rattle.normal_program.proofs.laws.base_clauses_are_entailed.Goals as goal

pub returns : goal.returns
returns c = base_clauses-entailed
