use Rattle.normal_program.proofs.RangeLemmas.{IsNormal-in_range}
use Rattle.normal_program.proofs.lemmas.Entailed.GroundedLemmas.{refuted-entailed}
use Rattle.normal_program.proofs.lemmas.Entailed.GroundedLemmas.{grounded-entailed}
use Rattle.normal_program.proofs.laws.grounded_is_entailed.Goals as goal

pub returns-clause-refuted : goal.returns-clause-refuted
returns-clause-refuted c = λ normal disjunctions clauses units is entailed refuted.
    refuted-entailed normal (IsNormal-in_range normal is) disjunctions clauses units entailed
    refuted

pub returns-clause-grounded : goal.returns-clause-grounded
returns-clause-grounded c = grounded-entailed
