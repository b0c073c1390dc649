use Rattle.normal_program.proofs.NormalLemmas.{SameBodies-normal_form, SameAnswerSets-normal_form}
use Rattle.normal_program.proofs.laws.normal_form_means_the_program.Goals as goal

pub returns-clause-bodies : goal.returns-clause-bodies
returns-clause-bodies c = SameBodies-normal_form

pub returns-clause-same : goal.returns-clause-same
returns-clause-same c = SameAnswerSets-normal_form
