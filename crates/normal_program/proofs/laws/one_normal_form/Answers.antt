use Rattle.normal_program.proofs.UniqueLemmas.{normal_form_unique}
use Rattle.normal_program.proofs.laws.one_normal_form.Goals as goal

pub returns : goal.returns
returns c = normal_form_unique
