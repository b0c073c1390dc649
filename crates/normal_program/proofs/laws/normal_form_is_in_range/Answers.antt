use Rattle.normal_program.proofs.RangeLemmas.{IsNormal-in_range}
use Rattle.normal_program.proofs.laws.normal_form_is_in_range.Goals as goal

pub returns : goal.returns
returns c = IsNormal-in_range
