use Rattle.lparse_reader.proofs.lemmas.Refusing.OutcomeLaw.{one_outcome}
use Rattle.lparse_reader.proofs.text_laws.each_text_has_one_outcome.Goals as goal

pub returns : goal.returns
returns c = one_outcome
