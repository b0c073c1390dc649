use Rattle.normal_program.proofs.lemmas.Entailed.ChoiceLemmas.{entailed-without_selectors}
use Rattle.normal_program.proofs.lemmas.Entailed.ChoiceLemmas.{entailed-more}
use Rattle.normal_program.proofs.laws.other_selectors_do_not_matter.Goals as goal

pub returns-clause-none : goal.returns-clause-none
returns-clause-none c = entailed-without_selectors

pub returns-clause-more : goal.returns-clause-more
returns-clause-more c = entailed-more
