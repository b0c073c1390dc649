use Rattle.normal_program.proofs.lemmas.Entailed.WideLemmas.{selector_clauses-entailed, wide-units}
use Rattle.normal_program.proofs.lemmas.Entailed.WideLemmas.{wide-spent}
use Rattle.normal_program.proofs.laws.wide_tests_count_units.Goals as goal

pub returns-clause-selectors : goal.returns-clause-selectors
returns-clause-selectors c = selector_clauses-entailed

pub returns-clause-units : goal.returns-clause-units
returns-clause-units c = wide-units

pub returns-clause-spent : goal.returns-clause-spent
returns-clause-spent c = wide-spent
