use Rattle.conflict_learning.proofs.UnitLemmas as lemma
use Rattle.conflict_learning.proofs.laws.learned_is_a_unit_after_going_back.Goals as goal

pub returns-clause-lower : goal.returns-clause-lower
returns-clause-lower c = lemma.back_is_lower

pub returns-clause-unit : goal.returns-clause-unit
returns-clause-unit c = lemma.learned_is_a_unit
