use Rattle.normal_program.proofs.RangeLemmas.{IsNormal-in_range}
use Rattle.completion.proofs.PartLemmas.{smaller_meets}
use Rattle.completion.proofs.SmallerLemmas.{met_makes_smaller}
use Rattle.completion.proofs.laws.inner_clauses_mean_smaller_sets.Goals as goal

pub returns-clause-hold : goal.returns-clause-hold
returns-clause-hold c normal set is over part smaller =
    smaller_meets normal (IsNormal-in_range normal is) set over part smaller

pub returns-clause-make : goal.returns-clause-make
returns-clause-make c normal set is over values total met =
    met_makes_smaller normal (IsNormal-in_range normal is) set over values total met
