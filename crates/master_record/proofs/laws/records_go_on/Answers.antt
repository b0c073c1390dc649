use Rattle.master_record.proofs.SettledLemmas.{answers_given, answers_dropped}
use Rattle.master_record.proofs.CountLemmas.{more_true, less_true}
use Rattle.master_record.proofs.OwnLemmas.{distinct_permutation, ascending_from}
use Rattle.master_record.proofs.laws.records_go_on.Goals as goal

pub returns-clause-given : goal.returns-clause-given
returns-clause-given c = answers_given

pub returns-clause-dropped : goal.returns-clause-dropped
returns-clause-dropped c = answers_dropped

pub returns-clause-more : goal.returns-clause-more
returns-clause-more c = more_true

pub returns-clause-less : goal.returns-clause-less
returns-clause-less c = less_true

pub returns-clause-sorted : goal.returns-clause-sorted
returns-clause-sorted c = λ own sorted same distinct order.
    ascending_from sorted order (distinct_permutation own sorted same distinct)
