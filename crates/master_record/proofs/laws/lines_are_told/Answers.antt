use Rattle.master_record.proofs.LawLemmas.{begins, jobs_told, sizes_told, merges_told, takes_told}
use Rattle.master_record.proofs.laws.lines_are_told.Goals as goal

pub returns-clause-begins : goal.returns-clause-begins
returns-clause-begins c = begins

pub returns-clause-merges : goal.returns-clause-merges
returns-clause-merges c = merges_told

pub returns-clause-jobs : goal.returns-clause-jobs
returns-clause-jobs c = jobs_told

pub returns-clause-sizes : goal.returns-clause-sizes
returns-clause-sizes c = sizes_told

pub returns-clause-takes : goal.returns-clause-takes
returns-clause-takes c = takes_told
