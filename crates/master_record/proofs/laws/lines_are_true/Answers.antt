use Rattle.master_record.proofs.MergedLemmas.{lines_true, coherent_where}
use Rattle.master_record.proofs.OverLemmas.{lines_over}
use Rattle.master_record.proofs.KeptLemmas.{encloses_lines}
use Rattle.master_record.proofs.laws.lines_are_true.Goals as goal

pub returns-clause-merged : goal.returns-clause-merged
returns-clause-merged c = λ old new worker gain lines sound merge.
    lines_true old worker gain merge.answers merge.settled lines sound merge.given merge.gained
    merge.parts

pub returns-clause-coherent : goal.returns-clause-coherent
returns-clause-coherent c = λ old new worker gain lines sound merge some.
    coherent_where old worker gain merge.answers merge.settled lines sound merge.given merge.gained
    merge.parts some

pub returns-clause-over : goal.returns-clause-over
returns-clause-over c = lines_over

pub returns-clause-encloses : goal.returns-clause-encloses
returns-clause-encloses c = encloses_lines
