use Rattle.plain_entailment.proofs.SetLemmas.{read_exactly}
use Rattle.plain_entailment.proofs.entailment.is_entailed.Goals as goal

pub returns : goal.returns
returns c =
    read_exactly _ c.args.normal.now _ c.args.disjunctions.now _ c.args.clause.now _
    c.as_slice.ensures c.as_slice-2.ensures c.open-start.ensures c.holds_from.ensures
