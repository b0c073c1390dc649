use Rattle.completion.proofs.ChainLemmas.{IsRead}
use Rattle.completion.proofs.support_clauses.read_back.Given as goal

abbrev pub invariant-loop-number : goal.invariant-loop-number
invariant-loop-number l = IsRead l.notes l.last l.number l.lits.items

abbrev pub decreases-loop-number : goal.decreases-loop-number
decreases-loop-number l = l.number
