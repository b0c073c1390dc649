use Rattle.std.proofs.Common.{◌≡◌, false, rules}
use Rattle.trial_board.proofs.ConsequenceLemmas.{answer_without}
use Rattle.trial_board.proofs.trials.facts.is_answer_without.Goals as goal

pub returns : goal.returns
returns c told =
    let absent : c.has_atom.result ≡ false = search rules in
    answer_without c.args.normal.now c.args.cand c.args.set.now c.as_slice.result.now
    c.atom_of.result c.has_atom.result c.as_slice.ensures c.atom_of.ensures c.has_atom.ensures
    absent (c.in_ok-answer.ensures told)
