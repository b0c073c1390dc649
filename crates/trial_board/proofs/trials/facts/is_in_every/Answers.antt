use Rattle.std.proofs.Common.{◌≤◌, rules}
use Rattle.trial_board.proofs.ConsequenceLemmas.{consequence_told}
use Rattle.trial_board.proofs.trials.facts.is_in_every.Goals as goal

pub returns : goal.returns
returns c told =
    let low : c.atom_of-atom.result ≤ c.args.normal.now.atoms = search rules in
    consequence_told c.args.normal.now c.args.cand c.atom_of-atom.result c.open-none.result _
    c.atom_of-atom.ensures low c.open-none.ensures c.in_ok-clause.ensures
    (c.in_ok-entailed.ensures.0 told)
