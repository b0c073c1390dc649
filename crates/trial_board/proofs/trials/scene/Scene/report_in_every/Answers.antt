use Rattle.std.proofs.Common.{◌≡◌, ◌∙◌, true, rules}
use Rattle.trial_board.proofs.BoardLemmas.{candidate_for_board, consequence_for_board}
use Rattle.trial_board.proofs.trials.scene.Scene.report_in_every.Goals as goal

pub report_in-requires-clause-cand : goal.report_in-requires-clause-cand
report_in-requires-clause-cand c =
    let shown : c.is_candidate.result ≡ true = search rules in
    candidate_for_board c.args.self.now.board c.args.self.now.normal c.requires.ready.about
    c.args.cand
    (c.is_candidate.ensures.0 shown)

pub report_in-requires-clause-holds : goal.report_in-requires-clause-holds
report_in-requires-clause-holds c =
    consequence_for_board c.args.self.now.board c.args.self.now.normal c.requires.ready.about
    (c.requires.ready.asked ∙ c.requires.cautious) c.args.cand
    (c.in_ok-inside.ensures (search rules))
