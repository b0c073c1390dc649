use Rattle.trial_board.proofs.BoardLemmas.{answer_for_board}
use Rattle.trial_board.proofs.trials.scene.Scene.may_report.Goals as goal

pub returns : goal.returns
returns c told =
    answer_for_board c.args.self.now.board c.args.self.now.normal c.requires.about
    c.args.set.now (c.in_ok-answer.ensures told)
