use Rattle.trial_board.proofs.trials.facts.is_answer.Goals as goal

pub returns : goal.returns
returns c told =
    (c.normal_form_means_the_program.ensures.same c.args.normal.now c.args.program.now c.requires
    c.args.set.now).1 (c.in_ok-answer.ensures.0 told)
