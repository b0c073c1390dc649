use Rattle.plain_answer_sets.proofs.LeastLemmas.{least_exactly}
use Rattle.plain_answer_sets.proofs.definition.is_answer_set.Goals as goal

pub returns : goal.returns
returns c =
    let found = c.some_smaller_keeps-smaller.ensures.found in
    least_exactly c.args.program.now c.args.set.now _
    (c.is_reduct_model.ensures.0 c.if-not-is_reduct_model.false)
    (simp (c.as_slice.ensures, c.in_ok-trial.ensures) at found)
