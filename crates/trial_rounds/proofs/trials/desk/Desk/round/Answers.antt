use Rattle.trial_rounds.proofs.DeskLemmas.{owed_then}
use Rattle.trial_rounds.proofs.trials.desk.Desk.round.Goals as goal

pub merge-requires-clause-owed : goal.merge-requires-clause-owed
merge-requires-clause-owed c =
    owed_then c.self.inside.master c.next_jobs.new.self c.in_ok-next_jobs.field-0.items
    c.self.invariant.one c.in_ok-next_jobs.ensures.ok
