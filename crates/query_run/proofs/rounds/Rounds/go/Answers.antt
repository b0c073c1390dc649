use Rattle.query_run.proofs.GoneLemmas.{gain_apart, gain_end, gain_owed, gain_true, gone_by}
use Rattle.query_run.proofs.GoneLemmas.{job_over, job_selector, some_slice}
use Rattle.query_run.proofs.GoneLemmas.{if_ok_then}
use Rattle.query_run.proofs.rounds.Rounds.go.Goals as goal

pub give-requires : goal.give-requires
give-requires c = c.requires.on.agreed.one

pub work-gain-requires-clause-job : goal.work-gain-requires-clause-job
work-gain-requires-clause-job c =
    job_over c.args.self.now c.give.new.self c.in_ok-job.job c.requires.on c.requires.running
    c.in_ok-job.ensures.given c.in_ok-job.ensures.rest

pub work-gain-requires-clause-selector : goal.work-gain-requires-clause-selector
work-gain-requires-clause-selector c = λ alive.
    job_selector c.args.self.now c.give.new.self c.in_ok-job.job c.requires.on c.requires.running
    c.in_ok-job.ensures.given c.in_ok-job.ensures.rest

pub work-gain-requires-clause-some : goal.work-gain-requires-clause-some
work-gain-requires-clause-some c =
    some_slice c.args.self.now c.give.new.self c.in_ok-job.job c.requires.on c.requires.running
    c.in_ok-job.ensures.given c.in_ok-job.ensures.rest

pub take-requires-clause-owed : goal.take-requires-clause-owed
take-requires-clause-owed c =
    gain_owed c.args.self.now c.give.new.self c.in_ok-job.job c.requires.on c.requires.running
    c.in_ok-job.ensures.given c.in_ok-job.ensures.rest c.work-gain.new.self c.work-gain.result
    c.work-gain.ensures.worked c.work-gain.ensures.is_true c.work-gain.ensures.rest

pub take-requires-clause-gain : goal.take-requires-clause-gain
take-requires-clause-gain c =
    gain_true c.args.self.now c.give.new.self c.in_ok-job.job c.requires.on c.requires.running
    c.in_ok-job.ensures.given c.in_ok-job.ensures.rest c.work-gain.new.self c.work-gain.result
    c.work-gain.ensures.worked c.work-gain.ensures.is_true c.work-gain.ensures.rest

pub take-requires-clause-ended : goal.take-requires-clause-ended
take-requires-clause-ended c =
    gain_end c.args.self.now c.give.new.self c.in_ok-job.job c.requires.on c.requires.running
    c.in_ok-job.ensures.given c.in_ok-job.ensures.rest c.work-gain.new.self c.work-gain.result
    c.work-gain.ensures.worked c.work-gain.ensures.is_true c.work-gain.ensures.rest

pub take-requires-clause-apart : goal.take-requires-clause-apart
take-requires-clause-apart c =
    gain_apart c.args.self.now c.give.new.self c.in_ok-job.job c.requires.on c.requires.running
    c.in_ok-job.ensures.given c.in_ok-job.ensures.rest c.work-gain.new.self c.work-gain.result
    c.work-gain.ensures.worked c.work-gain.ensures.is_true c.work-gain.ensures.rest

pub returns-clause-gone : goal.returns-clause-gone
returns-clause-gone c =
    if_ok_then c.take.result c.take.ensures.merged
    (λ lines merged.
    gone_by c.args.self.now c.give.new.self c.in_ok-job.job c.requires.on c.requires.running
    c.in_ok-job.ensures.given c.in_ok-job.ensures.rest c.work-gain.new.self c.work-gain.result
    c.work-gain.ensures.worked c.work-gain.ensures.is_true c.work-gain.ensures.rest
    c.in_ok-job.ensures.sound c.take.new.self lines.items merged c.take.ensures.sound
    c.take.ensures.rest)
