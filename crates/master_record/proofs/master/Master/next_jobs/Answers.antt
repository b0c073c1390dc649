use Rattle.std.proofs.Common.{subst}
use Rattle.master_record.specs.Books.{Books, open_own}
use Rattle.master_record.specs.Jobs.{HasGiven}
use Rattle.master_record.proofs.GivenLemmas.{kept_given}
use Rattle.master_record.proofs.JobLemmas.{may_follow, handed_out}
use Rattle.master_record.proofs.master.Master.next_jobs.Goals as goal

pub follow_all-requires : goal.follow_all-requires
follow_all-requires c =
    may_follow _ _ _ _ _ c.self.view_is c.in_ok-jobs.ensures c.deref.ensures.value
    c.in_ok-plans.ensures

pub invariant_of-self : goal.invariant_of-self
invariant_of-self c =
    kept_given _ _ _ _ _ _ c.self.invariant
    (handed_out _ _ _ _ _ _ c.self.view_is c.in_ok-jobs.ensures c.deref.ensures.value
    c.in_ok-plans.ensures c.follow_all.ensures)

pub returns-clause-ok : goal.returns-clause-ok
returns-clause-ok c =
    subst (λ (b : Books). HasGiven b c.in_ok-jobs.jobs.items (record {
      normal = c.self.inside.normal.now;
      mode = c.self.inside.mode;
      strategy = c.self.inside.strategy;
      budget = c.self.inside.budget;
      answers = c.self.inside.answers;
      pair = c.self.inside.candidates.pair;
      coherence = c.self.inside.coherence;
      own = open_own c.self.inside.candidates.pair c.self.inside.own.items;
      incoherent = c.self.inside.incoherent;
      workers = c.follow_all.new.workers.items;
    }))
    c.self.view_is
    (handed_out _ _ _ _ _ _ c.self.view_is c.in_ok-jobs.ensures c.deref.ensures.value
    c.in_ok-plans.ensures c.follow_all.ensures)
