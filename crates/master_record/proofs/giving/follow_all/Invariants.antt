use Rattle.std.proofs.Common.{vec_len}
use Rattle.master_record.proofs.FollowLemmas.{AreFollowed}
use Rattle.master_record.proofs.giving.follow_all.Given as goal

abbrev pub invariant-loop-plan : goal.invariant-loop-plan
invariant-loop-plan l =
    AreFollowed l.initial.workers.items l.initial.plans.items l.plans.items l.workers.items

abbrev pub decreases-loop-plan : goal.decreases-loop-plan
decreases-loop-plan l = vec_len l.plans
