use Rattle.std.proofs.Common.{◌-◌, false, List, set, subst}
use Rattle.master_record.specs.declared.own.OwnTest.{OwnTest}
use Rattle.master_record.specs.Books.{Books}
use Rattle.master_record.specs.Sound.{IsKept}
use Rattle.master_record.proofs.OpenLemmas.{kept_opened}
use Rattle.master_record.proofs.KeptLemmas.{kept_settled, settled_is}
use Rattle.master_record.proofs.SpendLemmas.{kept_workers, kept_spent, spent_one}
use Rattle.master_record.proofs.laws.records_are_kept.Goals as goal

pub returns-clause-opening : goal.returns-clause-opening
returns-clause-opening c = kept_opened

pub returns-clause-lines : goal.returns-clause-lines
returns-clause-lines c =
    λ books left own room answers lines after view kept after_is fits coherent holds.
    subst (λ (b : Books). IsKept b after.left own room)
    (settled_is books left own room view kept answers lines after after_is)
    (kept_settled books left own room view kept answers lines after after_is fits coherent holds)

pub returns-clause-workers : goal.returns-clause-workers
returns-clause-workers c = kept_workers

pub returns-clause-spent : goal.returns-clause-spent
returns-clause-spent c =
    λ books left own now room space one view kept is_left pushed longer is apart empty none room_for.
    subst (λ (xs : List OwnTest).
    IsKept (record books { own = xs }) (set left (one.cand - 1) false) now space)
    (spent_one books left own room view kept one is.candidate is_left now pushed)
    (kept_spent books left own room view kept one is.candidate is_left now pushed space is apart
    longer empty none room_for)
