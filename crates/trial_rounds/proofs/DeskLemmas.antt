-- A worker that was given a job owes its round.
use Rattle.std.proofs.Common.{◌≡◌, ℕ, List, [], ◌∷◌, length, get_or, refl, sym, ap, subst, ◌∙◌, arith}
use Rattle.std.proofs.Common.{Some}
use Rattle.std.specs.Prelude.{slice_get}
use Rattle.worker_jobs.specs.declared.job.Job.{Job}
use Rattle.worker_jobs.specs.declared.job.Job.TheVariants.{Idle}
use Rattle.master_record.specs.declared.worker.Worker.{Worker}
use Rattle.master_record.specs.Rounds.{newcomer}
use Rattle.master_record.specs.Books.{Books, IsOwed}
use Rattle.master_record.specs.Jobs.{HasGiven, HasJob}
use Rattle.query_run.specs.Agreed.{only}
use Rattle.query_run.proofs.AgreeLemmas.{owed_had}
use Rattle.query_run.proofs.JobLemmas.{single_list}

-- the first of a list of one
first_is : {X : Type 0} (xs : List X) (d : X) → length xs ≡ 1
    → slice_get xs 0 ≡ Some (get_or xs 0 d)
first_is xs d one =
    subst (λ ys. slice_get ys 0 ≡ Some (get_or xs 0 d)) (sym (single_list xs d one)) refl

pub owed_then : (old new : Books) (jobs : List Job) → length old.workers ≡ 1
    → HasGiven old jobs new → IsOwed new 1
owed_then old new jobs one given =
    let few : length new.workers ≡ 1 = given.same ∙ one in
    let job : Job = get_or jobs 0 Idle in
    let had : HasJob old (only old) job (only new) =
    given.had 0 (only old) (only new) job (first_is old.workers newcomer one)
    (first_is jobs Idle (given.given.count ∙ one)) (first_is new.workers newcomer few) in
    record {
      known = record { first = omega arith; last = omega (arith, few) };
      owed = owed_had old new job had;
    }
