use Rattle.std.proofs.Common.{◌≡◌, ◌≤◌, ◌-◌, ℕ, length, refl, sym, subst, ◌∙◌, arith}
use Rattle.std.specs.Prelude.{Some}
use Rattle.ground_program.specs.Bounds.{IsCandidate}
use Rattle.worker_jobs.specs.declared.job.Job.{Job}
use Rattle.worker_jobs.specs.declared.job.Job.TheVariants.{Coherence, Single}
use Rattle.worker_jobs.specs.declared.gain.RoundEnd.TheVariants.{Spent}
use Rattle.worker_jobs.specs.Job.{IsJobOver}
use Rattle.worker_jobs.specs.Spent.{IsSpentIn, IsOwnSpent}
use Rattle.master_record.specs.Rounds.{newcomer}
use Rattle.master_record.specs.Books.{Books, open_own, job_of}
use Rattle.master_record.specs.Merging.{with_spent}
use Rattle.master_record.specs.Sound.{IsSound}
use Rattle.master_record.proofs.EndedLemmas.{coherence_job, single_job, spends_coherence}
use Rattle.master_record.proofs.master.Master.keep_spent.Goals as goal

pub spend-requires-clause-own : goal.spend-requires-clause-own
spend-requires-clause-own c =
    let books : Books = c.args.self.now in
    let worker : ℕ = c.args.worker in
    let cand : ℕ = c.in-Single.cand in
    let job : job_of books worker ≡ Single cand =
    single_job (job_of books worker) cand (sym c.asked.ensures ∙ c.in-Single.is) in
    let sound : IsSound books = subst IsSound c.self.view_is c.self.invariant.sound in
    let first : 1 ≤ worker = c.requires.known.first in
    let last : worker ≤ length books.workers = c.requires.known.last in
    let candidate : IsCandidate books.normal.names cand =
    subst (IsJobOver books.normal.names) job (sound.jobs (worker - 1) newcomer (omega arith)) in
    let spent : IsOwnSpent books.normal books.mode worker books.budget cand c.args.test =
    subst (λ (it : Job). IsSpentIn books.normal books.mode worker books.budget it c.args.test) job
    c.requires.spent in
    let here : ℕ → Type 0 =
    λ n. IsOwnSpent books.normal books.mode n books.budget cand c.args.test in
    let by : c.args.test.by ≡ worker = spent.marked.by in
    record {
      candidate = candidate;
      first = omega (arith, by, first);
      last = omega (arith, by, last);
      spent = subst here (sym by) spent;
    }

pub returns-in-Coherence-clause-ok : goal.returns-in-Coherence-clause-ok
returns-in-Coherence-clause-ok c =
    let it = c.self.inside in
    let books : Books = record {
      normal = it.normal.now;
      mode = it.mode;
      strategy = it.strategy;
      budget = it.budget;
      answers = it.answers;
      pair = it.candidates.pair;
      coherence = it.coherence;
      own = open_own it.candidates.pair it.own.items;
      incoherent = it.incoherent;
      workers = it.workers.items;
    } in
    let worker : ℕ = c.args.worker in
    let job : job_of c.args.self.now worker ≡ Coherence =
    coherence_job (job_of c.args.self.now worker) (sym c.asked.ensures ∙ c.in-Coherence.is) in
    c.keep_coherence.ensures
    ∙ subst (λ (b : Books).
    record b { coherence = Some c.args.test } ≡ with_spent b worker (Spent c.args.test))
    c.self.view_is
    (spends_coherence books it.own.items worker c.args.test refl
    (subst (λ (b : Books). job_of b worker ≡ Coherence) (sym c.self.view_is) job))
