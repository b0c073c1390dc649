-- What a round spends.
use Rattle.std.proofs.Common.{◌≡◌, ◌≢◌, ℕ, Bool, List, [], ◌++◌, length, refl, sym, ap}
use Rattle.std.proofs.Common.{◌∙◌, append-nil, Some, Option}
use Rattle.std.specs.Prelude.{Vec}
use Rattle.std.specs.declared.alloc.Global.{Global}
use Rattle.ground_program.specs.declared.pair.Pair.{Pair}
use Rattle.normal_program.specs.declared.spent.SpentTest.{SpentTest}
use Rattle.worker_jobs.specs.declared.job.Job.{Job}
use Rattle.worker_jobs.specs.declared.job.Job.TheVariants.{Idle, Coherence, Single, Reduce, Chunk}
use Rattle.worker_jobs.specs.declared.gain.RoundEnd.{RoundEnd}
use Rattle.worker_jobs.specs.declared.gain.RoundEnd.TheVariants.{Done, Settled, Paused, Spent}
use Rattle.worker_jobs.specs.declared.gain.RoundEnd.TheVariants.{SpentWide, NoMemory}
use Rattle.master_record.specs.declared.merging.Asked.TheVariants as asks
use Rattle.master_record.specs.declared.own.OwnTest.{OwnTest}
use Rattle.master_record.specs.Course.{is_open}
use Rattle.master_record.specs.Books.{Books, open_own, job_of}
use Rattle.master_record.specs.Merging.{asked_by, spent_own, spent_coherence, with_spent}
use Rattle.master_record.specs.Sound.{IsKept, IsSpentByOne}
use Rattle.master_record.proofs.CourseLemmas.{filter_again}

-- the job of whoever asks for coherence, or for one candidate
pub coherence_job : (job : Job) → asked_by job ≡ asks.Coherence → job ≡ Coherence
coherence_job Idle e = cc
coherence_job Coherence e = refl
coherence_job (Single cand) e = cc
coherence_job (Reduce cands) e = cc
coherence_job (Chunk cands) e = cc

pub single_job : (job : Job) (cand : ℕ) → asked_by job ≡ asks.Single cand → job ≡ Single cand
single_job Idle cand e = cc
single_job Coherence cand e = cc
single_job (Single other) cand e = cc
single_job (Reduce cands) cand e = cc
single_job (Chunk cands) cand e = cc

-- a round that doesn't end with a spent test spends nothing
pub record SpendsNone (ended : RoundEnd) : Type 0 where
  pub each : (test : SpentTest) → ended ≢ Spent test

none_own : (own : List OwnTest) (job : Job) (ended : RoundEnd) → SpendsNone ended
    → spent_own own job ended ≡ []
none_own own Idle ended none = refl
none_own own Coherence ended none = refl
none_own own (Single cand) Done none = refl
none_own own (Single cand) Settled none = refl
none_own own (Single cand) Paused none = refl
none_own own (Single cand) (Spent test) none = absurd (none.each test refl)
none_own own (Single cand) (SpentWide test) none = refl
none_own own (Single cand) NoMemory none = refl
none_own own (Reduce cands) ended none = refl
none_own own (Chunk cands) ended none = refl

none_coherence : (coherence : Option SpentTest) (job : Job) (ended : RoundEnd) → SpendsNone ended
    → spent_coherence coherence job ended ≡ coherence
none_coherence coherence Idle ended none = refl
none_coherence coherence (Single cand) ended none = refl
none_coherence coherence Coherence Done none = refl
none_coherence coherence Coherence Settled none = refl
none_coherence coherence Coherence Paused none = refl
none_coherence coherence Coherence (Spent test) none = absurd (none.each test refl)
none_coherence coherence Coherence (SpentWide test) none = refl
none_coherence coherence Coherence NoMemory none = refl
none_coherence coherence (Reduce cands) ended none = refl
none_coherence coherence (Chunk cands) ended none = refl

-- all own tests that are shown stay
pub own_stays : (pair : Pair) (own raw : List OwnTest) → own ≡ open_own pair raw
    → open_own pair (own ++ []) ≡ own
own_stays pair own raw view =
    let p : OwnTest → Bool = λ one. is_open pair one.cand in
    ap (λ (xs : List OwnTest). open_own pair xs) (append-nil own)
    ∙ ap (λ (xs : List OwnTest). open_own pair xs) view
    ∙ filter_again p p (λ one is. is) raw
    ∙ sym view

-- the record after a round that spends nothing
pub spends_none : (books : Books) (raw : List OwnTest) (worker : ℕ) (ended : RoundEnd)
    → books.own ≡ open_own books.pair raw → SpendsNone ended
    → books ≡ with_spent books worker ended
spends_none books raw worker ended view none =
    ap (λ (xs : List OwnTest). record books { own = xs })
    (sym (own_stays books.pair books.own raw view)
    ∙ ap (λ (xs : List OwnTest). open_own books.pair (books.own ++ xs))
    (sym (none_own books.own (job_of books worker) ended none)))
    ∙ ap (λ (test : Option SpentTest). record books {
      coherence = test;
      own = open_own books.pair
          (books.own ++ spent_own books.own (job_of books worker) ended);
    })
    (sym (none_coherence books.coherence (job_of books worker) ended none))

-- after one that spends the test of coherence
pub spends_coherence : (books : Books) (raw : List OwnTest) (worker : ℕ) (test : SpentTest)
    → books.own ≡ open_own books.pair raw → job_of books worker ≡ Coherence
    → record books { coherence = Some test } ≡ with_spent books worker (Spent test)
spends_coherence books raw worker test view asks_it =
    ap (λ (xs : List OwnTest). record books { coherence = Some test; own = xs })
    (sym (own_stays books.pair books.own raw view))
    ∙ ap (λ (job : Job). record books {
      coherence = spent_coherence books.coherence job (Spent test);
      own = open_own books.pair (books.own ++ spent_own books.own job (Spent test));
    }) (sym asks_it)

-- it is kept
pub kept_coherence : (books : Books) (left : List Bool) (own : Vec OwnTest Global)
    (room : Vec SpentTest Global) (test : SpentTest) → IsKept books left own room
    → IsSpentByOne books.normal books.budget (length books.workers) test
    → IsKept (record books { coherence = Some test }) left own room
kept_coherence books left own room test kept spent = record {
  sound = record {
    normal_form = kept.sound.normal_form;
    some_worker = kept.sound.some_worker;
    few_workers = kept.sound.few_workers;
    encloses = kept.sound.encloses;
    answered = kept.sound.answered;
    unanswerable = kept.sound.unanswerable;
    coherence = spent;
    own = kept.sound.own;
    distinct = kept.sound.distinct;
    apart = kept.sound.apart;
    strategy = kept.sound.strategy;
    jobs = kept.sound.jobs;
  };
  fits = kept.fits;
  count = kept.count;
  left_is = kept.left_is;
  numbered = kept.numbered;
  distinct = kept.distinct;
  empty = kept.empty;
  none = kept.none;
  has_room = kept.has_room;
}
