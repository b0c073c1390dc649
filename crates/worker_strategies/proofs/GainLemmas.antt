-- What answers of a tester say of candidates.
use Rattle.std.proofs.Common.{◌≡◌, ℕ, Bool, true, false, List, [], ◌∷◌, length, refl, sym}
use Rattle.std.proofs.Common.{subst, inl, inr, arith, Some, None, true≢false}
use Rattle.std.specs.Prelude.{All, Contains, IsTrue}
use Rattle.std.proofs.lemmas.Bool.{false≢true}
use Rattle.std.proofs.lemmas.List.Elements.{All-nil, All-cons, All-head, All-weaker}
use Rattle.std.proofs.lemmas.List.Elements.{All-contains}
use Rattle.ground_program.specs.declared.program.Mode.{Mode}
use Rattle.ground_program.specs.declared.program.Mode.TheVariants.{Cautious, Brave}
use Rattle.ground_program.specs.Meaning.{has}
use Rattle.ground_program.specs.Bounds.{IsCandidate, Shows, atom_of}
use Rattle.clause_store.specs.declared.literal.Lit.{Lit}
use Rattle.clause_store.specs.Clause.{IsTrueIn}
use Rattle.normal_program.specs.declared.normal.Normal.{Normal}
use Rattle.normal_program.specs.Normal.{IsAnswerSetN, extension}
use Rattle.normal_program.specs.Limit.{IsNormal}
use Rattle.anytime_core.specs.Truth.{IsCoherent}
use Rattle.coherence_test.specs.declared.asked.Asked.{Asked}
use Rattle.coherence_test.specs.declared.asked.Core.{Core}
use Rattle.coherence_test.specs.Asked.{Answers as Meets, IsCoreFor}
use Rattle.worker_jobs.specs.declared.job.Job.TheVariants.{Coherence, Single}
use Rattle.worker_jobs.specs.declared.gain.RoundEnd.{RoundEnd}
use Rattle.worker_jobs.specs.declared.gain.RoundEnd.TheVariants.{Done}
use Rattle.worker_jobs.specs.Gain.{IsProved, IsProvedCandidate, HasGained, IsTrueGain}
use Rattle.worker_jobs.specs.Job.{test_literal}
use Rattle.worker_jobs.proofs.CandidateLemmas.{test_literal_shows}
use Rattle.worker_strategies.specs.Outcome.{IsAnswer}
use Rattle.worker_strategies.specs.Rounds.{nothing_gained}

-- a truth that isn't false is true
true_from : (b : Bool) → ¬ ¬ (b ≡ true) → b ≡ true
true_from true never = refl
true_from false never = absurd (never (λ same. true≢false (sym same)))

-- a candidate that no answer set shows is proved
pub unshown_is_proved : (normal : Normal) (mode : Mode) (cand : ℕ)
    → ((set : List Bool) → IsAnswerSetN normal set → ¬ Shows normal.names mode set cand)
    → IsProved normal mode cand
unshown_is_proved normal Cautious cand unshown =
    λ set answers. true_from (has set (atom_of normal.names cand)) (unshown set answers)
unshown_is_proved normal Brave cand unshown = λ (set, answers, here). unshown set answers here

-- an empty core means that there is no answer set
pub no_answer_set : (normal : Normal) (asked : Asked) (core : Core) → IsCoreFor normal asked core
    → core.lits ≡ [] → ¬ IsTrue core.any → ¬ IsCoherent normal
no_answer_set normal asked core is empty plain (set, answers) =
    is.unmet set
    (record {
      answers = answers;
      lits =
          subst (All (IsTrueIn (extension normal set set))) (sym empty)
          (All-nil (IsTrueIn (extension normal set set)));
      any = λ some. absurd (plain some);
    })

-- ---- gains

-- nothing is true
pub nothing_is_true : (normal : Normal) (mode : Mode) (ended : RoundEnd)
    → IsTrueGain normal mode (nothing_gained ended)
nothing_is_true normal mode ended =
    record {
      sets = All-nil (IsAnswerSetN normal);
      proved = All-nil (IsProvedCandidate normal mode);
      coherent = tt;
    }

-- an answer set is true
pub set_is_true : (normal : Normal) (mode : Mode) (set : List Bool) → IsAnswerSetN normal set
    → IsTrueGain normal mode
    (record { sets = set ∷ []; proved = []; coherent = None; ended = Done })
set_is_true normal mode set answers =
    record {
      sets = All-cons (IsAnswerSetN normal) set [] answers (All-nil (IsAnswerSetN normal));
      proved = All-nil (IsProvedCandidate normal mode);
      coherent = tt;
    }

-- and that there is none
pub incoherent_is_true : (normal : Normal) (mode : Mode) → ¬ IsCoherent normal
    → IsTrueGain normal mode
    (record { sets = []; proved = []; coherent = Some false; ended = Done })
incoherent_is_true normal mode none =
    record {
      sets = All-nil (IsAnswerSetN normal);
      proved = All-nil (IsProvedCandidate normal mode);
      coherent = none;
    }

-- and proved candidates
pub proved_is_true : (normal : Normal) (mode : Mode) (cands : List ℕ)
    → All (IsProvedCandidate normal mode) cands
    → IsTrueGain normal mode
    (record { sets = []; proved = cands; coherent = None; ended = Done })
proved_is_true normal mode cands are =
    record {
      sets = All-nil (IsAnswerSetN normal);
      proved = are;
      coherent = tt;
    }

-- ---- coherence

pub coherence_found : (normal : Normal) (mode : Mode) (set : List Bool)
    → IsAnswerSetN normal set
    → IsAnswer normal mode Coherence
    (record { sets = set ∷ []; proved = []; coherent = Some true; ended = Done })
coherence_found normal mode set answers =
    record {
      is_true =
          record {
            sets = All-cons (IsAnswerSetN normal) set [] answers (All-nil (IsAnswerSetN normal));
            proved = All-nil (IsProvedCandidate normal mode);
            coherent = (set, answers);
          };
      answers = inl (omega arith);
      done = refl;
    }

-- a list of no items
pub empty_list : {X : Type 0} (xs : List X) → length xs ≡ 0 → xs ≡ []
empty_list [] empty = refl
empty_list (x ∷ xs) empty = absurd (omega arith)

-- a core of nothing has nothing
pub none_among : (lits : List Lit) → All (Contains []) lits → lits ≡ []
none_among [] among = refl
none_among (lit ∷ lits) among =
    let here = All-head (Contains []) lit lits among in
    absurd (omega (arith, here.1))

pub coherence_refuted : (normal : Normal) (mode : Mode) (core : Core)
    → IsCoreFor normal (record { assume = []; any = None }) core
    → IsAnswer normal mode Coherence
    (record { sets = []; proved = []; coherent = Some false; ended = Done })
coherence_refuted normal mode core is =
    record {
      is_true =
          incoherent_is_true normal mode
          (no_answer_set normal (record { assume = []; any = None }) core is
          (none_among core.lits is.among) (λ some. false≢true (is.asks some)));
      answers = inr refl;
      done = refl;
    }

-- ---- sets and candidates

-- a set that makes the test literal of a candidate true shows it
pub shows_by : (normal : Normal) (mode : Mode) (cand : ℕ) (set : List Bool) → IsNormal normal
    → IsCandidate normal.names cand → IsAnswerSetN normal set
    → IsTrueIn (extension normal set set) (test_literal normal.names mode cand)
    → Shows normal.names mode set cand
shows_by normal mode cand set is candidate answers is_true =
    (test_literal_shows normal mode set cand is answers candidate).1 is_true

-- and one that shows it makes the literal true
pub true_by : (normal : Normal) (mode : Mode) (cand : ℕ) (set : List Bool) → IsNormal normal
    → IsCandidate normal.names cand → IsAnswerSetN normal set
    → Shows normal.names mode set cand
    → IsTrueIn (extension normal set set) (test_literal normal.names mode cand)
true_by normal mode cand set is candidate answers shows =
    (test_literal_shows normal mode set cand is answers candidate).0 shows

-- a gain of one set has what that shows
pub gained_by_set : (normal : Normal) (mode : Mode) (cand : ℕ) (set : List Bool)
    → Shows normal.names mode set cand
    → HasGained normal.names mode
    (record { sets = set ∷ []; proved = []; coherent = None; ended = Done }) cand
gained_by_set normal mode cand set shows = inl (0, set, omega arith, refl, shows)

-- a candidate is proved where no answer set makes its test literal true
pub proved_by : (normal : Normal) (mode : Mode) (cand : ℕ) → IsNormal normal
    → IsCandidate normal.names cand
    → ((set : List Bool) → IsAnswerSetN normal set
    → ¬ IsTrueIn (extension normal set set) (test_literal normal.names mode cand))
    → IsProvedCandidate normal mode cand
proved_by normal mode cand is candidate never =
    record {
      candidate = candidate;
      proved =
          unshown_is_proved normal mode cand
          (λ set answers shows.
          never set answers (true_by normal mode cand set is candidate answers shows));
    }

-- ---- one candidate

module _ (normal : Normal) (mode : Mode) (cand : ℕ) (is : IsNormal normal)
    (candidate : IsCandidate normal.names cand) where
  abbrev one_asked : Asked
  one_asked = record { assume = test_literal normal.names mode cand ∷ []; any = None }

  pub single_found : (set : List Bool) → Meets normal one_asked set
      → IsAnswer normal mode (Single cand)
      (record { sets = set ∷ []; proved = []; coherent = None; ended = Done })
  single_found set meets =
      record {
        is_true = set_is_true normal mode set meets.answers;
        answers =
            inl (gained_by_set normal mode cand set
            (shows_by normal mode cand set is candidate meets.answers
            (All-head (IsTrueIn (extension normal set set)) (test_literal normal.names mode cand)
            [] meets.assumed)));
        done = refl;
      }

  pub single_none : (core : Core) → IsCoreFor normal one_asked core → length core.lits ≡ 0
      → IsAnswer normal mode (Single cand)
      (record { sets = []; proved = []; coherent = Some false; ended = Done })
  single_none core core_is empty =
      record {
        is_true =
            incoherent_is_true normal mode
            (no_answer_set normal one_asked core core_is (empty_list core.lits empty)
            (λ some. false≢true (core_is.asks some)));
        answers = inr refl;
        done = refl;
      }

  pub single_proved : (core : Core) → IsCoreFor normal one_asked core
      → IsAnswer normal mode (Single cand)
      (record { sets = []; proved = cand ∷ []; coherent = None; ended = Done })
  single_proved core core_is =
      record {
        is_true =
            proved_is_true normal mode (cand ∷ [])
            (All-cons (IsProvedCandidate normal mode) cand []
            (proved_by normal mode cand is candidate
            (λ set answers is_true.
            core_is.unmet set
            (record {
              answers = answers;
              lits =
                  All-weaker (Contains one_asked.assume) (IsTrueIn (extension normal set set))
                  (λ lit among.
                  All-contains (IsTrueIn (extension normal set set)) one_asked.assume lit
                  (All-cons (IsTrueIn (extension normal set set))
                  (test_literal normal.names mode cand) [] is_true
                  (All-nil (IsTrueIn (extension normal set set)))) among)
                  core.lits core_is.among;
              any = λ some. absurd (false≢true (core_is.asks some));
            })))
            (All-nil (IsProvedCandidate normal mode)));
        answers = inl (inr (0, omega arith, refl));
        done = refl;
      }
