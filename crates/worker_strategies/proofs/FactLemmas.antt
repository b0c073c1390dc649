-- Candidates that are proved by what a tester knows at level 0.
use Rattle.std.proofs.Common.{◌≡◌, ◌∙◌, ◌++◌, ◌∷◌, [], ℕ, false, List, refl, sym, ap, subst}
use Rattle.std.proofs.Common.{arith, inl, inr, append_assoc}
use Rattle.std.specs.Prelude.{All, Any, Contains, Option}
use Rattle.std.proofs.lemmas.List.{append-nil}
use Rattle.std.proofs.lemmas.List.Elements.{All-append, All-nil, All-push, All-weaker}
use Rattle.std.proofs.lemmas.List.Elements.{Contains-append_left}
use Rattle.ground_program.specs.declared.program.Mode.{Mode}
use Rattle.clause_store.specs.declared.literal.Lit.{Lit}
use Rattle.clause_store.specs.Clause.{IsTrueIn, variable}
use Rattle.clause_store.proofs.LiteralLemmas.{lit_of_code}
use Rattle.normal_program.specs.declared.normal.Normal.{Normal}
use Rattle.normal_program.specs.Normal.{extension}
use Rattle.normal_program.specs.Limit.{IsNormal}
use Rattle.coherence_test.specs.Asked.{IsRefuted}
use Rattle.worker_jobs.specs.declared.job.Job.{Job}
use Rattle.worker_jobs.specs.declared.job.Job.TheVariants.{Idle, Coherence, Single, Reduce, Chunk}
use Rattle.worker_jobs.specs.declared.gain.Gain.{Gain}
use Rattle.worker_jobs.specs.declared.gain.RoundEnd.{RoundEnd}
use Rattle.worker_jobs.specs.declared.gain.RoundEnd.TheVariants.{Done, Settled, Paused, Spent}
use Rattle.worker_jobs.specs.declared.gain.RoundEnd.TheVariants.{SpentWide, NoMemory}
use Rattle.worker_jobs.specs.Gain.{Answers, HasGained, IsProvedCandidate, IsTrueGain}
use Rattle.worker_jobs.specs.Job.{test_literal}
use Rattle.worker_strategies.specs.declared.facts.Facts.{Facts}
use Rattle.worker_strategies.specs.Facts.{AreFactsOf, HasProved, IsCompleted, ProvesMore}
use Rattle.worker_strategies.specs.Links.{HasCode, IsNext, Linked}
use Rattle.worker_strategies.specs.Laws.{IsRound}
use Rattle.worker_strategies.specs.Rounds.{Desk, working}
use Rattle.worker_strategies.specs.Working.{EndsBy, HasRounded, IsSameWorker, Working}
use Rattle.worker_strategies.proofs.GainLemmas.{proved_by}
use Rattle.worker_strategies.proofs.ReduceLemmas.{test_over}

-- ---- candidates that come last

pub none_come : (links : Linked) (lit : Lit) (cands : List ℕ) → HasProved links lit cands cands
none_come links lit cands =
    record {
      more = [];
      is = sym (append-nil cands);
      each = All-nil (HasCode links.normal.names links.mode lit.0);
    }

pub one_comes : (links : Linked) (lit : Lit) (old new last : List ℕ) (cand : ℕ)
    → HasProved links lit old new → HasCode links.normal.names links.mode lit.0 cand
    → last ≡ new ++ cand ∷ [] → HasProved links lit old last
one_comes links lit old new last cand has code pushed =
    record {
      more = has.more ++ cand ∷ [];
      is = pushed ∙ ap (λ all. all ++ cand ∷ []) has.is ∙ append_assoc old has.more (cand ∷ []);
      each =
          All-push (HasCode links.normal.names links.mode lit.0) has.more cand has.each code;
    }

-- the next smaller candidate of the same literal
pub next_code : (links : Linked) (lit : Lit) (cand next : ℕ)
    → HasCode links.normal.names links.mode lit.0 cand
    → IsNext links.normal.names links.mode cand next
    → HasCode links.normal.names links.mode lit.0 next
next_code links lit cand next code is =
    record { candidate = is.has.candidate; same = is.has.same ∙ code.same }

pub no_more : (normal : Normal) (mode : Mode) (cands : List ℕ) → ProvesMore normal mode cands cands
no_more normal mode cands =
    record {
      more = [];
      is = sym (append-nil cands);
      each = All-nil (IsProvedCandidate normal mode);
    }

-- a candidate whose test literal is refuted is proved
refuted_is_proved : (normal : Normal) (mode : Mode) (lit : Lit) (cand : ℕ) → IsNormal normal
    → IsRefuted normal lit → HasCode normal.names mode lit.0 cand
    → IsProvedCandidate normal mode cand
refuted_is_proved normal mode lit cand is refuted has =
    let same : test_literal normal.names mode cand ≡ lit =
    lit_of_code (test_literal normal.names mode cand) lit has.same in
    let low = (test_over normal mode cand is has.candidate).last in
    proved_by normal mode cand is has.candidate
    (λ set answers is_true.
    refuted set answers
    (let var = ap variable same in omega (arith, var, low))
    (subst (IsTrueIn (extension normal set set)) same is_true))

-- so the candidates of a refuted literal come last, as proved ones
pub refuted_come : (links : Linked) (lit : Lit) (old new last : List ℕ) → IsNormal links.normal
    → IsRefuted links.normal lit → ProvesMore links.normal links.mode old new
    → HasProved links lit new last → ProvesMore links.normal links.mode old last
refuted_come links lit old new last is refuted proves has =
    record {
      more = proves.more ++ has.more;
      is = has.is ∙ ap (λ all. all ++ has.more) proves.is
          ∙ append_assoc old proves.more has.more;
      each =
          All-append (IsProvedCandidate links.normal links.mode) proves.more has.more
          proves.each
          (All-weaker (HasCode links.normal.names links.mode lit.0)
          (IsProvedCandidate links.normal links.mode)
          (λ cand code. refuted_is_proved links.normal links.mode lit cand is refuted code)
          has.more has.each);
    }

-- where the links are those of the normal form
pub looked_come : (normal : Normal) (links first : Linked) (lit : Lit) (old new last : List ℕ)
    → IsNormal normal → IsRefuted normal lit → first.normal ≡ normal → links ≡ first
    → ProvesMore normal first.mode old new → HasProved links lit new last
    → ProvesMore normal first.mode old last
looked_come normal links first lit old new last is refuted of same proves has =
    refuted_come (record { normal = normal; mode = first.mode }) lit old new last is refuted proves
    (subst (λ it. HasProved (record { normal = it; mode = first.mode }) lit new last) of
    (subst (λ it. HasProved it lit new last) same has))

-- ---- a gain that is completed

-- nothing is added
pub completed_same : (normal : Normal) (mode : Mode) (gain : Gain)
    → IsCompleted normal mode gain gain
completed_same normal mode gain =
    record {
      rest = refl;
      proved = no_more normal mode gain.proved;
      some = λ none. none;
      few = λ below. refl;
    }

module _ (normal : Normal) (mode : Mode) (old : Gain) (proved : List ℕ)
    (proves : ProvesMore normal mode old.proved proved)
    (some : old.proved ≡ [] → proved ≡ []) where
  abbrev new : Gain
  new = record old { proved = proved }

  -- it is still true
  still_true : IsTrueGain normal mode old → IsTrueGain normal mode new
  still_true is =
      record {
        sets = is.sets;
        proved =
            subst (All (IsProvedCandidate normal mode)) (sym proves.is)
            (All-append (IsProvedCandidate normal mode) old.proved proves.more is.proved
            proves.each);
        coherent = is.coherent;
      }

  still_gained : (cand : ℕ) → HasGained normal.names mode old cand
      → HasGained normal.names mode new cand
  still_gained cand (inl shown) = inl shown
  still_gained cand (inr here) =
      inr
      (subst (λ all. Contains all cand) (sym proves.is)
      (Contains-append_left old.proved proves.more cand here))

  still_some : (cands : List ℕ) → Any (HasGained normal.names mode old) cands
      → Any (HasGained normal.names mode new) cands
  still_some cands (at, cand, within, here, has) =
      (at, cand, within, here, still_gained cand has)

  -- it still answers the job
  still_answers : (job : Job) → Answers normal.names mode job old
      → Answers normal.names mode job new
  still_answers Idle is =
      record { sets = is.sets; proved = some is.proved; coherent = is.coherent }
  still_answers Coherence is = is
  still_answers (Single cand) (inl has) = inl (still_gained cand has)
  still_answers (Single cand) (inr none) = inr none
  still_answers (Reduce cands) (inl has) = inl (still_some cands has)
  still_answers (Reduce cands) (inr none) = inr none
  still_answers (Chunk cands) (inl has) = inl (still_some cands has)
  still_answers (Chunk cands) (inr none) = inr none

-- the round still ends so
module _ (before after : Working) (job : Job) (slice : ℕ) (old : Gain) (proved : List ℕ)
    (proves : ProvesMore before.normal before.mode old.proved proved)
    (some : old.proved ≡ [] → proved ≡ []) where
  still_ends : (ended : RoundEnd) → EndsBy before job slice after old ended
      → EndsBy before job slice after (record old { proved = proved }) ended
  still_ends Done is =
      record {
        answers =
            still_answers before.normal before.mode old proved proves some job is.answers;
        nothing = is.nothing;
        counted = is.counted;
      }
  still_ends Settled is = is
  still_ends Paused is = is
  still_ends (Spent test) is = is
  still_ends (SpentWide test) is = is
  still_ends NoMemory is = is

  still_rounded : HasRounded before job slice after old
      → HasRounded before job slice after (record old { proved = proved })
  still_rounded has =
      record {
        same = has.same;
        grows = has.grows;
        uses = has.uses;
        begins = has.begins;
        ends = still_ends old.ended has.ends;
      }

-- a gain that was completed is true, and the round did what a round does
completed_true : (normal : Normal) (mode : Mode) (old new : Gain)
    → IsCompleted normal mode old new → IsTrueGain normal mode old → IsTrueGain normal mode new
completed_true normal mode old new done is =
    subst (IsTrueGain normal mode) (sym done.rest)
    (still_true normal mode old new.proved done.proved done.some is)

completed_rounded : (before after : Working) (job : Job) (slice : ℕ) (old new : Gain)
    → IsCompleted before.normal before.mode old new → HasRounded before job slice after old
    → HasRounded before job slice after new
completed_rounded before after job slice old new done has =
    subst (HasRounded before job slice after) (sym done.rest)
    (still_rounded before after job slice old new.proved done.proved done.some has)

-- so it is with a round
pub completed_round : (old last : Desk) (job : Job) (slice : ℕ) (gain new : Gain)
    → last.normal ≡ old.normal → last.mode ≡ old.mode → IsRound old last job slice gain
    → IsCompleted last.normal last.mode gain new → IsRound old last job slice new
completed_round old last job slice gain new normal mode is done =
    let here : IsCompleted old.normal old.mode gain new =
    subst (λ it. IsCompleted it old.mode gain new) normal
    (subst (λ it. IsCompleted last.normal it gain new) mode done) in
    record {
      is_ready = is.is_ready;
      is_true = completed_true old.normal old.mode gain new here is.is_true;
      round =
          completed_rounded (working old false) (working last false) job slice gain new here
          is.round;
    }

-- a round keeps whose facts they are
pub facts_same : (old new : Desk) (facts : Option Facts)
    → IsSameWorker (working old false) (working new false)
    → AreFactsOf old.normal old.mode facts → AreFactsOf new.normal new.mode facts
facts_same old new facts same are =
    subst (λ it. AreFactsOf it new.mode facts) (sym same.normal)
    (subst (λ it. AreFactsOf old.normal it facts) (sym same.mode) are)
