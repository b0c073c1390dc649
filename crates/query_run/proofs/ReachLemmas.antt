-- The clauses beside which units are worth counting only become more.
use Rattle.std.proofs.Common.{◌≡◌, ℕ, List}
use Rattle.std.proofs.Common.{take, get_or, refl, sym, ap, subst, ◌∙◌, inl, inr}
use Rattle.std.proofs.Common.{Option, Some, None}
use Rattle.std.specs.Prelude.{Contains}
use Rattle.std.proofs.lemmas.List.{take-append-le}
use Rattle.std.proofs.lemmas.List.Elements.{All-take, All-contains_itself}
use Rattle.clause_store.specs.declared.literal.Lit.{Lit}
use Rattle.clause_store.specs.Laws.{AreMoreClauses}
use Rattle.worker_jobs.specs.declared.job.Job.{Job}
use Rattle.worker_jobs.specs.declared.gain.Gain.{Gain}
use Rattle.worker_strategies.specs.Working.{Working, KeptTest, HasBegun, HasRounded, BeginsWith}
use Rattle.worker_strategies.proofs.TestLemmas.{front_among, take_front}
use Rattle.query_run.specs.Agreed.{reach, reach_of}

-- clauses among others that are among more
pub more_then : (one two three : List (List Lit)) → AreMoreClauses one two
    → AreMoreClauses two three → AreMoreClauses one three
more_then one two three first second = λ k d within.
    let (j, inside, is) = first k d within in
    let clause : List Lit = get_or one k d in
    let there : Contains three (get_or two j clause) = second j clause inside in
    subst (Contains three) is there

-- the first ones are among all
pub take_among : (n : ℕ) (all : List (List Lit)) → AreMoreClauses (take n all) all
take_among n all = All-take (Contains all) n all (All-contains_itself all)

-- what is reached is among all clauses
pub reach_among : (kept : Option KeptTest) (began : ℕ) (clauses : List (List Lit))
    → AreMoreClauses (reach_of kept began clauses) clauses
reach_among None began clauses = All-contains_itself clauses
reach_among (Some kept) began clauses = take_among began clauses

module _ (old new : Working) (job : Job) (slice : ℕ) (gain : Gain)
    (round : HasRounded old job slice new gain) (begun : HasBegun old) where
  -- the clauses with which the present test began are reached
  began_reaches : (units : List (List Lit)) → BeginsWith old job units new
      → AreMoreClauses (reach old) (take new.began new.clauses)
  began_reaches units (inl goes) =
      let same : reach old ≡ take old.began old.clauses =
      ap (λ (kept : Option KeptTest). reach_of kept old.began old.clauses) goes.kept in
      let longer : take new.began new.clauses ≡ take old.began old.clauses =
      ap (λ n. take n new.clauses) goes.began
      ∙ ap (λ (all : List (List Lit)). take old.began all) round.grows.is
      ∙ take-append-le old.began old.clauses round.grows.rest begun.within in
      subst (λ (all : List (List Lit)). AreMoreClauses (reach old) all) (sym longer)
      (subst (λ (all : List (List Lit)). AreMoreClauses (reach old) all) same
      (All-contains_itself (reach old)))
  began_reaches units (inr anew) =
      let whole : take new.began new.clauses ≡ old.clauses =
      ap (λ n. take n new.clauses) anew.began
      ∙ take_front old.clauses new.clauses round.grows in
      subst (λ (all : List (List Lit)). AreMoreClauses (reach old) all) (sym whole)
      (reach_among old.kept old.began old.clauses)

  pub reach_began : AreMoreClauses (reach old) (take new.began new.clauses)
  reach_began = began_reaches round.begins.0 round.begins.1

  -- what was reached is reached
  pub reach_grows : AreMoreClauses (reach old) (reach new)
  reach_grows = by_kept new.kept refl
    where
      by_kept : (kept : Option KeptTest) → new.kept ≡ kept → AreMoreClauses (reach old) (reach new)
      by_kept None is =
          subst (λ (o : Option KeptTest). AreMoreClauses (reach old) (reach_of o new.began new.clauses))
          (sym is)
          (more_then (reach old) old.clauses new.clauses
          (reach_among old.kept old.began old.clauses)
          (front_among old.clauses new.clauses round.grows))
      by_kept (Some test) is =
          subst (λ (o : Option KeptTest). AreMoreClauses (reach old) (reach_of o new.began new.clauses))
          (sym is) reach_began
