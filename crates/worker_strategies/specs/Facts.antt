-- Candidates that are proved by what a tester knows at level 0.
use Rattle.std.specs.Prelude.{◌≡◌, ◌≤◌, ◌<◌, ℕ, List, [], ◌++◌, length, All, IfSome, Option}
use Rattle.ground_program.specs.declared.program.Mode.{Mode}
use Rattle.clause_store.specs.declared.literal.Lit.{Lit}
use Rattle.normal_program.specs.declared.normal.Normal.{Normal}
use Rattle.worker_jobs.specs.declared.gain.Gain.{Gain}
use Rattle.worker_jobs.specs.Gain.{IsProvedCandidate}
use Rattle.worker_strategies.specs.declared.facts.Facts.{Facts}
use Rattle.worker_strategies.specs.Links.{HasCode, Linked}

-- candidates of a test literal came last
pub record HasProved (links : Linked) (lit : Lit) (old new : List ℕ) : Type 0 where
  pub more : List ℕ
  pub is : new ≡ old ++ more
  pub each : All (HasCode links.normal.names links.mode lit.0) more

-- proved candidates came last
pub record ProvesMore (normal : Normal) (mode : Mode) (old new : List ℕ) : Type 0 where
  pub more : List ℕ
  pub is : new ≡ old ++ more
  pub each : All (IsProvedCandidate normal mode) more

-- what is kept between rounds, if there are at least 64 candidates
pub record AreOf (normal : Normal) (mode : Mode) (facts : Facts) : Type 0 where
  pub links : facts.links ≡ record { normal = normal; mode = mode }
  pub many : 64 ≤ length normal.names

abbrev pub AreFactsOf : Normal → Mode → Option Facts → Type 0
AreFactsOf normal mode facts = IfSome facts (AreOf normal mode)

-- a gain that proves something may prove more, if there are at least 64 candidates
pub record IsCompleted (normal : Normal) (mode : Mode) (old new : Gain) : Type 0 where
  pub rest : new ≡ record old { proved = new.proved }
  pub proved : ProvesMore normal mode old.proved new.proved
  pub some : old.proved ≡ [] → new.proved ≡ []
  pub few : length normal.names < 64 → new.proved ≡ old.proved
