-- Rounds that were opened, and what is ready for a round.
use Rattle.std.proofs.Common.{◌≡◌, ◌≤◌, ◌<◌, ◌⊎◌, ℕ, Bool, false, List, length, refl, sym, ap}
use Rattle.std.proofs.Common.{◌∙◌, subst, arith, Option, None, length-append}
use Rattle.std.specs.Prelude.{Contains, IfSome}
use Rattle.ground_program.specs.declared.program.Mode.{Mode}
use Rattle.clause_store.specs.declared.literal.Lit.{Lit}
use Rattle.normal_program.specs.declared.normal.Normal.{Normal}
use Rattle.normal_program.specs.Clauses.{base_clauses}
use Rattle.normal_program.specs.Limit.{IsNormal}
use Rattle.coherence_test.specs.Testing.{selectors}
use Rattle.worker_jobs.specs.declared.job.Job.{Job}
use Rattle.worker_jobs.specs.Job.{IsJobOver}
use Rattle.worker_strategies.specs.declared.kept.Begun.{Begun}
use Rattle.worker_strategies.specs.Disjunction.{disjunction_for}
use Rattle.worker_strategies.specs.Rounds.{Desk, IsBegun, IsReady, main_of, opened_desk, working}
use Rattle.worker_strategies.specs.Testing.{HasRoomFor, IsFrontOf}
use Rattle.worker_strategies.specs.Working.{HasBegun, HasSelectorFor}
use Rattle.worker_strategies.proofs.TestLemmas.{front_itself, take_front}
use Rattle.worker_strategies.proofs.RoundLemmas.{mid_ready, opened_is}

-- rounds that were opened are ready
pub opened_ready : (normal : Normal) (mode : Mode) (number budget : ℕ) → IsNormal normal
    → 1 ≤ budget → IsReady (opened_desk normal mode number budget)
opened_ready normal mode number budget is some =
    record {
      is_normal = is;
      some = some;
      complete = refl;
      is_main = opened_is normal;
      is_first = tt;
      base = front_itself (base_clauses normal);
      front = front_itself (base_clauses normal);
      keeps = tt;
    }

-- the present test began with the base clauses
pub has_begun : (desk : Desk) (dead : Bool) → IsReady desk → HasBegun (working desk dead)
has_begun desk dead ready =
    let front = ready.front in
    let all = (main_of desk).clauses in
    let sizes =
    ap (λ clauses. length clauses) front.is ∙ length-append desk.began front.rest in
    record {
      base =
          subst (IsFrontOf (base_clauses desk.normal)) (sym (take_front desk.began all front))
          ready.base;
      within = omega (arith, sizes);
    }

-- a selector is there for the main tester
room_of : (some : Option (List Lit)) (disjunctions : List (List Lit)) (one two : Normal)
    → one ≡ two
    → IfSome some
    (λ any. Contains disjunctions any ⊎ (length disjunctions < selectors two))
    → IfSome some
    (λ any. Contains disjunctions any ⊎ (length disjunctions < selectors one))
room_of some disjunctions one two same has =
    subst
    (λ normal. IfSome some
    (λ any. Contains disjunctions any ⊎ (length disjunctions < selectors normal))) (sym same) has

pub room_for : (desk : Desk) (job : Job) → IsReady desk → HasSelectorFor (working desk false) job
    → HasRoomFor (main_of desk) (disjunction_for desk.normal.names desk.mode job)
room_for desk job ready has =
    room_of (disjunction_for desk.normal.names desk.mode job) (main_of desk).disjunctions
    (main_of desk).normal desk.normal ready.is_main.same has

-- ---- once a round has begun

module _ (old mid : Desk) (job : Job) (begun : Begun) (ready : IsReady old)
    (is : IsBegun old job mid.began begun)
    (same : mid ≡ record old { kept = None; began = mid.began }) where
  -- all is ready
  pub begun_ready : IsReady mid
  begun_ready = subst IsReady (sym same) (mid_ready old ready job mid.began begun is)

  -- its job is over the names
  pub begun_over : IsJobOver old.normal.names job → IsJobOver mid.normal.names job
  begun_over over = subst (λ (it : Desk). IsJobOver it.normal.names job) (sym same) over

  -- and a selector is there
  pub begun_room : HasSelectorFor (working old false) job
      → HasRoomFor (main_of mid) (disjunction_for mid.normal.names mid.mode job)
  begun_room has =
      subst
      (λ (it : Desk). HasRoomFor (main_of it) (disjunction_for it.normal.names it.mode job))
      (sym same) (room_for old job ready has)
