-- The report that the first of three candidates is no consequence, as the first event of one actor.
use Rattle.std.proofs.Common.{◌≡◌, ◌+◌, ℕ, length, refl, sym, subst, arith}
use Rattle.ground_program.specs.declared.program.Mode.TheVariants.{Cautious}
use Rattle.ground_program.specs.Bounds.{IsCandidate}
use Rattle.normal_program.specs.declared.normal.Normal.{Normal}
use Rattle.anytime_core.specs.declared.event.Event.{Event}
use Rattle.anytime_core.specs.declared.event.Event.TheVariants.{ReportOut}
use Rattle.anytime_core.specs.Bits.{HasBit, words_for}
use Rattle.anytime_core.specs.Legal.{IsLegal}
use Rattle.anytime_core.specs.Machine.{Machine, opening, actor_at}
use Rattle.anytime_core.specs.Truth.{IsConsequenceN, IsTrueOut}
use Rattle.bounds_board.proofs.ReportLemmas.{power_bit}

-- the event
abbrev pub first_out : Event
first_out = ReportOut 0 0 1

-- the machine before it
abbrev pub fresh : Normal → Machine
fresh normal = opening normal Cautious 1 1

module _ (normal : Normal) (three : length normal.names ≡ 3)
    (outside : ¬ IsConsequenceN normal Cautious 1) (core : Machine) (is : core ≡ fresh normal) where
  candidate : IsCandidate normal.names 1
  candidate = record { first = omega arith; last = omega (arith, three) }

  first_bit : (bit : ℕ) → HasBit 1 bit
      → IsTrueOut normal Cautious (1 + words_for (length normal.names) + 0) bit
  first_bit bit has = record {
    cand = 1;
    candidate = candidate;
    word = refl;
    number = power_bit 0 bit has;
    holds = outside;
  }

  fresh_legal : IsLegal (fresh normal) first_out
  fresh_legal = record {
    actor = omega arith;
    exists = omega (arith, three);
    bits = first_bit;
  }

  pub legal : IsLegal core first_out
  legal = subst (λ (machine : Machine). IsLegal machine first_out) (sym is) fresh_legal

  pub few_steps : (actor_at core 0).steps ≡ 0
  few_steps = subst (λ (machine : Machine). (actor_at machine 0).steps ≡ 0) (sym is) refl
