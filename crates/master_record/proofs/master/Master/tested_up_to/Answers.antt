use Rattle.std.proofs.Common.{◌≤◌, ℕ, length, refl, subst}
use Rattle.master_record.specs.Books.{Books, open_own}
use Rattle.master_record.specs.Jobs.{IsUntested}
use Rattle.master_record.proofs.UntestedLemmas.{none_untested}
use Rattle.master_record.proofs.master.Master.tested_up_to.Goals as goal

pub returns-clause-none : goal.returns-clause-none
returns-clause-none c =
    let it = c.self.inside in
    let books : Books = record {
      normal = it.normal.now;
      mode = it.mode;
      strategy = it.strategy;
      budget = it.budget;
      answers = it.answers;
      pair = it.candidates.pair;
      coherence = it.coherence;
      own = open_own it.candidates.pair it.own.items;
      incoherent = it.incoherent;
      workers = it.workers.items;
    } in
    subst (λ (b : Books). (cand : ℕ) → cand ≤ c.least_left.result → ¬ IsUntested b cand)
    c.self.view_is
    (none_untested books it.candidates.left it.own.items refl c.self.invariant.left_is
    c.self.invariant.sound.encloses.over (length it.candidates.left) c.least_left.result
    c.least_left.ensures)
