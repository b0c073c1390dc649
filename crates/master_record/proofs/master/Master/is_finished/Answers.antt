use Rattle.std.proofs.Common.{◌≡◌, ◌≤◌, ℕ, sym, subst, ◌∙◌, arith, nat_eq}
use Rattle.std.specs.Prelude.{IsTrue, ◌↔◌}
use Rattle.master_record.specs.Course.{IsLeast, is_open_at}
use Rattle.master_record.specs.Books.{Books, open_own}
use Rattle.master_record.specs.Verdicts.{IsFinished}
use Rattle.master_record.proofs.FoundLemmas.{finished_iff}
use Rattle.master_record.proofs.master.Master.is_finished.Goals as goal

pub returns-then-self-gt0 : goal.returns-then-self-gt0
returns-then-self-gt0 c =
    let it = c.self.inside in
    let books : Books = record {
      normal = it.normal.now;
      mode = it.mode;
      strategy = it.strategy;
      budget = it.budget;
      answers = it.answers;
      pair = it.candidates.pair;
      coherence = it.coherence;
      own = open_own it.candidates.pair it.own.items;
      incoherent = it.incoherent;
      workers = it.workers.items;
    } in
    let some : 1 ≤ it.answers = omega (arith, c.if-self-gt0.true) in
    subst (λ (b : Books). IsTrue (nat_eq c.least_open.result c.count.result) ↔ IsFinished b)
    c.self.view_is
    (finished_iff books c.count.result c.least_open.result
    (c.count.ensures.count ∙ c.self.invariant.count)
    (subst (λ n. IsLeast (is_open_at it.candidates.pair) n c.least_open.result)
    (sym c.count.ensures.count) c.least_open.ensures)
    some)
