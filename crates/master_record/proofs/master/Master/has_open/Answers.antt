use Rattle.std.proofs.Common.{◌≤◌, length, sym, subst, ◌∙◌, nat_lt}
use Rattle.std.specs.Prelude.{IsTrue, ◌↔◌}
use Rattle.master_record.specs.Course.{IsLeast, is_open_at}
use Rattle.master_record.specs.Books.{Books, open_own, open_list}
use Rattle.master_record.proofs.OpenListLemmas.{some_open}
use Rattle.master_record.proofs.master.Master.has_open.Goals as goal

pub returns : goal.returns
returns c =
    let it = c.self.inside in
    let books : Books = record {
      normal = it.normal.now;
      mode = it.mode;
      strategy = it.strategy;
      budget = it.budget;
      answers = it.answers;
      pair = it.candidates.pair;
      coherence = it.coherence;
      own = open_own it.candidates.pair it.own.items;
      incoherent = it.incoherent;
      workers = it.workers.items;
    } in
    subst (λ (b : Books).
    IsTrue (nat_lt c.least_open.result c.count.result) ↔ (1 ≤ length (open_list b)))
    c.self.view_is
    (some_open books c.count.result c.least_open.result
    (c.count.ensures.count ∙ c.self.invariant.count)
    (subst (λ n. IsLeast (is_open_at it.candidates.pair) n c.least_open.result)
    (sym c.count.ensures.count) c.least_open.ensures))
