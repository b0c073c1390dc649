use Rattle.std.proofs.Common.{◌≡◌, ◌≤◌, ℕ, refl, sym, subst, ◌∙◌, arith, nat_eq}
use Rattle.std.specs.Prelude.{IsTrue, ◌↔◌}
use Rattle.master_record.specs.Course.{IsLeast, is_left_at}
use Rattle.master_record.specs.Books.{Books, open_own}
use Rattle.master_record.specs.Verdicts.{IsSpentOut}
use Rattle.master_record.proofs.LeftLemmas.{spent_iff}
use Rattle.master_record.proofs.master.Master.is_spent_out.Goals as goal

pub returns-else-self-eq0 : goal.returns-else-self-eq0
returns-else-self-eq0 c =
    let it = c.self.inside in
    let books : Books = record {
      normal = it.normal.now;
      mode = it.mode;
      strategy = it.strategy;
      budget = it.budget;
      answers = it.answers;
      pair = it.candidates.pair;
      coherence = it.coherence;
      own = open_own it.candidates.pair it.own.items;
      incoherent = it.incoherent;
      workers = it.workers.items;
    } in
    let some : 1 ≤ it.answers = omega (arith, c.if-self-eq0.false) in
    subst (λ (b : Books). IsTrue (nat_eq c.least_left.result c.count.result) ↔ IsSpentOut b)
    c.self.view_is
    (spent_iff books it.candidates.left it.own.items c.count.result c.least_left.result
    (c.count.ensures.count ∙ c.self.invariant.count)
    refl c.self.invariant.left_is
    (subst (λ n. IsLeast (is_left_at it.candidates.left) n c.least_left.result)
    (sym c.count.ensures.count) c.least_left.ensures)
    some)
