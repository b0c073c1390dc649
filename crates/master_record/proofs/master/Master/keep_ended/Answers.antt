use Rattle.std.proofs.Common.{◌≡◌, refl, subst}
use Rattle.master_record.specs.Books.{Books, open_own}
use Rattle.master_record.specs.Merging.{with_spent}
use Rattle.master_record.proofs.EndedLemmas.{spends_none}
use Rattle.master_record.proofs.master.Master.keep_ended.Goals as goal

pub returns-in_default : goal.returns-in_default
returns-in_default c =
    let it = c.self.inside in
    let books : Books = record {
      normal = it.normal.now;
      mode = it.mode;
      strategy = it.strategy;
      budget = it.budget;
      answers = it.answers;
      pair = it.candidates.pair;
      coherence = it.coherence;
      own = open_own it.candidates.pair it.own.items;
      incoherent = it.incoherent;
      workers = it.workers.items;
    } in
    record {
      ok = subst (λ (b : Books). b ≡ with_spent b c.args.worker c.args.ended) c.self.view_is
          (spends_none books it.own.items c.args.worker c.args.ended refl
          (record { each = λ test is. c.in_default.not-Spent test is }));
      err = tt;
    }
