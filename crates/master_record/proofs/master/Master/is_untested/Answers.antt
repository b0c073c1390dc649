use Rattle.std.proofs.Common.{Bool, refl, sym, subst}
use Rattle.std.specs.Prelude.{IsTrue, ◌↔◌}
use Rattle.master_record.specs.Books.{Books, open_own}
use Rattle.master_record.specs.Jobs.{IsUntested}
use Rattle.master_record.proofs.UntestedLemmas.{untested_iff}
use Rattle.master_record.proofs.master.Master.is_untested.Goals as goal

pub returns : goal.returns
returns c =
    let it = c.self.inside in
    let books : Books = record {
      normal = it.normal.now;
      mode = it.mode;
      strategy = it.strategy;
      budget = it.budget;
      answers = it.answers;
      pair = it.candidates.pair;
      coherence = it.coherence;
      own = open_own it.candidates.pair it.own.items;
      incoherent = it.incoherent;
      workers = it.workers.items;
    } in
    subst (λ (b : Books). IsTrue c.is_left.result ↔ IsUntested b c.args.cand) c.self.view_is
    (subst (λ (b : Bool). IsTrue b ↔ IsUntested books c.args.cand) (sym c.is_left.ensures)
    (untested_iff books it.candidates.left it.own.items refl c.self.invariant.left_is
    c.self.invariant.sound.encloses.over c.args.cand c.requires))
