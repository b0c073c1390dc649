use Rattle.std.proofs.Common.{◌≤◌, ◌<◌, ◌+◌, ◌^◌, refl, sym, ap, subst, ◌∙◌}
use Rattle.std.specs.Prelude.{All}
use Rattle.anytime_core.specs.Truth.{IsCoherent}
use Rattle.master_record.specs.Books.{Books, open_own}
use Rattle.master_record.specs.Merging.{IsTrueLine, settled_by}
use Rattle.master_record.proofs.KeptLemmas.{kept_settled, settled_is}
use Rattle.master_record.proofs.master.Master.settle.Goals as goal

pub invariant_of-self : goal.invariant_of-self
invariant_of-self c =
    let it = c.self.inside in
    let books : Books = record {
      normal = it.normal.now;
      mode = it.mode;
      strategy = it.strategy;
      budget = it.budget;
      answers = it.answers;
      pair = it.candidates.pair;
      coherence = it.coherence;
      own = open_own it.candidates.pair it.own.items;
      incoherent = it.incoherent;
      workers = it.workers.items;
    } in
    let fits : books.answers + c.args.answers < 2 ^ 32 =
    subst (λ (b : Books). b.answers + c.args.answers < 2 ^ 32) (sym c.self.view_is)
    c.requires.fits in
    let coherent : 1 ≤ c.args.answers → IsCoherent books.normal =
    subst (λ (b : Books). 1 ≤ c.args.answers → IsCoherent b.normal) (sym c.self.view_is)
    c.requires.coherent in
    let holds : All (IsTrueLine books.normal books.mode) c.args.lines.now =
    subst (λ (b : Books). All (IsTrueLine b.normal b.mode) c.args.lines.now) (sym c.self.view_is)
    c.requires.holds in
    kept_settled books it.candidates.left it.own it.room refl c.self.invariant c.args.answers
    c.args.lines.now c.settle.new.self c.settle.ensures fits coherent holds

pub returns : goal.returns
returns c =
    let it = c.self.inside in
    let books : Books = record {
      normal = it.normal.now;
      mode = it.mode;
      strategy = it.strategy;
      budget = it.budget;
      answers = it.answers;
      pair = it.candidates.pair;
      coherence = it.coherence;
      own = open_own it.candidates.pair it.own.items;
      incoherent = it.incoherent;
      workers = it.workers.items;
    } in
    settled_is books it.candidates.left it.own it.room refl c.self.invariant c.args.answers
    c.args.lines.now c.settle.new.self c.settle.ensures
    ∙ ap (λ (b : Books). settled_by b c.args.answers c.args.lines.now) c.self.view_is
