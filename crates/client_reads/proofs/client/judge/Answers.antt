use Rattle.std.proofs.Common.{rules}
use Rattle.ground_program.specs.Models.{IsModel}
use Rattle.minimality_test.specs.Minimality.{HasCountedWithin}
use Rattle.client_reads.proofs.OfferLemmas.{keeps_normal, answer_from}
use Rattle.client_reads.proofs.client.judge.Goals as goal

pub smaller-requires-clause-keeps : goal.smaller-requires-clause-keeps
smaller-requires-clause-keeps c =
    let model : IsModel c.args.program.now c.args.set.now = search rules in
    keeps_normal c.args.normal.now c.args.program.now c.requires.form c.args.set.now c.args.set.now
    model.keeps

pub returns-in-Minimal : goal.returns-in-Minimal
returns-in-Minimal c =
    let model : IsModel c.args.program.now c.args.set.now = search rules in
    let counted : HasCountedWithin c.args.normal.now c.args.set.now c.args.budget.now
    c.smaller.new.budget = search rules in
    record {
      answer = answer_from c.args.normal.now c.args.program.now c.requires.form c.args.set.now
          c.requires.over model c.in-Minimal.ensures.answer.0;
      counted = counted;
    }
