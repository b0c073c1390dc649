use Rattle.std.proofs.Common.{rules, subst, sym}
use Rattle.ground_program.specs.Meaning.{IsAnswerSet}
use Rattle.normal_program.specs.declared.normal.Normal.{Normal}
use Rattle.normal_program.specs.Normal.{IsAnswerSetN}
use Rattle.normal_program.proofs.NormalLemmas.{SameAnswerSets-normal_form}
use Rattle.client_reads.proofs.client.Client.offer.Goals as goal

pub report_set-requires-clause-answer : goal.report_set-requires-clause-answer
report_set-requires-clause-answer c =
    let it = c.self.inside in
    let set = c.args.set.now in
    let answer : IsAnswerSet it.program.now set = search rules in
    subst (λ (n : Normal). IsAnswerSetN n set) (sym c.self.invariant.about)
    ((SameAnswerSets-normal_form it.normal.now it.program.now c.self.invariant.form set).1 answer)
