use Rattle.std.proofs.Common.{sym}
use Rattle.master_record.proofs.ShownLemmas.{first_here, hidden_more, hidden_all}
use Rattle.master_record.proofs.settling.first_shown.Goals as goal

pub returns-in-Some : goal.returns-in-Some
returns-in-Some c =
    first_here c.args.names.now c.args.mode c.args.cand c.args.answers.now c.loop-line.line-index
    c.line-item.result c.loop-line-test.true (sym c.line-item.is) c.loop-line.invariant c.in-Some.by
    c.in-Some.ensures

pub loop-line-preserved : goal.loop-line-preserved
loop-line-preserved c =
    hidden_more c.args.names.now c.args.mode c.args.cand c.args.answers.now c.loop-line.line-index
    c.line-item.result c.loop-line-test.true (sym c.line-item.is) c.loop-line.invariant
    c.in_default.ensures

pub returns : goal.returns
returns c =
    hidden_all c.args.names.now c.args.mode c.args.cand c.args.answers.now c.loop-line.line-index
    c.loop-line-test.false c.loop-line.invariant
