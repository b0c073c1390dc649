use Rattle.std.proofs.Common.{sym, ◌∙◌}
use Rattle.report_reader.proofs.LoopLemmas.{cut_before, cut_onward, stands_at, none_before}
use Rattle.report_reader.proofs.LoopLemmas.{none_onward}
use Rattle.report_reader.proofs.field_text.split_before.Goals as goal

pub returns-then-byte-end-clause-before : goal.returns-then-byte-end-clause-before
returns-then-byte-end-clause-before c =
    let end = c.args.end in
    let bytes = c.args.bytes.now in
    c.split_at.ensures.front
    ∙ sym (cut_before end bytes c.loop-at.at c.loop-at.invariant
    (stands_at end bytes c.loop-at.at c.loop-at-test.true c.if-byte-end.true))

pub returns-then-byte-end-clause-onward : goal.returns-then-byte-end-clause-onward
returns-then-byte-end-clause-onward c =
    let end = c.args.end in
    let bytes = c.args.bytes.now in
    c.split_at.ensures.back
    ∙ sym (cut_onward end bytes c.loop-at.at c.loop-at.invariant
    (stands_at end bytes c.loop-at.at c.loop-at-test.true c.if-byte-end.true))

pub returns-clause-before : goal.returns-clause-before
returns-clause-before c =
    sym (none_before c.args.end c.args.bytes.now c.loop-at.at c.loop-at-test.false
    c.loop-at.invariant)

pub returns-clause-onward : goal.returns-clause-onward
returns-clause-onward c =
    sym (none_onward c.args.end c.args.bytes.now c.loop-at.at c.loop-at-test.false
    c.loop-at.invariant)
