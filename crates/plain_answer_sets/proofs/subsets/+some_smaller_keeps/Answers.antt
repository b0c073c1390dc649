use Rattle.std.proofs.Common.{ap, sym, ◌∙◌, set, true, false, true≢false}
use Rattle.plain_answer_sets.proofs.CutLemmas.{place_read, put_back, end_exactly, absent_exactly}
use Rattle.plain_answer_sets.proofs.CutLemmas.{present_exactly}
use Rattle.plain_answer_sets.proofs.subsets.+some_smaller_keeps.Goals as goal

pub returns-then-at-len-clause-found : goal.returns-then-at-len-clause-found
returns-then-at-len-clause-found t c =
    end_exactly _ _ c.args.trial.now c.args.at _ (c.if-at-len.true ∙ c.len.ensures)
    c.is_other_keeper.ensures

pub returns-then-not-get-clause-found : goal.returns-then-not-get-clause-found
returns-then-not-get-clause-found t c =
    let before = c.if-some_smaller_keeps.ensures in
    let read = place_read _ _ c.args.at _ _ before.same c.get.ensures c.if-not-get.true in
    absent_exactly _ _ c.args.trial.now c.args.at _ read.1 before.found

pub returns-clause-same : goal.returns-clause-same
returns-clause-same t c =
    let before = c.if-some_smaller_keeps.ensures in
    let read = place_read _ _ c.args.at _ _ before.same c.get.ensures c.if-not-get.false in
    let written = c.set.ensures ∙ ap (λ xs. set xs c.args.at false) before.same in
    c.set-2.ensures ∙ ap (λ xs. set xs c.args.at true)
    (c.some_smaller_keeps-found.ensures.same ∙ written)
    ∙ put_back c.args.trial.now c.args.at read.1

pub returns-clause-found : goal.returns-clause-found
returns-clause-found t c =
    let before = c.if-some_smaller_keeps.ensures in
    let read = place_read _ _ c.args.at _ _ before.same c.get.ensures c.if-not-get.false in
    let written = c.set.ensures ∙ ap (λ xs. set xs c.args.at false) before.same in
    present_exactly _ _ c.args.trial.now _ c.args.at _ read.0 read.1 written
    (λ some. true≢false (sym (before.found.1 some))) c.some_smaller_keeps-found.ensures.found
