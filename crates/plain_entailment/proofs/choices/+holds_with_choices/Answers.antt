use Rattle.plain_entailment.proofs.ChoiceLemmas.{first_and_rest, told_of, end_exactly, off_fails}
use Rattle.plain_entailment.proofs.ChoiceLemmas.{on_never, on_exactly}
use Rattle.std.proofs.Common.{refl}
use Rattle.plain_entailment.proofs.choices.+holds_with_choices.Goals as goal

pub returns-in-empty : goal.returns-in-empty
returns-in-empty t c =
    end_exactly c.args.base.now c.args.clause.now c.args.disjunctions.now c.args.values.now _
    c.in-empty.len_below
    (told_of _ _ c.args.values.now _ c.args.clause.now c.as_slice.ensures refl c.holds.ensures)

pub returns-then-not-branch : goal.returns-then-not-branch
returns-then-not-branch t c =
    let split =
    first_and_rest c.args.disjunctions.now _ c.in-len1-up.len_at_least c.first-item.is in
    off_fails c.args.base.now c.args.clause.now c.args.disjunctions.now _ _ c.args.values.now _ _
    split c.in_ok-off-in-len1-up.ensures c.if-not-branch.true
    c.in_ok-holds_with_choices-in-len1-up.ensures

pub returns-then-not-holds : goal.returns-then-not-holds
returns-then-not-holds t c =
    let split =
    first_and_rest c.args.disjunctions.now _ c.in-len1-up.len_at_least c.first-item.is in
    let tells =
    told_of _ _ c.args.base.now _ _ c.as_slice-in-len1-up.ensures
    c.as_slice-in-len1-up-2.ensures c.holds-in-len1-up.ensures in
    on_never c.args.base.now c.args.clause.now c.args.disjunctions.now _ _ c.args.values.now _ _ _
    split c.in_ok-off-in-len1-up.ensures c.if-not-branch.false
    c.in_ok-holds_with_choices-in-len1-up.ensures
    c.if-not-holds.true tells

pub returns-in_ok-on-in-len1-up : goal.returns-in_ok-on-in-len1-up
returns-in_ok-on-in-len1-up t c =
    let split =
    first_and_rest c.args.disjunctions.now _ c.in-len1-up.len_at_least c.first-item.is in
    let tells =
    told_of _ _ c.args.base.now _ _ c.as_slice-in-len1-up.ensures
    c.as_slice-in-len1-up-2.ensures c.holds-in-len1-up.ensures in
    on_exactly c.args.base.now c.args.clause.now _ c.args.disjunctions.now _ _ c.args.values.now _ _
    _ _
    split c.in_ok-off-in-len1-up.ensures c.if-not-branch.false
    c.in_ok-holds_with_choices-in-len1-up.ensures
    c.if-not-holds.false tells c.in_ok-on-in-len1-up.ensures c.holds_with_choices-in-len1-up.ensures
